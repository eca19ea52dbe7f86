-- An act by its mark: its record, and the length of that record's line; and the process after it.
-- Assumes nothing.
use mathlib.Core.Path.{◌≡◌, refl, sym, ◌∙◌}
use mathlib.Core.Bool.{Bool, true, false, cond, So}
use mathlib.Core.List.{List}
use Prim.Native.Nat.{ℕ, ◌<◌}
use native.Mathlib.Omega.{arith}
use borrow.Author.Tests.{ne_eqb}
use lib.Dec.{eqb}
use lib.ListN.{length, get_or}
use Rattle.paths.proofs.Bools.{left, parts₅}
use Rattle.lines.specs.Line.{line_of}
use Rattle.gran.specs.Lists.{none, member, place}
use Rattle.gran.specs.Policy.{Policy, Entry, USER, GROUP, EXEC}
use Rattle.gran.specs.Match.{path_at, subjects, objects_of, object_in, modes_of}
use Rattle.gran.specs.Access.{sees}
use Rattle.gran.specs.Good.{Good}
use Rattle.gran.specs.Real
use Rattle.gran.specs.Real.{state_of}
use Rattle.gran.specs.Abstract.{Act, set_special, set_user, set_group, exec, abstract, entry, image, may_exec, may, next, id_for, executed, real_act}
use Rattle.gran.specs.declared.State.{State}
use Rattle.gran.specs.declared.Process.{Process}
use Rattle.gran.proofs.Policies.{subjects-named}
use Rattle.gran.proofs.Processes.{taken_is, user_set_is, group_set_is, executing_is}
use Rattle.records.specs.Record.{record_of, step_bytes, after}
use Rattle.records.specs.declared.Step.{Step}
use Rattle.records.proofs.Bytes.{step_line-length}
use Rattle.numbered.specs.Candidates.{label_of}
use Rattle.shown.specs.Shown.{exec_record}
use Rattle.shown.proofs.Four.{one_of, fourth_of}
use Rattle.shown.proofs.Objects.{object-path, object_at, place_low}

-- ---- what an exec needs

module _ (P : Policy) (good : Good P) (α : State) (o u g s : ℕ) (m : So (may P α (exec o u g s))) where
  its_object : So (member o (objects_of (entry P α)))
  unfolding may may_exec
  its_object = (parts₅ (member o (objects_of (entry P α))) (sees (modes_of (entry P α) o) EXEC) _ _ (image P (entry P α) o s) m).0

  its_subject : s < length P.paths
  unfolding may may_exec image
  its_subject = subjects-named P good s (left (member s (subjects P)) _ (parts₅ (member o (objects_of (entry P α))) (sees (modes_of (entry P α) o) EXEC) _ _ (image P (entry P α) o s) m).4)

  -- Its mark is a place, and no other mark.
  label_low : label_of P α (exec o u g s) < 96
  unfolding label_of
  label_low = place_low P good α o its_object

  label-last : {A : Type 0} (w x y z : A) → one_of 96 (label_of P α (exec o u g s)) w x y z ≡ z
  label-last w x y z = fourth_of 96 _ w x y z (λ e. omega (arith, label_low)) (λ e. omega (arith, label_low)) (λ e. omega (arith, label_low))

  -- The executed file is a path.
  file_path : (e : Entry) → eqb (executed P e o s) none ≡ false
  unfolding executed
  file_path e = go (eqb (object_in P e (path_at P.paths s)) o)
    where
      go : (b : Bool) → eqb (cond b s o) none ≡ false
      go true = ne_eqb s none (λ d. omega (arith, its_subject, good.few_paths))
      go false = ne_eqb o none (λ d. omega (arith, object-path P good α o its_object, good.few_paths))

-- ---- the record by its mark

-- In entry e, to the parts of β.
abbrev pub marked : Policy → Entry → Process → ℕ → State → Step
marked P e p label β = one_of 96 label
    (record { kind = 0x81; role = β.special; uid = 0; gid = 0; object = 0; file = 0 })
    (record { kind = 0x82; role = 0; uid = id_for P USER e.users β.user; gid = 0; object = 0; file = 0 })
    (record { kind = 0x83; role = 0; uid = 0; gid = id_for P GROUP e.groups β.group; object = 0; file = 0 })
    (exec_record P e p label β)

module _ (P : Policy) (good : Good P) (α : State) where
  -- An exec's mark is the place of an object.
  pub label_inside : (a : Act) → So (may P α a) → (label_of P α a ≡ 96 → ⊥) → (label_of P α a ≡ 97 → ⊥) → (label_of P α a ≡ 98 → ⊥)
      → (label_of P α a < 96) × (label_of P α a < length (objects_of (entry P α)))
  unfolding label_of
  label_inside (set_special s) m h i j = absurd (h refl)
  label_inside (set_user r) m h i j = absurd (i refl)
  label_inside (set_group r) m h i j = absurd (j refl)
  label_inside (exec o u g s) m h i j = (label_low P good α o u g s m, (object_at P good α o (its_object P good α o u g s m)).inside)

  pub length_is : (σ : Real.State) (a : Act) → So (may P α a) → length (line_of (step_bytes (record_of P σ a))) ≡ one_of 96 (label_of P α a) 5 11 11 23
  unfolding record_of label_of one_of
  length_is σ (set_special s) m = step_line-length (record_of P σ (set_special s))
  length_is σ (set_user r) m = step_line-length (record_of P σ (set_user r))
  length_is σ (set_group r) m = step_line-length (record_of P σ (set_group r))
  length_is σ (exec o u g s) m = step_line-length (record_of P σ (exec o u g s)) ∙ sym (label-last P good α o u g s m 5 11 11 23)

  -- With entry e in force.
  module _ (begin : List ℕ) (p : Process) (e : Entry) (real : Real.entry P (state_of P begin p) ≡ e) (same : entry P α ≡ e) where
    exec_is : (o u g s : ℕ) → So (may P α (exec o u g s)) → record_of P (state_of P begin p) (exec o u g s) ≡ exec_record P e p (label_of P α (exec o u g s)) (next α (exec o u g s))
    unfolding record_of label_of exec_record state_of
    exec_is o u g s m =
        let at : get_or (objects_of e) (place (eqb o) 0 (objects_of e)) none ≡ o = rw same at (object_at P good α o (its_object P good α o u g s m)).is in
        rw (real, same, at)

    pub record_is : (a : Act) → So (may P α a) → record_of P (state_of P begin p) a ≡ marked P e p (label_of P α a) (next α a)
    unfolding record_of label_of one_of state_of
    record_is (set_special s) m = refl
    record_is (set_user r) m = rw real
    record_is (set_group r) m = rw real
    record_is (exec o u g s) m = exec_is o u g s m ∙ sym (label-last P good α o u g s m _ _ _ _)

-- ---- the process after it

module _ (P : Policy) (good : Good P) (begin : List ℕ) (p : Process) where
  after_is : (a : Act) → So (may P (abstract P (state_of P begin p)) a)
      → state_of P begin (after p (record_of P (state_of P begin p) a)) ≡ Real.next (state_of P begin p) (real_act P (state_of P begin p) a)
  unfolding record_of real_act after
  after_is (set_special s) m = taken_is P begin p s
  after_is (set_user r) m = user_set_is P begin p _
  after_is (set_group r) m = group_set_is P begin p _
  after_is (exec o u g s) m = executing_is P begin p _ _ _ (file_path P good _ o u g s m _)

  pub process_is : (r : Step) (a : Act) → So (may P (abstract P (state_of P begin p)) a) → r ≡ record_of P (state_of P begin p) a
      → state_of P begin (after p r) ≡ Real.next (state_of P begin p) (real_act P (state_of P begin p) a)
  process_is r a m e = rw e (after_is a m)
