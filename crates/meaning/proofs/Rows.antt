-- The records of a row that holds have room in their lines.
-- Assumes nothing.
use mathlib.Core.Path.{◌≡◌, sym, subst}
use mathlib.Core.Logic.{◌⊎◌, inl, inr}
use mathlib.Core.Bool.{◌&&◌, So}
use mathlib.Core.List.{List, [], ◌∷◌}
use Prim.Native.Nat.{ℕ, ◌<◌}
use native.Mathlib.Omega.{arith}
use lib.Dec.{eqb, ltb}
use lib.ListN.{length}
use borrow.Author.Tests.{ltb-true}
use Rattle.paths.specs.Path.{is_path}
use Rattle.paths.proofs.Bools.{left, right, either, parts₄, eqb-to}
use Rattle.gran.specs.Lists.{All}
use Rattle.gran.specs.Policy.{Policy, Allowed, SET_UID, SET_GID, EXEC}
use Rattle.gran.specs.Match.{path_at, object_in, objects_of, object_path, modes_of}
use Rattle.gran.specs.Role.{allows}
use Rattle.gran.specs.Access.{has, sees}
use Rattle.gran.specs.Exec.{exec_may}
use Rattle.gran.specs.Good.{Good, GoodObject}
use Rattle.gran.specs.Real.{State, set_special, set_uid, set_gid, exec, entry, role, may, may_exec, state_of}
use Rattle.gran.specs.declared.Process.{Process}
use Rattle.gran.proofs.Lists.{all-key}
use Rattle.gran.proofs.Policies.{Known, may_take_known, allows_range, object_most}
use Rattle.gran.proofs.Step.{entry_good, next_known}
use Rattle.gran.proofs.Counting.{few_roles}
use Rattle.records.specs.declared.Step.{Step}
use Rattle.replay.specs.Replay.{plainly, names, act_of, is_step, after}
use Rattle.replay.proofs.Rows.{all_steps, after_is}
use Rattle.meaning.proofs.Steps.{Narrow, Plain, plain_kinds}

-- ---- the act that a record says, by its kind

module _ (P : Policy) (r : Step) where
  act_special : r.kind ≡ 0x81 → act_of P r ≡ set_special r.role
  unfolding act_of
  act_special k = rw k

  act_user : r.kind ≡ 0x82 → act_of P r ≡ set_uid r.uid
  unfolding act_of
  act_user k = rw k

  act-group : r.kind ≡ 0x83 → act_of P r ≡ set_gid r.gid
  unfolding act_of
  act-group k = rw k

  act-exec : r.kind ≡ 0x84 → act_of P r ≡ exec (path_at P.paths r.file) r.uid r.gid
  unfolding act_of
  act-exec k = rw k

-- an id that is kept, or becomes an allowed one
exec_id : (a : Allowed) (n kept : ℕ) → kept < 4294967296 → So (exec_may (eqb n kept) (allows a n)) → n < 4294967296
unfolding exec_may
exec_id a n kept h t = go (either (eqb n kept) _ t)
  where
    go : So (eqb n kept) ⊎ So (allows a n) → n < 4294967296
    go (inl e) = omega (arith, eqb-to n kept e)
    go (inr u) = omega (arith, allows_range a n u)

module _ (P : Policy) (good : Good P) (begin : List ℕ) where
  -- a special role, or none
  role_small : (s : ℕ) → Known P s → s < 256
  role_small s (inl e) = omega arith
  role_small s (inr h) = omega (arith, h, few_roles P.roles good.roles good.few_users good.few_groups good.few_specials (omega (arith, good.one_default)))

  -- a process under way
  pub record Small (p : Process) : Type 0 where
    pub known : Known P p.special
    pub uid : p.uid < 4294967296
    pub gid : p.gid < 4294967296

  module _ (p : Process) (small : Small p) (r : Step) (t : So (is_step P (state_of P begin p) r)) where
    abbrev σ : State
    σ = state_of P begin p

    step-plain : So (plainly r)
    unfolding is_step
    step-plain = left (plainly r) _ (left (plainly r && names P σ r) _ t)

    step-names : So (names P σ r)
    unfolding is_step
    step-names = right (plainly r) _ (left (plainly r && names P σ r) _ t)

    step-may : So (may P σ (act_of P r))
    unfolding is_step
    step-may = right (plainly r && names P σ r) _ t

    -- the object is one of the entry in force
    object_small : (f : List ℕ) → object_in P (entry P σ) f < length P.paths
    unfolding objects_of state_of
    object_small f =
        let e = entry P σ in
        let g = entry_good P good σ small.known in
        all-key object_path (GoodObject P) (λ (n : ℕ). n < length P.paths) (λ o h. h.path) e.objects g.objects (object_in P e f) (object_most P good e g f).inside

    narrow-exec : r.kind ≡ 0x84 → r.role ≡ 0 → Narrow r
    unfolding names may may_exec state_of
    narrow-exec k s =
        let e = entry P σ in
        let f = path_at P.paths r.file in
        let named : So (ltb r.file (length P.paths) && eqb r.object (object_in P e f)) = rw k at step-names in
        let allowed : So (may_exec P e σ f r.uid r.gid) = rw (act-exec P r k) at step-may in
        let p₄ = parts₄ (is_path f) (sees (modes_of e (object_in P e f)) EXEC) (exec_may (eqb r.uid p.uid) (allows e.users r.uid)) (exec_may (eqb r.gid p.gid) (allows e.groups r.gid)) allowed in
        record {
          plain = step-plain;
          role = omega arith;
          uid = exec_id e.users r.uid p.uid small.uid p₄.2;
          gid = exec_id e.groups r.gid p.gid small.gid p₄.3;
          object = omega (arith, eqb-to r.object (object_in P e f) (right (ltb r.file (length P.paths)) _ named), object_small f, good.few_paths);
          file = omega (arith, ltb-true r.file (length P.paths) (left (ltb r.file (length P.paths)) _ named), good.few_paths);
        }

    step_narrow : Narrow r
    unfolding may
    step_narrow = go (plain_kinds r step-plain)
      where
        go : Plain r → Narrow r
        go (Plain.special k u g o f) =
            let taken = may_take_known P good (role P σ) r.role (rw (act_special P r k) at step-may) in
            record { plain = step-plain; role = role_small r.role taken; uid = omega arith; gid = omega arith; object = omega arith; file = omega arith }
        go (Plain.user k s g o f) =
            let set = allows_range (entry P σ).users r.uid (right (has (entry P σ).caps SET_UID) _ (rw (act_user P r k) at step-may)) in
            record { plain = step-plain; role = omega arith; uid = omega (arith, set); gid = omega arith; object = omega arith; file = omega arith }
        go (Plain.group k s u o f) =
            let set = allows_range (entry P σ).groups r.gid (right (has (entry P σ).caps SET_GID) _ (rw (act-group P r k) at step-may)) in
            record { plain = step-plain; role = omega arith; uid = omega arith; gid = omega (arith, set); object = omega arith; file = omega arith }
        go (Plain.exec k s) = narrow-exec k s

    after_known : Known P (after p r).special
    unfolding state_of
    after_known = subst (λ (τ : State). Known P τ.special) (sym (after_is P good begin p r t)) (next_known P good σ small.known (act_of P r) step-may)

    after_small : Small (after p r)
    unfolding after
    after_small = let ids = go (plain_kinds r step-plain) in record { known = after_known; uid = ids.0; gid = ids.1 }
      where
        go : Plain r → ((after p r).uid < 4294967296) × ((after p r).gid < 4294967296)
        go (Plain.special k u g o f) = rw k (small.uid, small.gid)
        go (Plain.user k s g o f) = rw k (step_narrow.uid, small.gid)
        go (Plain.group k s u o f) = rw k (small.uid, step_narrow.gid)
        go (Plain.exec k s) = rw k (step_narrow.uid, step_narrow.gid)

  pub steps_narrow : (p : Process) → Small p → (rows : List Step) → So (all_steps P begin p rows) → All Narrow rows
  steps_narrow p small [] t = tt
  steps_narrow p small (r ∷ rows) t =
      let here = left (is_step P (state_of P begin p) r) _ t in
      (step_narrow p small r here, steps_narrow (after p r) (after_small p small r here) rows (right (is_step P (state_of P begin p) r) _ t))
