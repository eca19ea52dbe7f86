-- What a loaded store says of a process: its file, its entry, and that no entry lets it do nothing.
-- Assumes nothing.
use mathlib.Core.Path.{◌≡◌, refl, ap, ◌∙◌}
use mathlib.Core.Bool.{Bool, true, false, cond, ◌&&◌, So, and-false}
use mathlib.Core.List.{List, [], ◌∷◌}
use Prim.Native.Nat.{ℕ, ◌≤◌}
use native.Mathlib.Omega.{arith}
use lib.Dec.{eqb, ltb}
use lib.ListN.{length}
use borrow.Author.Tests.{ltb-true}
use Rattle.paths.specs.Path.{is_path}
use Rattle.paths.proofs.Bools.{to-false, eqb-to}
use Rattle.gran.specs.Lists.{All, find}
use Rattle.gran.specs.Policy.{Policy, Entry, EXEC}
use Rattle.gran.specs.Match.{path_at, no_entry, is_entry, object_in, modes_of, entry_of, entry_in, subject_in}
use Rattle.gran.specs.Role.{allows}
use Rattle.gran.specs.Access.{has, sees, grant, grants, asked}
use Rattle.gran.specs.Exec.{exec_may}
use Rattle.gran.specs.Good.{Good, GoodEntry}
use Rattle.gran.specs.Real.{State, set_uid, set_gid, exec, entry, may, may_exec, access, file_of}
use Rattle.gran.proofs.Policies.{table}
use Rattle.store.specs.Held.{Loaded}
use Rattle.fields.proofs.Header.{role-count, path-count}
use Rattle.fields.proofs.Entries.{entry-caps}
use Rattle.fields.proofs.Paths.{path_read}
use Rattle.std.proofs.lemmas.Bool.Decides.{nat_tests}
use Rattle.records.specs.declared.Step.{Step}
use Rattle.replay.specs.Replay.{plainly, names, act_of, last_file}

-- ---- the file

-- What the store says of a process's file is the file.
pub file_is : {P : Policy} {rest store : List ℕ} → Loaded P rest store → (begin : List ℕ) (file : ℕ) → last_file begin store file ≡ file_of P begin file
unfolding last_file file_of
file_is L begin file = rw (path_read L file)

-- ---- no entry

-- A role that is none of the policy's has no entry.
module _ (P : Policy) (r s : ℕ) (past : length P.roles ≤ r) where
  find_none : (es : List Entry) → All (GoodEntry P) es → find (is_entry r s) no_entry es ≡ no_entry
  find_none [] all = refl
  find_none (e ∷ es) all =
      let apart : eqb e.role r ≡ false = to-false _ (λ t. omega (arith, eqb-to e.role r t, all.0.role)) in
      rw (apart, find_none es all.1)

pub entry_unknown : (P : Policy) → Good P → (r : ℕ) (f : List ℕ) → length P.roles ≤ r → entry_in P r f ≡ no_entry
unfolding entry_in entry_of
entry_unknown P good r f past = find_none P r (subject_in P r f) past P.entries good.entries

module _ (P : Policy) (σ : State) (no : entry P σ ≡ no_entry) where
  pub no_access : (kind : ℕ) (t : List ℕ) → access P kind t σ ≡ false
  unfolding access grants grant sees has asked modes_of
  no_access kind t = rw no (go (eqb kind 0))
    where
      go : (b : Bool) → sees 0 (cond b 1 2) ≡ false
      go true = refl
      go false = refl

  -- Only a special role can be set.
  pub no_step : (x : Step) → eqb x.kind 0x81 ≡ false → (names P σ x && may P σ (act_of P x)) ≡ false
  unfolding act_of may may_exec modes_of sees has
  no_step x other = rw other (ap (λ (b : Bool). names P σ x && b) (go (eqb x.kind 0x82) (eqb x.kind 0x83)) ∙ and-false (names P σ x))
    where
      f : List ℕ
      f = path_at P.paths x.file

      go : (u g : Bool) → may P σ (cond u (set_uid x.uid) (cond g (set_gid x.gid) (exec f x.uid x.gid))) ≡ false
      go true g = rw no
      go false true = rw no
      go false false = rw (no, and-false (is_path f))

-- ---- records

-- A plain record of no other kind is an exec's.
pub plain-exec : (x : Step) → eqb x.kind 0x81 ≡ false → eqb x.kind 0x82 ≡ false → eqb x.kind 0x83 ≡ false → So (plainly x) → x.kind ≡ 0x84
unfolding plainly
plain-exec x a b c t = eqb-to x.kind 0x84 (go (eqb x.kind 0x84) (rw (a, b, c) at t))
  where
    go : (e : Bool) → So (cond e (eqb x.role 0) false) → So e
    go true u = refl
    go false u = u

-- What an exec asks: the file and its object, and then both ids.
module _ (P : Policy) (good : Good P) (n : ℕ) where
  pub exec_parts : (e : Entry) (σ : State) (o u g : ℕ) →
      (ltb n (length P.paths) && eqb o (object_in P e (path_at P.paths n)) && sees (modes_of e (object_in P e (path_at P.paths n))) EXEC
      && (exec_may (eqb u σ.uid) (allows e.users u) && exec_may (eqb g σ.gid) (allows e.groups g)))
      ≡ (ltb n (length P.paths) && eqb o (object_in P e (path_at P.paths n)) && may_exec P e σ (path_at P.paths n) u g)
  unfolding may_exec
  exec_parts e σ o u g = go (ltb n (length P.paths)) refl
    where
      f : List ℕ
      f = path_at P.paths n

      -- what follows a passed test
      regroup : (a b c d p : Bool) → p ≡ true → (a && b && (c && d)) ≡ (a && (p && b && c && d))
      regroup true true c d p e = rw e
      regroup true false c d p e = rw e
      regroup false b c d p e = refl

      go : (inside : Bool) → ltb n (length P.paths) ≡ inside
          → (inside && eqb o (object_in P e f) && sees (modes_of e (object_in P e f)) EXEC && (exec_may (eqb u σ.uid) (allows e.users u) && exec_may (eqb g σ.gid) (allows e.groups g)))
          ≡ (inside && eqb o (object_in P e f) && (is_path f && sees (modes_of e (object_in P e f)) EXEC && exec_may (eqb u σ.uid) (allows e.users u) && exec_may (eqb g σ.gid) (allows e.groups g)))
      go true l = regroup (eqb o (object_in P e f)) (sees (modes_of e (object_in P e f)) EXEC) (exec_may (eqb u σ.uid) (allows e.users u)) (exec_may (eqb g σ.gid) (allows e.groups g)) (is_path f) ((table P good).good n (ltb-true _ _ l))
      go false l = refl

-- What the functions here cite of a loaded store.
pub ruleset store_laws = (role-count, path-count, entry-caps, path_read, entry_unknown, no_step, plain-exec, nat_tests)
