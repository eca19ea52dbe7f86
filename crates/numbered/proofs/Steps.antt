-- The steps that the loops go through are the model's, in order, each once.
-- Assumes nothing.
use mathlib.Core.Path.{◌≡◌}
use mathlib.Core.List.{List, ◌++◌, map, map-append}
use Prim.Native.Nat.{ℕ}
use Rattle.gran.specs.Policy.{Policy}
use Rattle.gran.specs.Abstract.{set_special, set_user, set_group, role}
use Rattle.gran.specs.Reach.{Question}
use Rattle.gran.specs.declared.State.{State}
use Rattle.store.specs.Held.{Loaded}
use Rattle.lookup.specs.Lookup.{entry_at}
use Rattle.tables.specs.Tables.{Tabled}
use Rattle.runs.specs.Steps.{specials_from, users_set, groups_set, execs, steps_in, steps}
use Rattle.numbered.specs.Number.{Inside, sizes_of, state_number, places_of}
use Rattle.numbered.specs.Candidates.{entry_number, steps_with, candidates, step_of}
use Rattle.numbered.proofs.Numbers.{digits-places, role_known}
use Rattle.numbered.proofs.Force.{role_is, entry_inside, entry_is}
use Rattle.numbered.proofs.Sets.{specials_are, users_are, groups_are}
use Rattle.numbered.proofs.Execs.{execs_are}

module _ (P : Policy) (rest s : List ℕ) (q : Question) (t : List ℕ) (loaded : Loaded P rest s) (tabled : Tabled P q t) (α : State) (inside : Inside P α) where
  -- With the role and the entry in force.
  steps_are : steps_with s t (sizes_of P) (places_of P α) (role P α) (entry_number t (places_of P α)) ≡ map (step_of P α) (steps_in P (entry_at P (entry_number t (places_of P α))) α)
  unfolding steps_with steps_in
  steps_are =
      let good = loaded.good in
      let e = entry_number t (places_of P α) in
      let known = entry_inside P q t good tabled α inside in
      rw (
        specials_are P good α q t tabled (role P α) (role_known P good α inside),
        users_are P good α q t tabled e known rest s loaded,
        groups_are P good α q t tabled e known rest s loaded,
        execs_are P good q t tabled e known α inside (entry_is P q t good tabled α inside) rest s loaded,
        map-append (step_of P α) (map set_special (specials_from P (role P α))) (map set_user (users_set P (entry_at P e)) ++ (map set_group (groups_set P (entry_at P e)) ++ execs P (entry_at P e) α)),
        map-append (step_of P α) (map set_user (users_set P (entry_at P e))) (map set_group (groups_set P (entry_at P e)) ++ execs P (entry_at P e) α),
        map-append (step_of P α) (map set_group (groups_set P (entry_at P e))) (execs P (entry_at P e) α),
      )

  pub candidates_are : candidates s t (sizes_of P) (state_number P α) ≡ map (step_of P α) (steps P α)
  unfolding candidates steps
  candidates_are = rw (digits-places P α inside, role_is P q t loaded.good tabled α inside, ← (entry_is P q t loaded.good tabled α inside)) steps_are
