-- The objects of the entry in force: each is a path of the policy, and stands at a place below 96.
-- Assumes nothing.
use mathlib.Core.Bool.{So, false≢true}
use Prim.Native.Nat.{ℕ, ◌<◌}
use native.Mathlib.Omega.{arith}
use lib.Dec.{eqb}
use lib.ListN.{length}
use Rattle.gran.specs.Lists.{place, member}
use Rattle.gran.specs.Policy.{Policy, Entry}
use Rattle.gran.specs.Match.{objects_of, is_entry, entry_in, entry_of, no_entry}
use Rattle.gran.specs.Good.{Good, GoodEntry}
use Rattle.gran.specs.Abstract.{entry}
use Rattle.gran.specs.declared.State.{State}
use Rattle.gran.proofs.Members.{all-mem, all_of, has-member}
use Rattle.gran.proofs.Counting.{few_below}
use Rattle.gran.proofs.Policies.{entry_rooted}
use Rattle.runs.proofs.Choices.{find_either, objects_distinct}
use Rattle.numbered.proofs.Places.{At, place_at}

module _ (P : Policy) (good : Good P) where
  -- An entry of the policy, or none, which has no object.
  named : (α : State) (o : ℕ) → So (member o (objects_of (entry P α))) → o < length P.paths
  unfolding entry entry_in entry_of objects_of
  named α = find_either (is_entry _ _) (λ (e : Entry). (o : ℕ) → So (member o (objects_of e)) → o < length P.paths) no_entry P.entries (λ o m. absurd (false≢true m))
      (all_of _ P.entries (λ e m. (entry_rooted P good e (all-mem (GoodEntry P) P.entries good.entries m)).named))

  module _ (α : State) (o : ℕ) (m : So (member o (objects_of (entry P α)))) where
    pub object-path : o < length P.paths
    object-path = named α o m

    pub object_at : At (objects_of (entry P α)) o (place (eqb o) 0 (objects_of (entry P α)))
    object_at = place_at o (objects_of (entry P α)) m

    pub place_low : place (eqb o) 0 (objects_of (entry P α)) < 96
    place_low =
        let objects = objects_of (entry P α) in
        let all = all_of (λ (n : ℕ). n < length P.paths) objects (λ n k. named α n (has-member objects k)) in
        omega (arith, object_at.inside, few_below (length P.paths) objects all (objects_distinct P good α), good.few_paths)
