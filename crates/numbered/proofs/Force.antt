-- What the tables say is in force in a state: the role, the entry, the access.
-- Assumes nothing.
use mathlib.Core.Path.{◌≡◌, refl}
use mathlib.Core.List.{List}
use Prim.Native.Nat.{ℕ, ◌<◌}
use lib.ListN.{length}
use Rattle.gran.specs.Policy.{Policy}
use Rattle.gran.specs.Match.{path_at}
use Rattle.gran.specs.Role.{in_force}
use Rattle.gran.specs.Good.{Good}
use Rattle.gran.specs.Abstract.{role, entry, access}
use Rattle.gran.specs.Reach.{Question}
use Rattle.gran.specs.declared.State.{State}
use Rattle.lookup.specs.Lookup.{entry_at, InForce}
use Rattle.tables.specs.Tables.{Tabled}
use Rattle.numbered.specs.Number.{Inside, sizes_of, state_number, places_of}
use Rattle.numbered.specs.Candidates.{role_at, entry_number, goal_at}
use Rattle.numbered.proofs.Numbers.{special_at, user_at, group_at, subject_at, digits-places, role_known}

module _ (P : Policy) (q : Question) (t : List ℕ) (good : Good P) (tabled : Tabled P q t) (α : State) (inside : Inside P α) where
  pub role_is : role_at t (places_of P α) ≡ role P α
  unfolding role_at role in_force
  role_is = rw (
    tabled.special _ (special_at P α inside).inside,
    (special_at P α inside).is,
    tabled.user _ (user_at P α inside).inside,
    (user_at P α inside).is,
    tabled.group _ (group_at P α inside).inside,
    (group_at P α inside).is,
    tabled.fallback,
  ) refl

  -- The number of the entry in force.
  force_is : InForce P (role P α) (path_at P.paths α.subject) (entry_number t (places_of P α))
  unfolding entry_number
  force_is = rw role_is (rw (subject_at P α inside).is at (tabled.force _ (role P α) (subject_at P α inside).inside (role_known P good α inside)))

  pub entry_inside : entry_number t (places_of P α) < length P.entries
  entry_inside = force_is.inside

  pub entry_is : entry_at P (entry_number t (places_of P α)) ≡ entry P α
  unfolding entry
  entry_is = force_is.is

  pub goal_is : goal_at t (sizes_of P) (state_number P α) ≡ access P q.kind q.target α
  unfolding goal_at access
  goal_is = rw (digits-places P α inside, tabled.grant _ entry_inside, entry_is)
