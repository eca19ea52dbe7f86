-- The steps 81, 82 and 83 by the tables are the model's; and what another digit makes of a state.
-- Assumes nothing.
use mathlib.Core.Path.{◌≡◌}
use mathlib.Core.List.{List, map}
use Prim.Native.Nat.{ℕ, ◌<◌}
use lib.ListN.{length, get_or}
use Rattle.gran.specs.Lists.{none}
use Rattle.gran.specs.Policy.{Policy, USER, GROUP, SPECIAL, SET_UID, SET_GID}
use Rattle.gran.specs.Match.{paths_of_s}
use Rattle.gran.specs.Role.{may_take}
use Rattle.gran.specs.Access.{has}
use Rattle.gran.specs.Good.{Good}
use Rattle.gran.specs.Abstract.{set_special, set_user, set_group, exec, next}
use Rattle.gran.specs.Reach.{Question}
use Rattle.gran.specs.declared.State.{State}
use Rattle.store.specs.Held.{Loaded}
use Rattle.fields.proofs.Entries.{entry-caps}
use Rattle.lookup.specs.Lookup.{entry_at}
use Rattle.tables.specs.Tables.{Tabled}
use Rattle.runs.specs.Steps.{choices, specials_from, users_set, groups_set}
use Rattle.numbered.specs.Number.{sizes_of, places_of, state_number}
use Rattle.numbered.specs.Candidates.{with_special, with_user, with_group, with_subject, special_step, user_step, group_step, special_steps, user_steps, group_steps, label_of, step_of}
use Rattle.numbered.proofs.Places.{place-get_or}
use Rattle.numbered.proofs.Members.{choices_distinct, subjects_distinct}
use Rattle.numbered.proofs.Loops.{offered_is, row_is, set_is}

module _ (P : Policy) (good : Good P) (α : State) where
  -- ---- a digit and the part of the state that it stands for

  special_digit : (j : ℕ) → j < length (choices P SPECIAL) → with_special (places_of P α) j ≡ places_of P (next α (set_special (get_or (choices P SPECIAL) j none)))
  unfolding places_of
  special_digit j h = rw (place-get_or (choices P SPECIAL) (choices_distinct P good SPECIAL) j h)

  pub user_digit : (j : ℕ) → j < length (choices P USER) → with_user (places_of P α) j ≡ places_of P (next α (set_user (get_or (choices P USER) j none)))
  unfolding places_of
  user_digit j h = rw (place-get_or (choices P USER) (choices_distinct P good USER) j h)

  pub group_digit : (j : ℕ) → j < length (choices P GROUP) → with_group (places_of P α) j ≡ places_of P (next α (set_group (get_or (choices P GROUP) j none)))
  unfolding places_of
  group_digit j h = rw (place-get_or (choices P GROUP) (choices_distinct P good GROUP) j h)

  pub subject_digit : (o k : ℕ) → k < length (paths_of_s P) → with_subject (places_of P α) k ≡ places_of P (next α (exec o α.user α.group (get_or (paths_of_s P) k none)))
  unfolding places_of
  subject_digit o k h = rw (place-get_or (paths_of_s P) (subjects_distinct P good) k h)

  -- ---- the steps

  module _ (q : Question) (t : List ℕ) (tabled : Tabled P q t) where
    pub specials_are : (r : ℕ) → r < length P.roles → special_steps t (sizes_of P) (places_of P α) r ≡ map (step_of P α) (map set_special (specials_from P r))
    unfolding special_steps special_step specials_from sizes_of step_of label_of state_number
    specials_are r known = row_is (step_of P α) (special_step t (sizes_of P) (places_of P α) r) (may_take P r) set_special (choices P SPECIAL)
        (λ j h. offered_is (step_of P α) _ _ 96 _ (set_special (get_or (choices P SPECIAL) j none)) (tabled.take r j known h) (rw (special_digit j h)))

    module _ (e : ℕ) (known : e < length P.entries) (rest s : List ℕ) (loaded : Loaded P rest s) where
      pub users_are : user_steps s t (sizes_of P) (places_of P α) e ≡ map (step_of P α) (map set_user (users_set P (entry_at P e)))
      unfolding user_steps user_step users_set sizes_of step_of label_of state_number
      users_are = rw (entry-caps loaded e known) (set_is P USER (entry_at P e).users (step_of P α) (has (entry_at P e).caps SET_UID) (user_step t (sizes_of P) (places_of P α) e) set_user (choices P USER)
          (λ j h. offered_is (step_of P α) _ _ 97 _ (set_user (get_or (choices P USER) j none)) (tabled.user_reach e j known h) (rw (user_digit j h))))

      pub groups_are : group_steps s t (sizes_of P) (places_of P α) e ≡ map (step_of P α) (map set_group (groups_set P (entry_at P e)))
      unfolding group_steps group_step groups_set sizes_of step_of label_of state_number
      groups_are = rw (entry-caps loaded e known) (set_is P GROUP (entry_at P e).groups (step_of P α) (has (entry_at P e).caps SET_GID) (group_step t (sizes_of P) (places_of P α) e) set_group (choices P GROUP)
          (λ j h. offered_is (step_of P α) _ _ 98 _ (set_group (get_or (choices P GROUP) j none)) (tabled.group_reach e j known h) (rw (group_digit j h))))
