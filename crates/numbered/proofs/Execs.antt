-- The steps 84 by the tables are the model's: by object, user, group and subject.
-- Assumes nothing.
use mathlib.Core.Path.{◌≡◌}
use mathlib.Core.List.{List, map}
use Prim.Native.Nat.{ℕ, ◌<◌}
use native.Mathlib.Omega.{arith}
use lib.Dec.{eqb}
use lib.ListN.{length, get_or}
use Rattle.gran.specs.Lists.{none}
use Rattle.gran.specs.Policy.{Policy, USER, GROUP}
use Rattle.gran.specs.Match.{path_at, paths_of_s, subject_of, objects_of, object_in}
use Rattle.gran.specs.Good.{Good}
use Rattle.gran.specs.Abstract.{set_user, set_group, exec, next, entry, image}
use Rattle.gran.specs.Reach.{Question}
use Rattle.gran.specs.declared.State.{State}
use Rattle.store.specs.Held.{Loaded}
use Rattle.lookup.specs.Lookup.{entry_at}
use Rattle.lookup.proofs.Matches.{good-entry}
use Rattle.tables.specs.Tables.{Tabled, cell, stand_cell, object_cell}
use Rattle.runs.specs.Steps.{choices, is_other, executable, executables, users_after, groups_after, subjects_after, execs_to, execs_as, execs_of, execs}
use Rattle.gran.proofs.Policies.{path_subject}
use Rattle.numbered.specs.Number.{Inside, sizes_of, places_of, state_number}
use Rattle.numbered.specs.Candidates.{in_image, subject_step, by_subject, other_group, by_group, other_user, by_user, object_step, object_steps, label_of, step_of}
use Rattle.numbered.proofs.Places.{place_at, same_place, same_at, place-get_or}
use Rattle.numbered.proofs.Members.{choices_distinct, subjects_distinct, subject_of_choice}
use Rattle.numbered.proofs.Numbers.{user_at, group_at}
use Rattle.numbered.proofs.Loops.{loop_is, row_is, offered_is, after_is}
use Rattle.numbered.proofs.Objects.{objects-length, object-named, count_is, path_is, modes_is}
use Rattle.numbered.proofs.Sets.{user_digit, group_digit, subject_digit}

module _ (P : Policy) (good : Good P) (q : Question) (t : List ℕ) (tabled : Tabled P q t) (e : ℕ) (known : e < length P.entries) where
  -- ---- the image

  module _ (i : ℕ) (h : i < length (objects_of (entry_at P e))) (k : ℕ) (l : k < length (paths_of_s P)) where
    same_object : eqb (cell t (object_cell k e)) i ≡ eqb (object_in P (entry_at P e) (path_at P.paths (get_or (paths_of_s P) k none))) (get_or (objects_of (entry_at P e)) i none)
    same_object =
        let placed = tabled.object k e l known in
        rw (← placed.is) (same_place (objects_of (entry_at P e)) (good-entry P good e known).distinct _ i (omega (arith, objects-length P e, placed.inside)) h)

    same_subject : (c : ℕ) → c < length P.paths → eqb (cell t (stand_cell c)) k ≡ eqb (subject_of P (path_at P.paths c)) (get_or (paths_of_s P) k none)
    same_subject c named =
        let stands = subject_of P (path_at P.paths c) in
        let at = place_at stands (paths_of_s P) (subject_of_choice P good (path_at P.paths c)) in
        rw (tabled.stand c named) (rw at.is at (same_place (paths_of_s P) (subjects_distinct P good) _ k at.inside l))

    image_is : in_image t e i (get_or (objects_of (entry_at P e)) i none) k ≡ image P (entry_at P e) (get_or (objects_of (entry_at P e)) i none) (get_or (paths_of_s P) k none)
    unfolding in_image image
    image_is = rw (same_object, same_subject _ (object-named P good e known i h), path_subject P k l)

  -- ---- from the subjects out to the objects

  module _ (α : State) (inside : Inside P α) (is-entry : entry_at P e ≡ entry P α) where
    module _ (i : ℕ) (h : i < length (objects_of (entry_at P e))) where
      -- The object at place i.
      abbrev object : ℕ
      object = get_or (objects_of (entry_at P e)) i none

      -- α with another user and group.
      abbrev become : ℕ → ℕ → State
      become u g = next (next α (set_user u)) (set_group g)

      label_is : (u g s : ℕ) → label_of P α (exec object u g s) ≡ i
      unfolding label_of
      label_is u g s = rw (← is-entry) (place-get_or (objects_of (entry_at P e)) (good-entry P good e known).distinct i h)

      by_subject_is : (u g : ℕ) → by_subject t (sizes_of P) (places_of P (become u g)) e i object ≡ map (step_of P α) (execs_to P (entry_at P e) object u g)
      unfolding by_subject subject_step execs_to subjects_after sizes_of step_of state_number
      by_subject_is u g = row_is (step_of P α) (subject_step t (sizes_of P) (places_of P (become u g)) e i object) (image P (entry_at P e) object) (exec object u g) (paths_of_s P)
          (λ k l. offered_is (step_of P α) _ _ i _ (exec object u g (get_or (paths_of_s P) k none)) (image_is i h k l) (rw (label_is, subject_digit P good (become u g) object k l)))

      by_group_is : (u : ℕ) → by_group t (sizes_of P) (places_of P (next α (set_user u))) e i object ≡ map (step_of P α) (execs_as P (entry_at P e) (groups_after P (entry_at P e) α.group) object u)
      unfolding by_group other_group execs_as groups_after sizes_of is_other places_of
      by_group_is u = after_is P GROUP (entry_at P e).groups α.group (step_of P α) (other_group t (sizes_of P) (places_of P (next α (set_user u))) e i object) (execs_to P (entry_at P e) object u) _ (choices P GROUP)
          (by_subject_is u α.group)
          (λ j l. rw (
            same_at (choices P GROUP) (choices_distinct P good GROUP) α.group _ j (group_at P α inside) l,
            tabled.group_reach e j known l,
            group_digit P good (next α (set_user u)) j l,
            by_subject_is u (get_or (choices P GROUP) j none),
          ))

      by_user_is : by_user t (sizes_of P) (places_of P α) e i object
          ≡ map (step_of P α) (execs_of P (entry_at P e) (users_after P (entry_at P e) α.user) (groups_after P (entry_at P e) α.group) object)
      unfolding by_user other_user execs_of users_after sizes_of is_other
      by_user_is = after_is P USER (entry_at P e).users α.user (step_of P α) (other_user t (sizes_of P) (places_of P α) e i object) (execs_as P (entry_at P e) (groups_after P (entry_at P e) α.group) object) _ (choices P USER)
          (by_group_is α.user)
          (λ j l. rw (
            same_at (choices P USER) (choices_distinct P good USER) α.user _ j (user_at P α inside) l,
            tabled.user_reach e j known l,
            user_digit P good α j l,
            by_group_is (get_or (choices P USER) j none),
          ))

    pub execs_are : (rest s : List ℕ) → Loaded P rest s → object_steps s t (sizes_of P) (places_of P α) e ≡ map (step_of P α) (execs P (entry_at P e) α)
    unfolding object_steps object_step execs executables executable
    execs_are rest s loaded = rw (count_is loaded e known)
        (loop_is (step_of P α) (object_step s t (sizes_of P) (places_of P α) e) (executable (entry_at P e))
        (execs_of P (entry_at P e) (users_after P (entry_at P e) α.user) (groups_after P (entry_at P e) α.group)) (objects_of (entry_at P e))
        (λ i h. rw (modes_is loaded e known i h, path_is loaded e known i h, by_user_is i h)))
