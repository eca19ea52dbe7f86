-- Execs of a special role and an entry that were gone through once: the states that they lead to were found, and to go through them again
-- changes nothing where the entry allows the kept user and group too, and else only the kept user or the kept group lead to new ones.
-- Assumes nothing.
use borrow.Author.Tests.{ne_eqb}
use mathlib.Core.Path.{◌≡◌, refl, sym, ap, subst, ◌∙◌}
use mathlib.Core.Bool.{Bool, So, true, false, not, cond, ◌&&◌, and-eq-true_iff}
use mathlib.Core.List.{List, [], append-nil}
use Prim.Native.Nat.{ℕ, zero, suc, ◌<◌}
use native.Mathlib.Omega.{arith}
use native.Mathlib.Decide.{ℕ_discrete}
use lib.Dec.{eqb}
use lib.ListN.{length, get_or, set, take, replicate}
use lib.Seq.{take-length, get_or-set_other}
use Rattle.gran.specs.Policy.{EXEC}
use Rattle.gran.specs.Access.{sees}
use Rattle.fields.specs.Fields.{object_count, object_path_at, object_modes_at}
use Rattle.runs.specs.Steps.{each}
use Rattle.tables.specs.Tables.{is_set, group_reach_cell, user_reach_cell}
use Rattle.numbered.specs.Number.{Among, number_of}
use Rattle.numbered.specs.Candidates.{Step, flat, with_special, with_user, with_group, with_subject, in_image, subject_step, by_subject, other_group, by_group, other_user, by_user, object_step, object_steps}
use Rattle.numbered.specs.declared.Sizes.{Sizes}
use Rattle.numbered.specs.declared.Digits.{Digits}
use Rattle.numbered.proofs.Radix.{number_of_lt}
use Rattle.walk.specs.Walk.{Walk, visits}
use Rattle.walk.specs.Needed.{Going, Marked, Leads, ObjectDone, EntryDone, flag_at, Opened}
use Rattle.walk.specs.Image.{groups_after, to_group}
use Rattle.walk.proofs.Walks.{visits_append}
use Rattle.walk.proofs.Each.{Each, each_append, each_range, each-offered, each-cond, left-each, right-each, range-each, offered-each, cond-each}
use Rattle.walk.proofs.Keeping.{Inside}
use Rattle.walk.proofs.Marks.{visits-done, open_before, marks_stay, targets_marked}
use Rattle.walk.proofs.Loops.{going_on}
use Rattle.walk.proofs.Targets.{among_user, inside-subjects, inside_objects}
use Rattle.walk.proofs.Images.{group-steps, first_group}

-- Another choice than the kept one, if it is allowed.
other-some : (j kept : ℕ) (allowed : Bool) (xs : List Step) → (j ≡ kept → ⊥) → allowed ≡ true → xs ≡ cond (not (eqb j kept) && allowed) xs []
other-some j kept allowed xs ne h = rw (ne_eqb j kept ne, h)

module _ (t : List ℕ) (z : Sizes) (d : Digits) (e : ℕ) (P : ℕ → Type 0) where
  module _ (i c : ℕ) where
    -- ---- what an object leads to is all that a state's execs of it lead to, where the entry allows its user and group

    module _ (among : Among z d) (h : (to : Digits) → to.special ≡ d.special → Leads t z e i c to → P (number_of z to)) where
      module _ (u : ℕ) (below : u < z.users) (allowed : So (is_set t (user_reach_cell e u))) where
        all-subjects : (g : ℕ) → g < z.groups → So (is_set t (group_reach_cell e g)) → Each P (by_subject t z (with_group (with_user d u) g) e i c)
        unfolding by_subject subject_step
        all-subjects g few group =
            let to : Digits = with_group (with_user d u) g in
            each_range P (subject_step t z to e i c) z.subjects (λ k lt. each-offered P (in_image t e i c k) i (number_of z (with_subject to k)) (λ subject.
            h (with_subject to k) refl (record {
              among = record { special = among.special; user = below; group = few; subject = lt };
              user = allowed;
              group = group;
              subject = subject;
            })))

        pub all_other_groups : Each P (flat (other_group t z (with_user d u) e i c) 0 z.groups)
        unfolding other_group
        all_other_groups = each_range P (other_group t z (with_user d u) e i c) z.groups (λ g lt. each-cond P (not (eqb g d.group) && is_set t (group_reach_cell e g)) _ (λ so.
            all-subjects g lt ((and-eq-true_iff (not (eqb g d.group)) (is_set t (group_reach_cell e g))).0 so).1))

        all_groups : So (is_set t (group_reach_cell e d.group)) → Each P (by_group t z (with_user d u) e i c)
        unfolding by_group
        all_groups kept = each_append P (by_subject t z (with_user d u) e i c) _ (all-subjects d.group among.group kept) all_other_groups

      all_users : So (is_set t (user_reach_cell e d.user)) → So (is_set t (group_reach_cell e d.group)) → Each P (by_user t z d e i c)
      unfolding by_user other_user
      all_users user group =
          each_append P (by_group t z d e i c) _ (all_groups d.user among.user user group)
          (each_range P (other_user t z d e i c) z.users (λ u few. each-cond P (not (eqb u d.user) && is_set t (user_reach_cell e u)) _ (λ so.
          all_groups u few ((and-eq-true_iff (not (eqb u d.user)) (is_set t (user_reach_cell e u))).0 so).1 group)))

    -- ---- and a state's execs of it lead to all that it leads to

    module _ (all : Each P (by_user t z d e i c)) (to : Digits) (l : Leads t z e i c to) where
      abbrev other_users : List Step
      other_users = flat (other_user t z d e i c) 0 z.users

      -- With the user that it leads to.
      abbrev kept : Digits
      kept = with_user d to.user

      abbrev other_groups : List Step
      other_groups = flat (other_group t z kept e i c) 0 z.groups

      of_user : Each P (by_group t z kept e i c)
      unfolding by_user other_user
      of_user = go (ℕ_discrete to.user d.user)
        where
          go : Dec (to.user ≡ d.user) → Each P (by_group t z kept e i c)
          go (yes same) = subst (λ (u : ℕ). Each P (by_group t z (with_user d u) e i c)) (sym same) (left-each P (by_group t z d e i c) other_users all)
          go (no ne) = subst (Each P) (sym (other-some to.user d.user (is_set t (user_reach_cell e to.user)) (by_group t z kept e i c) ne l.user))
              (range-each P (other_user t z d e i c) z.users to.user l.among.user (right-each P (by_group t z d e i c) other_users all))

      of-group : Each P (by_subject t z (with_group kept to.group) e i c)
      unfolding by_group other_group
      of-group = go (ℕ_discrete to.group d.group)
        where
          go : Dec (to.group ≡ d.group) → Each P (by_subject t z (with_group kept to.group) e i c)
          go (yes same) = subst (λ (g : ℕ). Each P (by_subject t z (with_group kept g) e i c)) (sym same) (left-each P (by_subject t z kept e i c) other_groups of_user)
          go (no ne) = subst (Each P) (sym (other-some to.group d.group (is_set t (group_reach_cell e to.group)) (by_subject t z (with_group kept to.group) e i c) ne l.group))
              (range-each P (other_group t z kept e i c) z.groups to.group l.among.group (right-each P (by_subject t z kept e i c) other_groups of_user))

      of_users : to.special ≡ d.special → P (number_of z to)
      unfolding by_subject subject_step
      of_users same = subst (λ (j : ℕ). P (number_of z (with_special to j))) (sym same)
          (offered-each P (in_image t e i c to.subject) i (number_of z (with_special to d.special)) l.subject
          (range-each P (subject_step t z (with_group kept to.group) e i c) z.subjects to.subject l.among.subject of-group))

  -- ---- the same for each object of the entry that can be executed

  module _ (s : List ℕ) where
    abbrev OfObjects : (ℕ → Type 0) → Type 0
    OfObjects Q = (i : ℕ) → i < object_count s e → So (sees (object_modes_at s e i) EXEC) → Q i

    all-objects : OfObjects (λ (i : ℕ). Each P (by_user t z d e i (object_path_at s e i))) → Each P (object_steps s t z d e)
    unfolding object_steps object_step
    all-objects h = each_range P (object_step s t z d e) (object_count s e) (λ i lt. each-cond P (sees (object_modes_at s e i) EXEC) _ (h i lt))

    of_objects : Each P (object_steps s t z d e) → OfObjects (λ (i : ℕ). Each P (by_user t z d e i (object_path_at s e i)))
    unfolding object_steps object_step
    of_objects all i object modes = cond-each P (sees (object_modes_at s e i) EXEC) (by_user t z d e i (object_path_at s e i)) modes (range-each P (object_step s t z d e) (object_count s e) i object all)

-- ---- what was found stays found

module _ {t : List ℕ} {z : Sizes} {w : Walk} {p : ℕ} (going : Going z p w) (goal : ℕ → Bool) (xs : List Step) (inside : Inside z xs) {then : Walk} (is : then ≡ visits goal p xs w) where
  pub object_on : {e i c r : ℕ} → ObjectDone t z e i c r w → ObjectDone t z e i c r then
  object_on done = record {
    found = λ d same l. subst (λ (v : Walk). v.met ≡ false → Marked v.area (number_of z d)) (sym is) (λ unmet.
        marks_stay z going.sized.few goal p xs inside going.kept (number_of z d) (number_of_lt l.among) (done.found d same l (open_before goal w p xs unmet)));
  }

  pub entry_on : {s : List ℕ} {e r : ℕ} → EntryDone s t z e r w → EntryDone s t z e r then
  entry_on done = record { object = λ i lt modes. object_on (done.object i lt modes) }

-- With a user that the entry allows, the kept group alone leads to all that is new.
module _ {t : List ℕ} {z : Sizes} {d : Digits} {e i c p : ℕ} {w : Walk} (goal : ℕ → Bool) (going : Going z p w) (among : Among z d) (u : ℕ) (below : u < z.users) where
  kept_alone : So (is_set t (user_reach_cell e u)) → ObjectDone t z e i c d.special w → visits goal p (by_subject t z (with_user d u) e i c) w ≡ visits goal p (by_group t z (with_user d u) e i c) w
  unfolding by_group
  kept_alone allowed done =
      let first : List Step = by_subject t z (with_user d u) e i c in
      let then : Walk = visits goal p first w in
      let on : ObjectDone t z e i c d.special then = object_on going goal first (inside-subjects t e i c (among_user among below)) refl done in
      sym (visits_append goal p first _ w ∙ visits-done goal then p _ (λ unmet. all_other_groups t z d e (Marked then.area) i c among (λ to same l. on.found to same l unmet) u below allowed))

  -- So the groups that go with it are enough.
  pub groups_enough : (alone : Bool) → (So alone → So (is_set t (user_reach_cell e u)) × ObjectDone t z e i c d.special w) → (groups : List ℕ) → groups ≡ groups_after t z d e
      → {n : ℕ} → n ≡ cond alone 1 (length groups) → {then : Walk} → then ≡ visits goal p (each (take n groups) (to_group t z (with_user d u) e i c)) w → then ≡ visits goal p (by_group t z (with_user d u) e i c) w
  groups_enough true done groups is few so = so ∙ rw (few, first_group t z d e is, append-nil (by_subject t z (with_user d u) e i c)) (kept_alone (done refl).0 (done refl).1)
  groups_enough false done groups is few so = so ∙ ap (λ (l : List Step). visits goal p l w) (rw (few, take-length groups) (group-steps t z (with_user d u) e i c groups is))

-- ---- the flags

pub unset : (n i : ℕ) → get_or (replicate n false) i false ≡ false
unset zero i = refl
unset (suc n) zero = refl
unset (suc n) (suc i) = unset n i

module _ {s t : List ℕ} {z : Sizes} where
  pub none-set : {flags : List Bool} (w : Walk) → ((i : ℕ) → get_or flags i false ≡ false) → Opened s t z flags w
  none-set w none = record { entry = λ e r small flag. let off = none (flag_at r e) in cc }

  module _ {flags : List Bool} {w : Walk} (opened : Opened s t z flags w) {p : ℕ} (going : Going z p w) (goal : ℕ → Bool) where
    opened_on : (xs : List Step) → Inside z xs → {then : Walk} → then ≡ visits goal p xs w → Opened s t z flags then
    opened_on xs inside is = record { entry = λ e r small flag. entry_on going goal xs inside is (opened.entry e r small flag) }

    -- The search goes on, with them.
    pub both_on : (xs : List Step) → Inside z xs → {then : Walk} → then ≡ visits goal p xs w → Going z p then × Opened s t z flags then
    both_on xs inside is = (going_on goal going xs inside is, opened_on xs inside is)

    module _ (d : Digits) (among : Among z d) (e : ℕ) (small : e < 256) where
      -- The flag may be set once the execs of one state were gone through.
      pub opened_more : {then : Walk} → then ≡ visits goal p (object_steps s t z d e) w → Opened s t z (set flags (flag_at d.special e) true) then
      opened_more {then} is = record { entry = λ e₁ r small₁ flag. go e₁ r small₁ flag (ℕ_discrete (flag_at r e₁) (flag_at d.special e)) }
        where
          all : then.met ≡ false → Each (Marked then.area) (object_steps s t z d e)
          all = subst (λ (v : Walk). v.met ≡ false → Each (Marked v.area) (object_steps s t z d e)) (sym is)
              (targets_marked z going.sized.few goal p (object_steps s t z d e) (inside_objects s t among e) going.kept)

          done : EntryDone s t z e d.special then
          done = record {
            object = λ i lt modes. record { found = λ to same l unmet. of_users t z d e (Marked then.area) i (object_path_at s e i) (of_objects t z d e (Marked then.area) s (all unmet) i lt modes) to l same };
          }

          go : (e₁ r : ℕ) → e₁ < 256 → get_or (set flags (flag_at d.special e) true) (flag_at r e₁) false ≡ true → Dec (flag_at r e₁ ≡ flag_at d.special e) → EntryDone s t z e₁ r then
          go e₁ r small₁ flag (yes same) =
              let entry : e ≡ e₁ = omega arith in
              let special : d.special ≡ r = omega arith in
              subst (λ (m : ℕ). EntryDone s t z m r then) entry (subst (λ (m : ℕ). EntryDone s t z e m then) special done)
          go e₁ r small₁ flag (no other) =
              (opened_on (object_steps s t z d e) (inside_objects s t among e) is).entry e₁ r small₁ (sym (get_or-set_other flags (flag_at d.special e) (flag_at r e₁) true false other) ∙ flag)

      -- Where it is set, and the entry allows the kept user and group, there is nothing new.
      pub opened-again : get_or flags (flag_at d.special e) false ≡ true → So (is_set t (user_reach_cell e d.user) && is_set t (group_reach_cell e d.group)) → w ≡ visits goal p (object_steps s t z d e) w
      opened-again flag kept =
          let both = (and-eq-true_iff (is_set t (user_reach_cell e d.user)) (is_set t (group_reach_cell e d.group))).0 kept in
          let done : EntryDone s t z e d.special w = opened.entry e d.special small flag in
          sym (visits-done goal w p (object_steps s t z d e) (λ unmet. all-objects t z d e (Marked w.area) s (λ i lt modes.
          all_users t z d e (Marked w.area) i (object_path_at s e i) among (λ to same l. (done.object i lt modes).found to same l unmet) both.0 both.1)))
