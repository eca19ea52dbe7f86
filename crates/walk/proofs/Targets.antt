-- Every step that the loops visit leads to a state, so that a search keeps its memory to the end.
-- Assumes nothing.
use mathlib.Core.Path.{◌≡◌, refl}
use mathlib.Core.Bool.{Bool, true, false, not, cond, ◌&&◌}
use mathlib.Core.List.{List}
use Prim.Native.Nat.{ℕ, zero, suc, ◌+◌, ◌<◌}
use borrow.Author.Tests.{ltb-true}
use lib.Dec.{eqb, ltb}
use Rattle.gran.specs.Policy.{EXEC, SET_UID, SET_GID}
use Rattle.gran.specs.Access.{has, sees}
use Rattle.fields.specs.Fields.{entry_caps, object_count, object_path_at, object_modes_at}
use Rattle.tables.specs.Tables.{is_set, take_cell, group_reach_cell, user_reach_cell}
use Rattle.numbered.specs.Number.{all_states, Sized, Among, digits_of}
use Rattle.numbered.specs.Candidates.{Step, role_at, entry_number, with_special, with_user, with_group, with_subject, special_step, user_step, group_step, special_steps, user_steps, group_steps, in_image, subject_step, by_subject, other_group, by_group, other_user, by_user, object_step, object_steps, steps_with, candidates}
use Rattle.numbered.specs.declared.Sizes.{Sizes}
use Rattle.numbered.specs.declared.Digits.{Digits}
use Rattle.numbered.proofs.Radix.{number_of_lt, digits_among}
use Rattle.walk.specs.Walk.{Walk, queued, Cleared, visits, sweep, search}
use Rattle.walk.specs.Needed.{Kept}
use Rattle.walk.proofs.Each.{each_append, each_range, each-offered, each-cond}
use Rattle.walk.proofs.Keeping.{IsState, Inside, kept-empty, kept-visit, kept-visits}

module _ {z : Sizes} {d : Digits} (among : Among z d) where
  -- Another digit, below its size.
  pub among_special : {j : ℕ} → j < z.specials → Among z (with_special d j)
  among_special h = record { special = h; user = among.user; group = among.group; subject = among.subject }

  pub among_user : {j : ℕ} → j < z.users → Among z (with_user d j)
  among_user h = record { special = among.special; user = h; group = among.group; subject = among.subject }

  pub among-group : {j : ℕ} → j < z.groups → Among z (with_group d j)
  among-group h = record { special = among.special; user = among.user; group = h; subject = among.subject }

  pub among_subject : {j : ℕ} → j < z.subjects → Among z (with_subject d j)
  among_subject h = record { special = among.special; user = among.user; group = among.group; subject = h }

module _ (t : List ℕ) {z : Sizes} where
  inside_special : {d : Digits} → Among z d → (r j : ℕ) → j < z.specials → Inside z (special_step t z d r j)
  unfolding special_step
  inside_special among r j h = each-offered (IsState z) (is_set t (take_cell r j)) 96 _ (λ so. number_of_lt (among_special among h))

  inside_user : {d : Digits} → Among z d → (e j : ℕ) → j < z.users → Inside z (user_step t z d e j)
  unfolding user_step
  inside_user among e j h = each-offered (IsState z) (is_set t (user_reach_cell e j)) 97 _ (λ so. number_of_lt (among_user among h))

  inside-group : {d : Digits} → Among z d → (e j : ℕ) → j < z.groups → Inside z (group_step t z d e j)
  unfolding group_step
  inside-group among e j h = each-offered (IsState z) (is_set t (group_reach_cell e j)) 98 _ (λ so. number_of_lt (among-group among h))

  module _ (e i c : ℕ) where
    pub inside-subjects : {d : Digits} → Among z d → Inside z (by_subject t z d e i c)
    unfolding by_subject subject_step
    inside-subjects {d} among = each_range (IsState z) (subject_step t z d e i c) z.subjects (λ k h. each-offered (IsState z) (in_image t e i c k) i _ (λ so. number_of_lt (among_subject among h)))

    inside_other-group : {d : Digits} → Among z d → (j : ℕ) → j < z.groups → Inside z (other_group t z d e i c j)
    unfolding other_group
    inside_other-group {d} among j h = each-cond (IsState z) (not (eqb j d.group) && is_set t (group_reach_cell e j)) _ (λ so. inside-subjects (among-group among h))

    pub inside_groups : {d : Digits} → Among z d → Inside z (by_group t z d e i c)
    unfolding by_group
    inside_groups {d} among = each_append (IsState z) (by_subject t z d e i c) _ (inside-subjects among) (each_range (IsState z) (other_group t z d e i c) z.groups (inside_other-group among))

    inside_other_user : {d : Digits} → Among z d → (j : ℕ) → j < z.users → Inside z (other_user t z d e i c j)
    unfolding other_user
    inside_other_user {d} among j h = each-cond (IsState z) (not (eqb j d.user) && is_set t (user_reach_cell e j)) _ (λ so. inside_groups (among_user among h))

    pub inside_users : {d : Digits} → Among z d → Inside z (by_user t z d e i c)
    unfolding by_user
    inside_users {d} among = each_append (IsState z) (by_group t z d e i c) _ (inside_groups among) (each_range (IsState z) (other_user t z d e i c) z.users (inside_other_user among))

module _ (s t : List ℕ) {z : Sizes} {d : Digits} (among : Among z d) where
  pub inside_object : (e i : ℕ) → Inside z (object_step s t z d e i)
  unfolding object_step
  inside_object e i = each-cond (IsState z) (sees (object_modes_at s e i) EXEC) _ (λ so. inside_users t e i (object_path_at s e i) among)

  -- All of a state.
  pub inside_specials : (r : ℕ) → Inside z (special_steps t z d r)
  unfolding special_steps
  inside_specials r = each_range (IsState z) (special_step t z d r) z.specials (inside_special t among r)

  pub inside_users-set : (e : ℕ) → Inside z (user_steps s t z d e)
  unfolding user_steps
  inside_users-set e = each-cond (IsState z) (has (entry_caps s e) SET_UID) _ (λ so. each_range (IsState z) (user_step t z d e) z.users (inside_user t among e))

  pub inside_groups-set : (e : ℕ) → Inside z (group_steps s t z d e)
  unfolding group_steps
  inside_groups-set e = each-cond (IsState z) (has (entry_caps s e) SET_GID) _ (λ so. each_range (IsState z) (group_step t z d e) z.groups (inside-group t among e))

  pub inside_objects : (e : ℕ) → Inside z (object_steps s t z d e)
  unfolding object_steps
  inside_objects e = each_range (IsState z) (object_step s t z d e) (object_count s e) (λ i h. inside_object e i)

  inside_with : (r e : ℕ) → Inside z (steps_with s t z d r e)
  unfolding steps_with
  inside_with r e = each_append (IsState z) (special_steps t z d r) _ (inside_specials r)
      (each_append (IsState z) (user_steps s t z d e) _ (inside_users-set e) (each_append (IsState z) (group_steps s t z d e) _ (inside_groups-set e) (inside_objects e)))

pub inside-candidates : (s t : List ℕ) {z : Sizes} → Sized z → (n : ℕ) → n < all_states z → Inside z (candidates s t z n)
unfolding candidates
inside-candidates s t {z} sized n h = inside_with s t (digits_among sized n h) (role_at t (digits_of z n)) (entry_number t (digits_of z n))

-- ---- so the memory stays what the loops require, to the end

-- What the steps of each place of the queue keep, the whole sweep keeps.
module _ (goal : ℕ → Bool) (steps : ℕ → List Step) (I : Walk → Type 0) (turn : (p : ℕ) (w : Walk) → p < w.count → I w → I (visits goal p (steps (queued w.area p)) w)) where
  pub sweep_keeps : (fuel p : ℕ) (w : Walk) → I w → I (sweep goal steps fuel p w)
  unfolding sweep
  sweep_keeps zero p w k = k
  sweep_keeps (suc fuel) p w k = go w.met (ltb p w.count) refl (sweep_keeps fuel (p + 1) (visits goal p (steps (queued w.area p)) w))
    where
      v : Walk
      v = visits goal p (steps (queued w.area p)) w

      go : (m b : Bool) → ltb p w.count ≡ b → (I v → I (sweep goal steps fuel (p + 1) v)) → I (cond m w (cond b (sweep goal steps fuel (p + 1) v) w))
      go true b e on = k
      go false false e on = k
      go false true e on = on (turn p w (ltb-true p w.count e) k)

module _ {z : Sizes} (sized : Sized z) (s t : List ℕ) (goal : ℕ → Bool) where
  pub search_kept : (start : ℕ) (area : List ℕ) → start < all_states z → Cleared (all_states z) area → Kept z (search goal (candidates s t z) start area)
  unfolding search
  search_kept start area h clear = sweep_keeps goal (candidates s t z) (Kept z) turn 8192 0 _ (kept-visit z sized.few goal 0 0 start h (kept-empty z area clear))
    where
      turn : (p : ℕ) (w : Walk) → p < w.count → Kept z w → Kept z (visits goal p (candidates s t z (queued w.area p)) w)
      turn p w lt k = kept-visits z sized.few goal p (candidates s t z (queued w.area p)) (inside-candidates s t sized (queued w.area p) (k.states p lt)) k
