-- The places of a start's parts, as the tables have them.
-- Assumes nothing.
use mathlib.Core.Path.{◌≡◌, refl, sym, ◌∙◌}
use mathlib.Core.List.{List}
use Prim.Native.Nat.{ℕ, suc, ◌+◌, ◌-◌, ◌≤◌, ◌<◌}
use native.Mathlib.Omega.{arith}
use lib.Dec.{eqb}
use lib.ListN.{length, get_or, take, drop, length-drop}
use lib.Seq.{length-take-le, get_or-take, get_or-drop, ext_get_or}
use Rattle.gran.specs.Lists.{none, place}
use Rattle.gran.specs.Policy.{Policy, USER, GROUP, SPECIAL}
use Rattle.gran.specs.Match.{paths_of_s, subject_of}
use Rattle.gran.specs.Role.{role_of}
use Rattle.gran.specs.Real
use Rattle.gran.specs.Abstract.{abstract}
use Rattle.gran.specs.Reach.{Question}
use Rattle.runs.specs.Steps.{choices}
use Rattle.tables.specs.Tables.{cell}
use Rattle.tables.proofs.Front.{get_d_any}
use Rattle.tables.proofs.Choices.{choices-length}
use Rattle.fields.specs.Fields.{policy_in, special_count, user_count, group_count, subject_count}
use Rattle.fields.proofs.Header.{special-count, user-count, group-count, subject-count}
use Rattle.store.specs.Held.{Loaded}
use Rattle.numbered.specs.Number.{Sized, Inside, sizes_of, places_of}
use Rattle.numbered.specs.declared.Sizes.{Sizes}
use Rattle.numbered.proofs.Members.{sized}
use Rattle.numbered.proofs.Numbers.{abstract_inside}
use Rattle.reply.specs.Reply.{Ready}

module _ {P : Policy} {rest s : List ℕ} (L : Loaded P rest s) where
  -- the header's counts
  pub sizes_are : (a b c d : ℕ) → a ≡ special_count s → b ≡ user_count s → c ≡ group_count s → d ≡ subject_count s → record { specials = 1 + a; users = 1 + b; groups = 1 + c; subjects = d } ≡ sizes_of P
  unfolding sizes_of
  sizes_are a b c d e f g h =
      let one : (n : ℕ) → 1 + n ≡ suc n = λ n. omega arith in
      rw (
        e,
        f,
        g,
        h,
        special-count L,
        user-count L,
        group-count L,
        subject-count L,
        choices-length P SPECIAL,
        choices-length P USER,
        choices-length P GROUP,
      ) (simp one)

-- a list of n numbers that stand in the cells from a place on
part_is : (xs t : List ℕ) (from n : ℕ) → n ≡ length xs → from + n ≤ length t → ((j : ℕ) → j < length xs → cell t (from + j) ≡ get_or xs j none) → take (from + n - from) (drop from t) ≡ xs
part_is xs t from n e h same =
    let size : from + n - from ≡ length xs = omega arith in
    let long : length (take (length xs) (drop from t)) ≡ length xs = length-take-le (length xs) (drop from t) (rw length-drop (omega arith)) in
    rw size (ext_get_or 0 (take (length xs) (drop from t)) xs long
    (λ i l. let m : i < length xs = omega arith in get_or-take (length xs) (drop from t) i 0 m ∙ get_or-drop from t i 0 ∙ same i m ∙ get_d_any xs i none 0 m))

module _ (P : Policy) where
  -- A start has no special role, whose place is 0.
  pub start-places : (u g : ℕ) (f : List ℕ)
      → places_of P (abstract P (Real.start u g f))
      ≡ record { special = 0; user = place (eqb (role_of P USER u)) 0 (choices P USER); group = place (eqb (role_of P GROUP g)) 0 (choices P GROUP); subject = place (eqb (subject_of P f)) 0 (paths_of_s P) }
  unfolding places_of abstract choices
  start-places u g f = refl

module _ {q : Question} {s t : List ℕ} {z : Sizes} (r : Ready q s t z) where
  pub ready_sized : Sized z
  ready_sized = rw r.sizes (sized (policy_in s) r.held.good)

  -- The tables have room for each part.
  pub ready_room : (z.users ≤ 16) × (z.groups ≤ 8) × (z.subjects ≤ 64) × (8192 ≤ length t)
  ready_room = (ready_sized.users.1, ready_sized.groups.1, ready_sized.subjects.1, omega (arith, r.tabled.long))

  users_part : take (8 + z.users - 8) (drop 8 t) ≡ choices (policy_in s) USER
  unfolding sizes_of
  users_part = part_is (choices (policy_in s) USER) t 8 z.users (rw r.sizes) (omega (arith, ready_sized.users.1, r.tabled.long)) r.tabled.user

  groups_part : take (24 + z.groups - 24) (drop 24 t) ≡ choices (policy_in s) GROUP
  unfolding sizes_of
  groups_part = part_is (choices (policy_in s) GROUP) t 24 z.groups (rw r.sizes) (omega (arith, ready_sized.groups.1, r.tabled.long)) r.tabled.group

  pub subjects_part : take (32 + z.subjects - 32) (drop 32 t) ≡ paths_of_s (policy_in s)
  unfolding sizes_of
  subjects_part = part_is (paths_of_s (policy_in s)) t 32 z.subjects (rw r.sizes) (omega (arith, ready_sized.subjects.1, r.tabled.long)) r.tabled.subject

  module _ (u g : ℕ) (f : List ℕ) where
    -- What is read for a start are its places.
    pub start_digits : (a b e user group : ℕ)
        → a ≡ place (eqb user) 0 (take (8 + z.users - 8) (drop 8 t)) → user ≡ role_of (policy_in s) USER u
        → b ≡ place (eqb group) 0 (take (24 + z.groups - 24) (drop 24 t)) → group ≡ role_of (policy_in s) GROUP g
        → e ≡ place (eqb (subject_of (policy_in s) f)) 0 (paths_of_s (policy_in s))
        → record { special = 0; user = a; group = b; subject = e } ≡ places_of (policy_in s) (abstract (policy_in s) (Real.start u g f))
    start_digits a b e user group ha hu hb hg he = rw (ha, hb, he, users_part, groups_part, hu, hg) (sym (start-places (policy_in s) u g f))

    pub start_inside : Inside (policy_in s) (abstract (policy_in s) (Real.start u g f))
    start_inside = abstract_inside (policy_in s) r.held.good (Real.start u g f) refl
