-- Numbers by their four digits, each to the base of its size.
-- Assumes nothing.
use mathlib.Core.Path.{◌≡◌, refl}
use Prim.Native.Nat.{ℕ, ◌+◌, ◌*◌, ◌/◌, ◌≤◌, ◌<◌}
use native.Mathlib.Omega.{arith}
use native.Mathlib.Nat.{mul-le-mul_left, mul-one, mod-lt, div-lt_iff_lt-mul}
use lib.Arith.{digits_lt, digits_div, digits_mod}
use Rattle.numbered.specs.Number.{all_states, Sized, Among, Celled, number_of, digits_of}
use Rattle.numbered.specs.declared.Sizes.{Sizes}
use Rattle.numbered.specs.declared.Digits.{Digits}

pub grows : (a k : ℕ) → 0 < k → a ≤ a * k
grows a k h = omega (arith, mul-le-mul_left a h, mul-one a)

-- Every number on the way to that of the digits is small.
pub record Small (z : Sizes) (d : Digits) : Type 0 where
  pub user : d.special * z.users + d.user < 8192
  pub group : (d.special * z.users + d.user) * z.groups + d.group < 8192
  pub subject : ((d.special * z.users + d.user) * z.groups + d.group) * z.subjects + d.subject < 8192

module _ {z : Sizes} {d : Digits} (among : Among z d) where
  pub number_of_lt : number_of z d < all_states z
  unfolding number_of all_states
  number_of_lt = digits_lt (digits_lt (digits_lt among.special among.user) among.group) among.subject

  pub small : Sized z → Small z d
  unfolding number_of
  small sized =
      let a : ℕ = d.special * z.users + d.user in
      let b : ℕ = a * z.groups + d.group in
      let lt : b * z.subjects + d.subject < 8192 = omega (arith, number_of_lt, sized.few) in
      let up-b : b ≤ b * z.subjects = grows b z.subjects sized.subjects.0 in
      let up-a : a ≤ a * z.groups = grows a z.groups sized.groups.0 in
      record { user = omega arith; group = omega arith; subject = lt }

  pub digits_number : digits_of z (number_of z d) ≡ d
  unfolding number_of digits_of
  digits_number =
      let a : ℕ = d.special * z.users + d.user in
      let b : ℕ = a * z.groups + d.group in
      let db : (b * z.subjects + d.subject) / z.subjects ≡ b = digits_div b among.subject in
      let da : b / z.groups ≡ a = digits_div a among.group in
      rw (db, da, digits_div d.special among.user, digits_mod d.special among.user, digits_mod a among.group, digits_mod b among.subject) refl

pub digits_among : {z : Sizes} → Sized z → (n : ℕ) → n < all_states z → Among z (digits_of z n)
unfolding digits_of all_states
digits_among {z} sized n h = record {
  special = (div-lt_iff_lt-mul sized.users.0).1 ((div-lt_iff_lt-mul sized.groups.0).1 ((div-lt_iff_lt-mul sized.subjects.0).1 h));
  user = mod-lt (n / z.subjects / z.groups) sized.users.0;
  group = mod-lt (n / z.subjects) sized.groups.0;
  subject = mod-lt n sized.subjects.0;
}

-- The tables have cells for digits below their sizes, and for the digits of any number.
module _ {z : Sizes} (sized : Sized z) where
  pub among_celled : {d : Digits} → Among z d → Celled d
  among_celled among = record {
    user = omega (arith, among.user, sized.users.1);
    group = omega (arith, among.group, sized.groups.1);
    subject = omega (arith, among.subject, sized.subjects.1);
  }

  pub digits_celled : (n : ℕ) → Celled (digits_of z n)
  unfolding digits_of
  digits_celled n = record {
    user = omega (arith, mod-lt (n / z.subjects / z.groups) sized.users.0, sized.users.1);
    group = omega (arith, mod-lt (n / z.subjects) sized.groups.0, sized.groups.1);
    subject = omega (arith, mod-lt n sized.subjects.0, sized.subjects.1);
  }
