-- The states that differ in one digit alone stand evenly apart, so that the steps to them are those of a row.
-- Assumes nothing.
use mathlib.Core.Path.{◌≡◌, refl, sym}
use mathlib.Core.List.{List}
use Prim.Native.Nat.{ℕ, zero, suc, ◌+◌, ◌*◌, ◌≤◌, ◌<◌}
use native.Mathlib.Omega.{arith}
use native.Mathlib.Nat.{add-mul, mul_assoc, mul-le-mul}
use Rattle.tables.specs.Tables.{is_set}
use Rattle.numbered.specs.Number.{all_states, Sized, Among, number_of}
use Rattle.numbered.specs.Candidates.{Step, offered, flat, with_special, with_user, with_group}
use Rattle.numbered.specs.declared.Sizes.{Sizes}
use Rattle.numbered.specs.declared.Digits.{Digits}
use Rattle.numbered.proofs.Radix.{number_of_lt}
use Rattle.walk.specs.Row.{row_step, Row}
use Rattle.walk.proofs.Keeping.{IsState, Inside}
use Rattle.walk.proofs.Each.{each-offered}
use Rattle.walk.proofs.Targets.{among_special, among_user, among-group}

-- ---- numbers evenly apart

-- The numbers to 0, to 1, .., `count` of them, are states', `stride` apart.
pub record Spaced (z : Sizes) (count stride : ℕ) (to : ℕ → ℕ) : Type 0 where
  pub near : stride ≤ 8192
  pub apart : (j : ℕ) → to 0 + j * stride ≡ to j
  pub states : (j : ℕ) → j < count → to j < all_states z

-- A digit that is j more, and a difference of j times c, with one digit more behind.
digit_more : (a j k r : ℕ) → (a + j) * k + r ≡ (a + 0) * k + r + j * k
digit_more a j k r = omega (arith, add-mul a j k, add-mul a 0 k)

carried : {n : ℕ} (a j c k r : ℕ) → n ≡ a + j * c → n * k + r ≡ a * k + r + j * (c * k)
carried a j c k r e = rw e (omega (arith, add-mul a (j * c) k, mul_assoc j c k))

-- Every product on the way to a stride is small.
pub record Near (z : Sizes) : Type 0 where
  pub pairs : z.users * z.groups ≤ 128
  pub special : z.users * z.groups * z.subjects ≤ 8192
  pub user : z.groups * z.subjects ≤ 512

pub strides_near : {z : Sizes} → Sized z → Near z
strides_near {z} sized =
    let pairs : z.users * z.groups ≤ 128 = mul-le-mul sized.users.1 sized.groups.1 in
    record { pairs = pairs; special = mul-le-mul pairs sized.subjects.1; user = mul-le-mul sized.groups.1 sized.subjects.1 }

module _ {z : Sizes} {d : Digits} (sized : Sized z) (among : Among z d) where
  pub specials_spaced : Spaced z z.specials (z.users * z.groups * z.subjects) (λ (j : ℕ). number_of z (with_special d j))
  unfolding number_of
  specials_spaced = record {
    near = (strides_near sized).special;
    apart = λ j. sym (carried _ j _ z.subjects d.subject (carried _ j z.users z.groups d.group (omega arith)));
    states = λ j h. number_of_lt (among_special among h);
  }

  pub users_spaced : Spaced z z.users (z.groups * z.subjects) (λ (j : ℕ). number_of z (with_user d j))
  unfolding number_of
  users_spaced = record {
    near = omega (arith, (strides_near sized).user);
    apart = λ j. sym (carried _ j _ z.subjects d.subject (digit_more (d.special * z.users) j z.groups d.group));
    states = λ j h. number_of_lt (among_user among h);
  }

  pub groups_spaced : Spaced z z.groups z.subjects (λ (j : ℕ). number_of z (with_group d j))
  unfolding number_of
  groups_spaced = record {
    near = omega (arith, sized.subjects.1);
    apart = λ j. sym (digit_more ((d.special * z.users + d.user) * z.groups) j z.subjects d.subject);
    states = λ j h. number_of_lt (among-group among h);
  }

-- ---- the row

pub inside-row : (t : List ℕ) {z : Sizes} {cells count first stride : ℕ} → Row z cells count first stride → (label j : ℕ) → j < count → Inside z (row_step t cells first stride label j)
unfolding row_step
inside-row t {z} {cells} row label j h = each-offered (IsState z) (is_set t (cells + j)) label _ (λ so. row.states j h)

flat-same : (f g : ℕ → List Step) → ((j : ℕ) → f j ≡ g j) → (k n : ℕ) → flat f k n ≡ flat g k n
unfolding flat
flat-same f g h k zero = refl
flat-same f g h k (suc n) = rw (h k, flat-same f g h (k + 1) n)

module _ {z : Sizes} {count stride : ℕ} {to : ℕ → ℕ} (so : Spaced z count stride to) {first : ℕ} (is : first ≡ to 0) where
  pub row_of : {cells : ℕ} → cells + count ≤ 8192 → Row z cells count first stride
  row_of room = record { room = room; near = so.near; states = λ j h. rw (is, so.apart j) (so.states j h) }

  pub row-steps : (t : List ℕ) (cells label : ℕ) (at : ℕ → ℕ) → ((j : ℕ) → cells + j ≡ at j) → flat (row_step t cells first stride label) 0 count ≡ flat (λ (j : ℕ). offered (is_set t (at j)) label (to j)) 0 count
  unfolding row_step
  row-steps t cells label at e = flat-same (row_step t cells first stride label) (λ (j : ℕ). offered (is_set t (at j)) label (to j)) (λ j. rw (e j, is, so.apart j)) 0 count
