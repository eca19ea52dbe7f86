-- One of four by a number, as steps are told apart by their marks, from 96 on, and records by their kinds, from 129 on.
-- Assumes nothing.
use mathlib.Core.Path.{◌≡◌}
use mathlib.Core.Bool.{cond}
use Prim.Native.Nat.{ℕ, ◌+◌}
use borrow.Author.Tests.{eq-eqb, ne_eqb}
use lib.Dec.{eqb}

module _ {A : Type 0} (n : ℕ) where
  -- w for n, x for n + 1, y for n + 2, else z
  unfoldable pub one_of : ℕ → A → A → A → A → A
  one_of k w x y z = cond (eqb k n) w (cond (eqb k (n + 1)) x (cond (eqb k (n + 2)) y z))

  module _ (k : ℕ) (w x y z : A) where
    pub first_of : k ≡ n → one_of k w x y z ≡ w
    unfolding one_of
    first_of e = rw (eq-eqb k n e)

    module _ (not_first : k ≡ n → ⊥) where
      pub second_of : k ≡ n + 1 → one_of k w x y z ≡ x
      unfolding one_of
      second_of e = rw (ne_eqb k n not_first, eq-eqb k (n + 1) e)

      module _ (not-second : k ≡ n + 1 → ⊥) where
        pub third_of : k ≡ n + 2 → one_of k w x y z ≡ y
        unfolding one_of
        third_of e = rw (ne_eqb k n not_first, ne_eqb k (n + 1) not-second, eq-eqb k (n + 2) e)

        pub fourth_of : (k ≡ n + 2 → ⊥) → one_of k w x y z ≡ z
        unfolding one_of
        fourth_of not_third = rw (ne_eqb k n not_first, ne_eqb k (n + 1) not-second, ne_eqb k (n + 2) not_third)
