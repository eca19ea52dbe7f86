-- The least of the free candidates is the smallest free id.
-- Assumes nothing.
use mathlib.Core.Path.{◌≡◌, refl, sym, ◌∙◌}
use mathlib.Core.Logic.{◌⊎◌, inl, inr, ⊎_elim}
use mathlib.Core.Bool.{Bool, true, false, cond, So}
use Prim.Native.Nat.{ℕ, zero, suc, ◌≤◌, ◌<◌}
use native.Mathlib.Nat.{not-suc-le-zero, eq-or-lt_of_le, le_of_suc-le-suc}
use native.Mathlib.Omega.{arith}
use borrow.Author.Tests.{ltb-true, ltb-false}
use lib.Dec.{ltb}
use Rattle.paths.proofs.Bools.{to-false, left}
use Rattle.gran.specs.Policy.{Policy, Allowed, no_id}
use Rattle.gran.specs.Abstract.{is_free, free_id}
use Rattle.gran.proofs.Policies.{allows_range}
use Rattle.gran.proofs.Free.{free_id_is, free_id-none}
use Rattle.ids.specs.Ids.{offered, least_of}

-- ---- the least of a row of ids

module _ (a : ℕ → ℕ) where
  -- No more than any of the first n, and one of them, or no id.
  record Bottom (n m : ℕ) : Type 0 where
    least : (j : ℕ) → j < n → m ≤ a j
    one : (m ≡ no_id) ⊎ ((j : ℕ) × (j < n) × (a j ≡ m))

  bottom : (n : ℕ) → Bottom n (least_of a n)
  bottom zero = record { least = λ j l. absurd (not-suc-le-zero l); one = inl refl }
  bottom (suc n) = go (ltb (a n) (least_of a n)) refl (bottom n)
    where
      m : ℕ
      m = least_of a n

      go : (x : Bool) → ltb (a n) m ≡ x → Bottom n m → Bottom (suc n) (cond x (a n) m)
      go true e b = record {
        least = λ j l. ⊎_elim (λ d. rw d (omega arith)) (λ k. omega (arith, b.least j k, ltb-true (a n) m e)) (eq-or-lt_of_le (le_of_suc-le-suc l));
        one = inr (n, omega arith, refl);
      }
      go false e b = record {
        least = λ j l. ⊎_elim (λ d. rw d (omega (arith, ltb-false (a n) m e))) (λ k. b.least j k) (eq-or-lt_of_le (le_of_suc-le-suc l));
        one = ⊎_elim (λ d. inl d) (λ r. inr (r.0, omega (arith, r.1), r.2)) b.one;
      }

-- ---- candidates

-- For every free id some candidate is free and no greater.
abbrev pub Whole : Policy → ℕ → Allowed → (ℕ → ℕ) → ℕ → Type 0
Whole P k a candidate n = (x : ℕ) → So (is_free P k a x) → (j : ℕ) × (j < n) × So (is_free P k a (candidate j)) × (candidate j ≤ x)

module _ (P : Policy) (k : ℕ) (a : Allowed) where
  module _ (candidate : ℕ → ℕ) (n : ℕ) (whole : Whole P k a candidate n) where
    abbrev m : ℕ
    m = least_of (offered P k a candidate) n

    below : (x : ℕ) → So (is_free P k a x) → m ≤ x
    unfolding offered
    below x t = let r = whole x t in omega (arith, rw r.2 at ((bottom (offered P k a candidate) n).least r.0 r.1), r.3)

    -- what is offered is free, or names nobody
    free : (m ≡ no_id) ⊎ So (is_free P k a m)
    unfolding offered
    free = ⊎_elim (λ e. inl e) (λ r. go (candidate r.0) m (is_free P k a (candidate r.0)) refl r.2) (bottom (offered P k a candidate) n).one
      where
        go : (x y : ℕ) (b : Bool) → is_free P k a x ≡ b → cond b x no_id ≡ y → (y ≡ no_id) ⊎ So (is_free P k a y)
        go x y true e d = inr (rw d at e)
        go x y false e d = inl (sym d)

    pub least_free : m ≡ free_id P k a
    least_free = ⊎_elim
        (λ e. e ∙ sym (free_id-none P k a (λ x. to-false _ (λ t. omega (arith, below x t, allows_range a x (left _ _ t))))))
        (λ t. sym (free_id_is P k a m t (λ x l. to-false _ (λ u. omega (arith, below x u)))))
        free
