-- Places of numbers in a list, each once.
-- Assumes nothing.
use mathlib.Core.Path.{◌≡◌, refl, sym, ap, subst}
use mathlib.Core.Bool.{Bool, true, false, cond, ◌||◌, So, false≢true}
use mathlib.Core.List.{List, [], ◌∷◌}
use Prim.Native.Nat.{ℕ, suc, ◌+◌, ◌<◌}
use native.Mathlib.Omega.{arith}
use lib.Dec.{eqb}
use lib.ListN.{length, get_or}
use Rattle.paths.proofs.Bools.{iff-≡, eqb_of, eqb-to}
use Rattle.gran.specs.Lists.{none, Distinct, place, member}
use Rattle.gran.proofs.Lists.{distinct_at}
use Rattle.gran.proofs.Members.{all_of, all-mem, at_mem, has-member}
use Rattle.runs.proofs.Lists.{Rising}

-- x stands at place j.
pub record At (xs : List ℕ) (x j : ℕ) : Type 0 where
  pub inside : j < length xs
  pub is : get_or xs j none ≡ x

place-from : (x i : ℕ) (xs : List ℕ) → So (member x xs) → (j : ℕ) × (place (eqb x) i xs ≡ i + j) × At xs x j
place-from x i [] m = absurd (false≢true m)
place-from x i (y ∷ ys) m = go (eqb x y) refl m (place-from x (suc i) ys)
  where
    go : (b : Bool) → eqb x y ≡ b → So (b || member x ys) → (So (member x ys) → (j : ℕ) × (place (eqb x) (suc i) ys ≡ suc i + j) × At ys x j)
        → (j : ℕ) × (cond b i (place (eqb x) (suc i) ys) ≡ i + j) × At (y ∷ ys) x j
    go true e n ih = (0, omega arith, record { inside = omega arith; is = sym (eqb-to x y e) })
    go false e n ih = let (j, p, at) = ih n in (suc j, omega arith, record { inside = omega (arith, at.inside); is = at.is })

-- A member stands at its place.
pub place_at : (x : ℕ) (xs : List ℕ) → So (member x xs) → At xs x (place (eqb x) 0 xs)
place_at x xs m = let (j, p, at) = place-from x 0 xs m in let same : place (eqb x) 0 xs ≡ j = omega arith in rw same at

module _ (xs : List ℕ) (distinct : Distinct xs) where
  -- Where each stands once, places are equal where what stands there is.
  pub same_place : (i j : ℕ) → i < length xs → j < length xs → eqb i j ≡ eqb (get_or xs i none) (get_or xs j none)
  same_place i j h k = iff-≡ (eqb i j) _ (λ t. eqb_of (ap (λ (n : ℕ). get_or xs n none) (eqb-to i j t)))
      (λ t. eqb_of (distinct_at xs none distinct i j h k (eqb-to _ _ t)))

  -- A place is that of x where x stands there.
  pub same_at : (x p j : ℕ) → At xs x p → j < length xs → eqb j p ≡ eqb (get_or xs j none) x
  same_at x p j at h = rw (← at.is) (same_place j p h at.inside)

  -- What stands at a place has it for its place.
  pub place-get_or : (j : ℕ) → j < length xs → place (eqb (get_or xs j none)) 0 xs ≡ j
  place-get_or j h = let at = place_at (get_or xs j none) xs (has-member xs (at_mem none xs j h)) in
      distinct_at xs none distinct _ j at.inside h at.is

-- Members that rise by an order are distinct.
pub rising_distinct : (R : ℕ → ℕ → Type 0) → ((x : ℕ) → R x x → ⊥) → (xs : List ℕ) → Rising R xs → Distinct xs
rising_distinct R never [] h = tt
rising_distinct R never (x ∷ xs) h = (all_of _ xs (λ y m e. never x (subst (R x) (sym e) (all-mem (R x) xs h.0 m))), rising_distinct R never xs h.1)
