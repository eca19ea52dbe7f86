-- The laws of visiting and sweeping: one step, two lists in a row, a range, a search that is over.
-- Assumes nothing.
use mathlib.Core.Path.{◌≡◌, refl, sym, ap, ◌∙◌}
use mathlib.Core.Bool.{Bool, true, false, cond}
use mathlib.Core.List.{List, [], ◌∷◌, ◌++◌}
use Prim.Native.Nat.{ℕ, zero, suc, ◌+◌, ◌-◌, ◌≤◌, ◌<◌}
use native.Mathlib.Omega.{arith}
use lib.ListN.{length, length-set}
use lib.Dec.{eqb}
use borrow.Author.Tests.{eq-eqb, ne_eqb, lt-ltb, le-ltb}
use Rattle.numbered.specs.Candidates.{Step, flat}
use Rattle.walk.specs.Walk.{Walk, queued, mark, enter, visit, visits, sweep}

module _ (goal : ℕ → Bool) where
  module _ (p c n : ℕ) (w : Walk) where
    pub visit_met : w.met ≡ true → visit goal p c n w ≡ w
    unfolding visit
    visit_met e = rw e

    pub visit_new : w.met ≡ false → mark w.area n ≡ 0 → visit goal p c n w ≡ enter goal p c n w
    unfolding visit
    visit_new e h = rw (e, eq-eqb (mark w.area n) 0 h)

    pub visit_old : w.met ≡ false → (mark w.area n ≡ 0 → ⊥) → visit goal p c n w ≡ w
    unfolding visit
    visit_old e h = rw (e, ne_eqb (mark w.area n) 0 h)

    -- A step leaves the area as long as it was.
    pub visit-length : length (visit goal p c n w).area ≡ length w.area
    unfolding visit
    visit-length = go w.met (eqb (mark w.area n) 0)
      where
        go : (m b : Bool) → length (cond m w (cond b (enter goal p c n w) w)).area ≡ length w.area
        go true b = refl
        go false true = simp length-set
        go false false = refl

  pub visits_append : (p : ℕ) (xs ys : List Step) (w : Walk) → visits goal p (xs ++ ys) w ≡ visits goal p ys (visits goal p xs w)
  unfolding visits
  visits_append p [] ys w = refl
  visits_append p (x ∷ xs) ys w = visits_append p xs ys (visit goal p x.label x.target w)

  pub visits-length : (p : ℕ) (xs : List Step) (w : Walk) → length (visits goal p xs w).area ≡ length w.area
  unfolding visits
  visits-length p [] w = refl
  visits-length p (x ∷ xs) w = visits-length p xs (visit goal p x.label x.target w) ∙ visit-length p x.label x.target w

  pub visits_as : (p : ℕ) {xs ys : List Step} (w : Walk) {then : Walk} → then ≡ visits goal p xs w → xs ≡ ys → then ≡ visits goal p ys w
  visits_as p w h e = h ∙ ap (λ (l : List Step). visits goal p l w) e

  -- Four lists, one after the other.
  pub visits-four : (p : ℕ) (xs ys zs vs : List Step) (w : Walk) {w₁ w₂ w₃ w₄ : Walk} → w₁ ≡ visits goal p xs w → w₂ ≡ visits goal p ys w₁ → w₃ ≡ visits goal p zs w₂ → w₄ ≡ visits goal p vs w₃
      → w₄ ≡ visits goal p (xs ++ (ys ++ (zs ++ vs))) w
  visits-four p xs ys zs vs w a b c d =
      d ∙ ap (visits goal p vs) (c ∙ ap (visits goal p zs) (b ∙ ap (visits goal p ys) a))
      ∙ sym (visits_append p xs (ys ++ (zs ++ vs)) w
      ∙ visits_append p ys (zs ++ vs) (visits goal p xs w)
      ∙ visits_append p zs vs (visits goal p ys (visits goal p xs w)))

  pub visits_met : (p : ℕ) (xs : List Step) (w : Walk) → w.met ≡ true → visits goal p xs w ≡ w
  unfolding visits
  visits_met p [] w e = refl
  visits_met p (x ∷ xs) w e = ap (visits goal p xs) (visit_met p x.label x.target w e) ∙ visits_met p xs w e

  module _ (steps : ℕ → List Step) where
    pub sweep_met : (fuel p : ℕ) (w : Walk) → w.met ≡ true → sweep goal steps fuel p w ≡ w
    unfolding sweep
    sweep_met zero p w e = refl
    sweep_met (suc fuel) p w e = rw e

    pub sweep_more : (fuel p : ℕ) (w : Walk) → w.met ≡ false → p < w.count → sweep goal steps (suc fuel) p w ≡ sweep goal steps fuel (p + 1) (visits goal p (steps (queued w.area p)) w)
    unfolding sweep
    sweep_more fuel p w e h = rw (e, lt-ltb p w.count h)

    pub sweep-done : (fuel p : ℕ) (w : Walk) → w.count ≤ p → sweep goal steps fuel p w ≡ w
    unfolding sweep
    sweep-done zero p w h = refl
    sweep-done (suc fuel) p w h = rw (le-ltb p w.count h) (same w.met w)
      where
        same : (b : Bool) (v : Walk) → cond b v v ≡ v
        same true v = refl
        same false v = refl

-- A range, each number of which gives a list of steps.
module _ (goal : ℕ → Bool) (p : ℕ) (f : ℕ → List Step) (k end : ℕ) (w : Walk) where
  pub flat_more : k < end → visits goal p (flat f k (end - k)) w ≡ visits goal p (flat f (k + 1) (end - (k + 1))) (visits goal p (f k) w)
  unfolding flat
  flat_more h =
      let e : end - k ≡ suc (end - (k + 1)) = omega arith in
      rw e (visits_append goal p (f k) (flat f (k + 1) (end - (k + 1))) w)

  pub flat-end : end ≤ k → visits goal p (flat f k (end - k)) w ≡ w
  unfolding flat visits
  flat-end h =
      let e : end - k ≡ 0 = omega arith in
      rw e
