-- Searches over lists: what is found, and where.
-- Assumes nothing.
use mathlib.Core.Path.{◌≡◌, refl}
use mathlib.Core.Logic.{◌⊎◌, inl, inr}
use mathlib.Core.Bool.{Bool, true, false, cond, ◌&&◌, So, false≢true}
use mathlib.Core.List.{List, [], ◌∷◌, map}
use Prim.Native.Nat.{ℕ, zero, suc, ◌+◌, ◌<◌}
use native.Mathlib.Nat.{not-suc-le-zero, le_of_suc-le-suc}
use native.Mathlib.Omega.{arith}
use lib.Dec.{eqb}
use lib.ListN.{length, get_or}
use Rattle.paths.proofs.Bools.{to-false, left, right, or_left, or_right, either, eqb_of, eqb-to}
use Rattle.gran.specs.Lists.{any, only, find, place, member}
use Rattle.gran.proofs.Lists.{only-any}

module _ {A : Type 0} (test : A → Bool) (d : A) where
  -- The first that passes is at place i.
  pub record First (xs : List A) (i : ℕ) : Type 0 where
    pub inside : i < length xs
    pub passes : So (test (get_or xs i d))
    pub none_before : (j : ℕ) → j < i → So (test (get_or xs j d)) → ⊥

  later : (x : A) (xs : List A) (i : ℕ) → First (x ∷ xs) (suc i) → (test x ≡ false) × First xs i
  later x xs i h = (
    to-false (test x) (h.none_before 0 (omega arith)),
    record { inside = le_of_suc-le-suc h.inside; passes = h.passes; none_before = λ j l. h.none_before (suc j) (omega arith) },
  )

  pub find_at : (xs : List A) (i : ℕ) → First xs i → find test d xs ≡ get_or xs i d
  find_at [] i h = absurd (not-suc-le-zero h.inside)
  find_at (x ∷ xs) zero h = rw h.passes
  find_at (x ∷ xs) (suc i) h = let l = later x xs i h in rw l.0 (find_at xs i l.1)

  pub place_at : (k : ℕ) (xs : List A) (i : ℕ) → First xs i → place test k xs ≡ k + i
  place_at k [] i h = absurd (not-suc-le-zero h.inside)
  place_at k (x ∷ xs) zero h = rw h.passes (omega arith)
  place_at k (x ∷ xs) (suc i) h = let l = later x xs i h in rw l.0 (omega (arith, place_at (suc k) xs i l.1))

  -- One that passes has a place.
  pub any_place : (xs : List A) → So (any test xs) → (j : ℕ) × (j < length xs) × So (test (get_or xs j d))
  any_place [] t = absurd (false≢true t)
  any_place (x ∷ xs) t = go (either (test x) _ t) (any_place xs)
    where
      go : So (test x) ⊎ So (any test xs) → (So (any test xs) → (j : ℕ) × (j < length xs) × So (test (get_or xs j d)))
          → (j : ℕ) × (j < length (x ∷ xs)) × So (test (get_or (x ∷ xs) j d))
      go (inl s) ih = (0, omega arith, s)
      go (inr s) ih = let r = ih s in (suc r.0, omega (arith, r.1), r.2)

-- The keys of those that pass: what has a key of the list, and what has its key in the list.
module _ {A : Type 0} (test : A → Bool) (key : A → ℕ) (d : A) where
  pub listed-place : (xs : List A) (c : ℕ) → So (member c (map key (only test xs))) → (j : ℕ) × (j < length xs) × So (test (get_or xs j d)) × (c ≡ key (get_or xs j d))
  listed-place xs c m =
      let r = any_place (λ (x : A). test x && eqb c (key x)) d xs (only-any test key (eqb c) xs m) in
      let x : A = get_or xs r.0 d in
      (r.0, r.1, left (test x) _ r.2, eqb-to c (key x) (right (test x) _ r.2))

  pub place_listed : (xs : List A) (j : ℕ) → j < length xs → So (test (get_or xs j d)) → So (member (key (get_or xs j d)) (map key (only test xs)))
  place_listed [] j l t = absurd (not-suc-le-zero l)
  place_listed (x ∷ xs) zero l t = rw t (or_left _ (eqb_of {m = key x} refl))
  place_listed (x ∷ xs) (suc j) l t = go (test x) (place_listed xs j (le_of_suc-le-suc l) t)
    where
      c : ℕ
      c = key (get_or xs j d)

      go : (b : Bool) → So (member c (map key (only test xs))) → So (member c (map key (cond b (x ∷ only test xs) (only test xs))))
      go true m = or_right (eqb c (key x)) m
      go false m = m

-- A test that all pass.
abbrev pub always : {A : Type 0} → A → Bool
always x = true

pub only_all : {A : Type 0} (xs : List A) → only always xs ≡ xs
only_all [] = refl
only_all (x ∷ xs) = let e = only_all xs in cc
