-- Searches along a row of readings: over the places of a range as over the list of the readings.
-- Assumes nothing.
use Rattle.std.proofs.Common.{◌≡◌, refl, ℕ, zero, suc, ◌+◌, add-one, Bool, true, false, cond, Option, None, Some, unwrap_or, option_map, ap, ◌∙◌}
use Rattle.std.specs.List.{list_any, find, range_with_len}
use Rattle.gran.specs.Lists.{none, any, place}
use Rattle.fields.specs.Fields.{row}

module _ {A : Type 0} (f : ℕ → A) (test : A → Bool) where
  pub any_row : (k n : ℕ) → list_any (λ (i : ℕ). test (f i)) (range_with_len k n) ≡ any test (row f k n)
  unfolding row
  any_row k zero = refl
  any_row k (suc n) = rw (add-one, any_row (suc k) n)

  pub place_row : (k n : ℕ) → unwrap_or (find (λ (i : ℕ). test (f i)) (range_with_len k n)) none ≡ place test k (row f k n)
  unfolding row
  place_row k zero = refl
  place_row k (suc n) = go (test (f k)) (place_row (suc k) n)
    where
      rest : Option ℕ
      rest = find (λ (i : ℕ). test (f i)) (range_with_len (k + 1) n)

      go : (b : Bool) → unwrap_or (find (λ (i : ℕ). test (f i)) (range_with_len (suc k) n)) none ≡ place test (suc k) (row f (suc k) n)
          → unwrap_or (cond b (Some k) rest) none ≡ cond b k (place test (suc k) (row f (suc k) n))
      go true e = refl
      go false e = rw add-one e

  -- what is found, or none
  pub place_found : (r : Option ℕ) (n : ℕ) → option_map (λ i. i) r ≡ find (λ (i : ℕ). test (f i)) (range_with_len 0 n) → unwrap_or r none ≡ place test 0 (row f 0 n)
  place_found None n e = ap (λ o. unwrap_or o none) e ∙ place_row 0 n
  place_found (Some i) n e = ap (λ o. unwrap_or o none) e ∙ place_row 0 n
