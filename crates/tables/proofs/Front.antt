-- A list at the front of a part, as a loop writes it: what is written so far, and what is still to come.
-- Assumes nothing.
use mathlib.Core.Path.{◌≡◌, refl, sym, ap, ◌∙◌}
use mathlib.Core.Bool.{Bool, true, false, not, cond}
use mathlib.Core.List.{List, [], ◌∷◌, append_assoc, append-nil}
use Prim.Native.Nat.{ℕ, zero, suc, ◌+◌, ◌≤◌, ◌<◌}
use native.Mathlib.Nat.{le_refl, not-suc-le-zero, le_of_suc-le-suc}
use native.Mathlib.Numerals.{add-one}
use native.Mathlib.Omega.{arith}
use lib.ListN.{length, get_or, take, set, length-append, length-set}
use lib.Seq.{take-set-le, take-suc-set, length-take-le, get_or-take}
use Rattle.std.proofs.lemmas.Bool.Decides.{nat_tests}
use lib.Dec.{ltb}
use Rattle.std.specs.Prelude.{Option, Some, None, unwrap_or}
use Rattle.std.specs.List.{position_or_len, position}
use Rattle.gran.specs.Lists.{none, place}
use Rattle.tables.specs.Tables.{cell}
use Rattle.tables.specs.Regions.{Front, Written}

module _ {whole : List ℕ} {at : ℕ} {part : List ℕ} where
  -- A number more, where there is room.
  pub written_more : (v : ℕ) (more : List ℕ) → length whole ≤ length part → Written whole at part (v ∷ more) → Written whole (at + 1) (set part at v) more
  written_more v more room w =
      let long = simp (length-append, length-take-le at part w.inside) at (ap length w.is) in
      let h : at < length part = omega arith in
      record {
        inside = rw length-set (omega arith);
        is = rw (add-one, take-suc-set part at v h, append_assoc (take at part) (v ∷ []) more) w.is;
      }

  -- What is written behind the list does not count.
  pub written_kept : (v : ℕ) (more : List ℕ) → Written whole at part more → Written whole at (set part at v) more
  written_kept v more w = record { inside = rw length-set w.inside; is = rw (take-set-le at part at v (le_refl at)) w.is }

  pub written-end : Written whole at part [] → Front whole part
  written-end w room =
      let is : take at part ≡ whole = sym (append-nil (take at part)) ∙ w.is in
      let size : length whole ≡ at = ap length (sym is) ∙ length-take-le at part w.inside in
      rw size is

pub get_d_any : (xs : List ℕ) (j d e : ℕ) → j < length xs → get_or xs j d ≡ get_or xs j e
get_d_any [] j d e h = absurd (not-suc-le-zero h)
get_d_any (x ∷ xs) zero d e h = refl
get_d_any (x ∷ xs) (suc j) d e h = get_d_any xs j d e (le_of_suc-le-suc h)

pub front_at : (xs part : List ℕ) (j : ℕ) → Front xs part → length xs ≤ length part → j < length xs → cell part j ≡ get_or xs j none
front_at xs part j front room h =
    sym (get_or-take (length xs) part j 0 h) ∙ ap (λ (l : List ℕ). get_or l j 0) (front room) ∙ get_d_any xs j 0 none h

-- ---- the place of the first that passes

module _ {A : Type 0} (test : A → Bool) where
  place_prefix : (k : ℕ) (xs : List A) → place test k xs ≡ cond (ltb (position_or_len test xs) (length xs)) (k + position_or_len test xs) none
  place_prefix k [] = refl
  place_prefix k (x ∷ xs) = go (test x) (place_prefix (suc k) xs)
    where
      n : ℕ
      n = position_or_len test xs

      go : (b : Bool) → place test (suc k) xs ≡ cond (ltb n (length xs)) (suc k + n) none
          → cond b k (place test (suc k) xs) ≡ cond (ltb (cond (not b) (1 + n) 0) (length (x ∷ xs))) (k + cond (not b) (1 + n) 0) none
      go true e = grind (arith, nat_tests)
      go false e = grind (arith, nat_tests, e)

  -- what a position is, or none
  pub place_position : (xs : List A) (r : Option ℕ) → r ≡ position test xs → place test 0 xs ≡ unwrap_or r none
  place_position xs r e = rw e (place_prefix 0 xs ∙ go (ltb (position_or_len test xs) (length xs)))
    where
      go : (b : Bool) → cond b (0 + position_or_len test xs) none ≡ unwrap_or (cond b (Some (position_or_len test xs)) None) none
      go true = omega arith
      go false = refl
