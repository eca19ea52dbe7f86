-- What is left of a path from a byte on: the laws of the loops.
-- Assumes nothing.
use Prim.Native.Nat.{ℕ, zero, suc, ◌+◌, ◌-◌, ◌≤◌, ◌<◌}
use mathlib.Core.Path.{◌≡◌, refl, sym, ap, ◌∙◌}
use mathlib.Core.Bool.{Bool, true, false, not, ◌&&◌, ◌||◌, cond, and-true, and-false, and_assoc}
use mathlib.Core.List.{List, [], ◌∷◌}
use native.Mathlib.Numerals.{add-one}
use native.Mathlib.Omega.{arith}
use native.Mathlib.Decide.{ℕ_discrete, dec_lt}
use lib.Dec.{leb, eqb}
use lib.ListN.{length, get_or, drop, drop_of_length-le}
use lib.Seq.{drop-cons}
use borrow.Author.Tests.{le-leb, lt-leb, ne_eqb}
use Rattle.std.specs.List.{list_any}
use Rattle.paths.specs.Path.{slash, spelled, is_path, plain, all_plain, good_path, lead, ended, names, first, under}
use Rattle.paths.proofs.Paths.{first-same, first_other, first-lead-[]}

-- ---- a good path

-- What may follow, of bytes that a path may hold.
abbrev pub good_rest : Bool → Bool → List ℕ → Bool
good_rest policy inside s = spelled inside s && all_plain policy s

module _ (policy : Bool) where
  plain-slash : plain policy slash ≡ true
  unfolding plain
  plain-slash = rw and-false

  pub good_long : (p : List ℕ) → 64 < length p → good_path policy p ≡ false
  unfolding good_path
  good_long p h = rw (lt-leb (length p) 64 h)

  pub good_none : (p : List ℕ) → length p ≡ 0 → good_path policy p ≡ false
  unfolding good_path is_path
  good_none [] h = refl
  good_none (b ∷ p) h = absurd (omega arith)

  pub good_other : (p : List ℕ) → (get_or p 0 0 ≡ slash → ⊥) → good_path policy p ≡ false
  unfolding good_path is_path
  good_other [] e = refl
  good_other (b ∷ p) e = rw (ne_eqb _ _ e) (and-false (leb (length (b ∷ p)) 64))

  pub good_first : (p : List ℕ) → length p ≤ 64 → get_or p 0 0 ≡ slash → good_path policy p ≡ good_rest policy false (drop 1 p)
  unfolding good_path is_path
  good_first [] h e = absurd (omega arith)
  good_first (b ∷ p) h e = rw (le-leb (length (b ∷ p)) 64 h, e, plain-slash)

  module _ (inside : Bool) (s : List ℕ) (i : ℕ) where
    pub good_slash : i < length s → get_or s i 0 ≡ slash → good_rest policy inside (drop i s) ≡ (inside && good_rest policy false (drop (i + 1) s))
    good_slash h e = rw (add-one, drop-cons s i 0, e, plain-slash) (and_assoc inside _ _)

    pub good_name : i < length s → (get_or s i 0 ≡ slash → ⊥)
        → good_rest policy inside (drop i s) ≡ (plain policy (get_or s i 0) && good_rest policy true (drop (i + 1) s))
    good_name h e = rw (add-one, drop-cons s i 0, ne_eqb _ _ e) (turned (spelled true (drop (suc i) s)) (plain policy (get_or s i 0)) _)
      where
        turned : (x y z : Bool) → (x && (y && z)) ≡ (y && (x && z))
        turned true y z = refl
        turned false y z = sym (and-false y)

    pub good-end : length s ≤ i → good_rest policy inside (drop i s) ≡ not inside
    good-end h = rw drop_of_length-le (and-true (not inside))

-- ---- one path under another

-- p is under q as far as their bytes from i on say.
abbrev pub under_from : ℕ → List ℕ → List ℕ → Bool
under_from i p q = first (ended (drop i q)) (ended (drop i p))

pub under_first : (p q : List ℕ) → under p q ≡ under_from 1 p q
unfolding under names
under_first [] [] = refl
under_first [] (b ∷ q) = refl
under_first (c ∷ p) [] = refl
under_first (c ∷ p) (b ∷ q) = refl

module _ (p q : List ℕ) (i : ℕ) where
  pub under_next : i < length p → i < length q → get_or p i 0 ≡ get_or q i 0 → under_from i p q ≡ under_from (i + 1) p q
  under_next h k e = rw (add-one, drop-cons q i 0, drop-cons p i 0, e) (first-same (get_or q i 0) (drop (suc i) q) (drop (suc i) p))

  pub under_apart : i < length p → i < length q → (get_or p i 0 ≡ get_or q i 0 → ⊥) → under_from i p q ≡ first (ended (drop i q)) []
  under_apart h k ne = rw (drop-cons q i 0, drop-cons p i 0) (first_other (get_or q i 0) (get_or p i 0) (drop (suc i) q) (drop (suc i) p) (λ e. ne (sym e)))

  pub under_short : length p ≤ i → under_from i p q ≡ first (ended (drop i q)) []
  under_short h = rw (drop_of_length-le p)

  pub under-end : length q ≤ i → under_from i p q ≡ true
  under-end h = rw (drop_of_length-le q)

-- ---- no slash

module _ (s : List ℕ) (i : ℕ) where
  pub none-slash : i < length s → get_or s i 0 ≡ slash → first (ended (drop i s)) [] ≡ false
  none-slash h e = rw (drop-cons s i 0, e)

  pub none-next : i < length s → (get_or s i 0 ≡ slash → ⊥) → first (ended (drop i s)) [] ≡ first (ended (drop (i + 1) s)) []
  none-next h e = rw (add-one, drop-cons s i 0, ne_eqb _ _ e) (first-lead-[] (get_or s i 0) (ended (drop (suc i) s)))

-- no byte of it is a slash
pub none_contains : (s : List ℕ) → not (list_any (λ y. eqb y slash) s) ≡ first (ended s) []
none_contains [] = refl
none_contains (b ∷ s) = go (eqb b slash) (none_contains s)
  where
    go : (t : Bool) → not (list_any (λ y. eqb y slash) s) ≡ first (ended s) [] → not (t || list_any (λ y. eqb y slash) s) ≡ first (cond t ([] ∷ ended s) (lead b (ended s))) []
    go true e = refl
    go false e = e ∙ sym (first-lead-[] b (ended s))

-- ---- a slash at the end

-- A slash at a later place is a slash.
some-slash : (s : List ℕ) (last k i : ℕ) → i + k ≡ last → last < length s → get_or s last 0 ≡ slash → first (ended (drop i s)) [] ≡ false
some-slash s last zero i e h at = none-slash s i (omega arith) (rw (← at) (ap (λ (j : ℕ). get_or s j 0) (omega (arith, e))))
some-slash s last (suc k) i e h at = go (ℕ_discrete (get_or s i 0) slash) (some-slash s last k (i + 1) (omega (arith, e)) h at)
  where
    go : Dec (get_or s i 0 ≡ slash) → first (ended (drop (i + 1) s)) [] ≡ false → first (ended (drop i s)) [] ≡ false
    go (yes p) rest = none-slash s i (omega (arith, e)) p
    go (no n) rest = none-next s i (omega (arith, e)) n ∙ rest

-- A slash of q at or behind a place where p has another byte, or none.
module _ (p q : List ℕ) (m last : ℕ) (within : last < length q) (at : get_or q last 0 ≡ slash) (behind : m ≤ last) (apart : m < length p → get_or p m 0 ≡ get_or q m 0 → ⊥) where
  none_from : (i : ℕ) → i ≤ last → first (ended (drop i q)) [] ≡ false
  none_from i h = some-slash q last (last - i) i (omega arith) within at

  parted : (k i : ℕ) → i + k ≡ m → under_from i p q ≡ false
  parted zero i e = go (dec_lt i (length p))
    where
      same : i ≡ m
      same = omega (arith, e)

      go : Dec (i < length p) → under_from i p q ≡ false
      go (no h) = under_short p q i (omega arith) ∙ none_from i (omega arith)
      go (yes h) =
          under_apart p q i h (omega arith) (λ d. apart (omega arith) (ap (λ (j : ℕ). get_or p j 0) (sym same) ∙ d ∙ ap (λ (j : ℕ). get_or q j 0) same))
          ∙ none_from i (omega arith)
  parted (suc k) i e = go (dec_lt i (length p)) (ℕ_discrete (get_or p i 0) (get_or q i 0)) (parted k (i + 1) (omega (arith, e)))
    where
      go : Dec (i < length p) → Dec (get_or p i 0 ≡ get_or q i 0) → under_from (i + 1) p q ≡ false → under_from i p q ≡ false
      go (no h) d rest = under_short p q i (omega arith) ∙ none_from i (omega (arith, e))
      go (yes h) (no d) rest = under_apart p q i h (omega (arith, e)) d ∙ none_from i (omega (arith, e))
      go (yes h) (yes d) rest = under_next p q i h (omega (arith, e)) d ∙ rest

  pub under_parted : 1 ≤ m → under p q ≡ false
  under_parted h = under_first p q ∙ parted (m - 1) 1 (omega arith)
