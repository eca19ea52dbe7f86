-- Laws of lines: the length of the first line of what is left at an index, and the lines of a text one after the other.
-- Assumes nothing.
use mathlib.Core.Path.{◌≡◌, ◌∙◌, refl, ap}
use mathlib.Core.Bool.{Bool, true, false, cond}
use mathlib.Core.List.{List, [], ◌∷◌}
use Prim.Native.Nat.{ℕ, suc, ◌+◌, ◌≤◌, ◌<◌}
use native.Mathlib.Nat.{not-suc-le-zero}
use native.Mathlib.Omega.{arith}
use borrow.Author.Tests.{lt-ltb}
use lib.Dec.{eqb, ltb}
use Rattle.std.proofs.Common.{not, position, Some, None}
use Rattle.std.specs.List.{position_or_len}
use Rattle.std.proofs.lemmas.Bool.Decides.{nat_tests}
use lib.ListN.{length, take, drop, length-drop, drop_of_length-le}
use lib.Seq.{drop-drop, length-take-le}
use Rattle.lines.specs.Line.{line_length, first_line, lines_of, prepend}

-- ---- the first LF ends the line

abbrev is_lf : ℕ → Bool
is_lf b = eqb b 10

-- the line that begins with a byte more
longer : (n m r : ℕ) → r ≡ cond (ltb n m) (suc n) m → suc r ≡ cond (ltb (1 + n) (suc m)) (suc (1 + n)) (suc m)
longer n m r e = grind (arith, nat_tests)

line_by_place : (s : List ℕ) → line_length s ≡ cond (ltb (position_or_len is_lf s) (length s)) (suc (position_or_len is_lf s)) (length s)
unfolding line_length
line_by_place [] = refl
line_by_place (b ∷ s) = go (eqb b 10) (line_by_place s)
  where
    go : (t : Bool) → line_length s ≡ cond (ltb (position_or_len is_lf s) (length s)) (suc (position_or_len is_lf s)) (length s) →
        cond t 1 (suc (line_length s)) ≡ cond (ltb (cond (not t) (1 + position_or_len is_lf s) 0) (suc (length s))) (suc (cond (not t) (1 + position_or_len is_lf s) 0)) (suc (length s))
    go true e = simp (lt-ltb 0 (suc (length s)) (omega arith))
    go false e = longer (position_or_len is_lf s) (length s) (line_length s) e

module _ (s : List ℕ) where
  pub line_at : (i : ℕ) → position is_lf s ≡ Some i → i + 1 ≡ line_length s
  line_at i e = rw line_by_place (go (ltb (position_or_len is_lf s) (length s)) e)
    where
      go : (t : Bool) → cond t (Some (position_or_len is_lf s)) None ≡ Some i → i + 1 ≡ cond t (suc (position_or_len is_lf s)) (length s)
      go true e = let is : i ≡ position_or_len is_lf s = cc in omega arith
      go false e = cc

  pub line_whole : position is_lf s ≡ None → length s ≡ line_length s
  line_whole e = rw line_by_place (go (ltb (position_or_len is_lf s) (length s)) e)
    where
      go : (t : Bool) → cond t (Some (position_or_len is_lf s)) None ≡ None → length s ≡ cond t (suc (position_or_len is_lf s)) (length s)
      go true e = cc
      go false e = refl

-- the first line, and the lines of the rest
pub lines_cons : (s : List ℕ) → 0 < length s → lines_of s ≡ first_line s ∷ lines_of (drop (line_length s) s)
unfolding lines_of line_length prepend
lines_cons [] h = absurd (not-suc-le-zero h)
lines_cons (b ∷ []) h = go (eqb b 10)
  where
    go : (t : Bool) → cond t ((b ∷ []) ∷ []) (prepend b []) ≡ take (cond t 1 1) (b ∷ []) ∷ lines_of (drop (cond t 1 1) (b ∷ []))
    go true = refl
    go false = refl
lines_cons (b ∷ (a ∷ s)) h = go (eqb b 10) (lines_cons (a ∷ s) (omega arith))
  where
    go : (t : Bool) → lines_of (a ∷ s) ≡ first_line (a ∷ s) ∷ lines_of (drop (line_length (a ∷ s)) (a ∷ s)) →
        cond t ((b ∷ []) ∷ lines_of (a ∷ s)) (prepend b (lines_of (a ∷ s))) ≡
        take (cond t 1 (suc (line_length (a ∷ s)))) (b ∷ (a ∷ s)) ∷ lines_of (drop (cond t 1 (suc (line_length (a ∷ s)))) (b ∷ (a ∷ s)))
    go true e = refl
    go false e = ap (prepend b) e

-- a line lies within its text, and is not empty where that is not
pub line_within : (s : List ℕ) → line_length s ≤ length s
unfolding line_length
line_within [] = omega arith
line_within (b ∷ s) = go (eqb b 10) (line_within s)
  where
    go : (t : Bool) → line_length s ≤ length s → cond t 1 (suc (line_length s)) ≤ suc (length s)
    go true h = omega arith
    go false h = omega arith

pub line_positive : (s : List ℕ) → 0 < length s → 0 < line_length s
unfolding line_length
line_positive [] h = absurd (not-suc-le-zero h)
line_positive (b ∷ s) h = go (eqb b 10)
  where
    go : (t : Bool) → 0 < cond t 1 (suc (line_length s))
    go true = omega arith
    go false = omega arith

-- the first line is as long as it is said to be
pub first-length : (s : List ℕ) → length (first_line s) ≡ line_length s
first-length s = length-take-le (line_length s) s (line_within s)

-- a loop over the lines of a text that has come to i
module _ (s : List ℕ) (i : ℕ) where
  pub lines_next : i < length s → lines_of (drop i s) ≡ first_line (drop i s) ∷ lines_of (drop (i + line_length (drop i s)) s)
  lines_next h = lines_cons (drop i s) (simp length-drop (omega arith)) ∙ rw drop-drop

  pub lines_end : length s ≤ i → lines_of (drop i s) ≡ []
  unfolding lines_of
  lines_end h = rw (drop_of_length-le s {i = i} h)
