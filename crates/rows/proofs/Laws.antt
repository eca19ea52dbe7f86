-- How a row begins, said by the library's comparison of two lists; and the rows of a table, one after the other.
-- Assumes nothing.
use Rattle.std.proofs.Common.{◌≡◌, refl, sym, ℕ, zero, suc, ◌-◌, ◌<◌, ◌||◌, false, List, [], ◌∷◌, length, take, drop, eqb, slice_index, EachIndex, Decides, arith, sub-one}
use Rattle.std.specs.Cmp.Lexicographic.{pointwise}
use Rattle.std.proofs.lemmas.Bool.Decides.{Decides-and, Decides-eqb}
use Rattle.rows.specs.Rows.{rows_of, begins_with, has_row}

pub starts_begins : (key row : List ℕ) → pointwise eqb key (take (length key) row) ≡ begins_with key row
unfolding begins_with
starts_begins [] row = refl
starts_begins (k ∷ key) [] = refl
starts_begins (k ∷ key) (b ∷ row) = rw (starts_begins key row)

-- two lists are the same at each index where their heads are and their tails are
each_index_more : (x y : ℕ) (xs ys : List ℕ) → x ≡ y → EachIndex xs (λ k. slice_index xs k ≡ slice_index ys k) → EachIndex (x ∷ xs) (λ k. slice_index (x ∷ xs) k ≡ slice_index (y ∷ ys) k)
each_index_more x y xs ys e h zero g = e
each_index_more x y xs ys e h (suc k) g = h k (omega arith)

-- a key that a row of its length begins with is that row, byte by byte
pub is_same_decides : (key row : List ℕ) → length key ≡ length row → Decides (begins_with key row) (EachIndex row (λ k. slice_index row k ≡ slice_index key k))
unfolding begins_with
is_same_decides [] [] e = (λ _. λ k h. refl, λ _. refl)
is_same_decides [] (b ∷ row) e = absurd (omega arith)
is_same_decides (k ∷ key) [] e = absurd (omega arith)
is_same_decides (k ∷ key) (b ∷ row) e =
    let rest = is_same_decides key row cc in
    let both = Decides-and (eqb k b) (begins_with key row) (Decides-eqb k b) rest in
    (λ t. each_index_more b k row key (sym (both.0 t).0) (both.0 t).1, λ h. both.1 (sym (h 0 (omega arith)), λ i g. h (suc i) (omega arith)))

-- one row more, and the rows after it
pub has_row_more : (key table : List ℕ) (width left : ℕ) → 0 < left → has_row key (rows_of width left table) ≡ (begins_with key (take width table) || has_row key (rows_of width (left - 1) (drop width table)))
unfolding rows_of has_row
has_row_more key table width zero h = absurd (omega arith)
has_row_more key table width (suc n) h = rw sub-one refl

pub has_row_none : (key table : List ℕ) (width : ℕ) → has_row key (rows_of width 0 table) ≡ false
unfolding rows_of has_row
has_row_none key table width = refl
