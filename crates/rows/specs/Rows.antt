-- Tables in lent bytes: rows of one width, one after the other, then zeros.
-- Assumes nothing.
use Rattle.std.specs.Prelude.{◌≡◌, Bool, true, false, ◌&&◌, ◌||◌, List, [], ◌∷◌, ◌++◌, ℕ, zero, suc, ◌-◌, eqb, length, take, drop}
use Rattle.std.proofs.Math.Seq.{paste}
use Rattle.lines.specs.Line.{zeros}

-- The rows' bytes, one row after the other.
unfoldable pub joined : List (List ℕ) → List ℕ
joined [] = []
joined (row ∷ rows) = row ++ joined rows

-- Bytes, and zeros behind them up to a size.
unfoldable pub padded : ℕ → List ℕ → List ℕ
padded size bytes = bytes ++ zeros (size - length bytes)

-- A table of this many bytes that holds the rows.
abbrev pub table_of : ℕ → List (List ℕ) → List ℕ
table_of size rows = padded size (joined rows)

-- The first rows of a table, this many, of this width.
unfoldable pub rows_of : ℕ → ℕ → List ℕ → List (List ℕ)
rows_of width zero table = []
rows_of width (suc n) table = take width table ∷ rows_of width n (drop width table)

-- A whole with other bytes in place of one part of it, which lies from `from` on and has `size` bytes.
abbrev pub replaced : ℕ → ℕ → List ℕ → List ℕ → List ℕ
replaced from size new bytes = take from bytes ++ (new ++ drop size (drop from bytes))

-- A whole after a row is written over the bytes of that part, from `at` of the part on.
abbrev pub written : ℕ → ℕ → ℕ → List ℕ → List ℕ → List ℕ
written from size at row bytes = replaced from size (paste (take size (drop from bytes)) at row (length row)) bytes

-- Every row has this width.
unfoldable pub Wide : ℕ → List (List ℕ) → Type 0
Wide width [] = Unit {0}
Wide width (row ∷ rows) = (length row ≡ width) × Wide width rows

-- A row begins with the key.
unfoldable pub begins_with : List ℕ → List ℕ → Bool
begins_with [] row = true
begins_with (k ∷ key) [] = false
begins_with (k ∷ key) (b ∷ row) = eqb k b && begins_with key row

-- Some row begins with the key.
unfoldable pub has_row : List ℕ → List (List ℕ) → Bool
has_row key [] = false
has_row key (row ∷ rows) = begins_with key row || has_row key rows
