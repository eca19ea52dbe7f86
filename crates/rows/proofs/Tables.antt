-- Laws of tables: their length, what is read from them, a row or bytes that are added.
-- Assumes nothing.
use mathlib.Core.Path.{◌≡◌, ◌∙◌, refl, ap, sym}
use mathlib.Core.List.{List, [], ◌∷◌, ◌++◌, map, map-append, append-nil, append_assoc}
use Prim.Native.Nat.{ℕ, zero, suc, ◌+◌, ◌-◌, ◌*◌, ◌≤◌, ◌<◌}
use native.Mathlib.Nat.{not-suc-le-zero, le_of_suc-le-suc, zero-mul, suc-mul, add_comm, zero-add, suc-add}
use native.Mathlib.Numerals.{add-one}
use native.Mathlib.Omega.{arith}
use lib.ListN.{length, get_or, take, drop, set, length-append, length-set, length-map, get_or-append}
use lib.Seq.{paste, take-length, take_at, drop_at, take-append_seam, drop-append-add, get_or-append-add, take-nil, set_split, set-append_left}
use Rattle.lines.specs.Line.{zeros}
use Rattle.lines.proofs.Rooms.{length-zeros, drop-zeros, get_or-filled}
use Rattle.rows.specs.Rows.{joined, padded, table_of, rows_of, Wide}

-- ---- rows one after the other

pub joined_length : (width : ℕ) (rows : List (List ℕ)) → Wide width rows → length (joined rows) ≡ length rows * width
unfolding joined Wide
joined_length width [] w = sym (zero-mul width)
joined_length width (row ∷ rows) w = length-append row (joined rows) ∙ rw (w.0, joined_length width rows w.1, suc-mul) (add_comm width (length rows * width))

pub joined_append : (rows : List (List ℕ)) (row : List ℕ) → joined (rows ++ (row ∷ [])) ≡ joined rows ++ row
unfolding joined
joined_append [] row = append-nil row
joined_append (r ∷ rows) row = rw (joined_append rows row) (sym (append_assoc r (joined rows) row))

-- byte k of row r, whatever lies behind the rows; past the last row both are 0
pub joined_at : (width : ℕ) (rows : List (List ℕ)) → Wide width rows → (r k : ℕ) → k < width → get_or (joined rows) (r * width + k) 0 ≡ get_or (get_or rows r []) k 0
unfolding joined Wide
joined_at width [] w r k h = refl
joined_at width (row ∷ rows) w zero k h = rw (zero-mul, zero-add) (get_or-append row (joined rows) 0 k (omega (arith, w.0)))
joined_at width (row ∷ rows) w (suc r) k h =
    let e : suc r * width + k ≡ length row + (r * width + k) = omega (arith, w.0) in
    rw (e, get_or-append-add row (joined rows) (r * width + k) 0) (joined_at width rows w.1 r k h)

-- row n as it lies between the others, of whatever width
pub joined_part : (rows : List (List ℕ)) (rest : List ℕ) (n : ℕ) → take (length (get_or rows n [])) (drop (length (joined (take n rows))) (joined rows ++ rest)) ≡ get_or rows n []
unfolding joined
joined_part [] rest n = refl
joined_part (row ∷ rows) rest zero = rw append_assoc (take-append_seam row (joined rows ++ rest))
joined_part (row ∷ rows) rest (suc n) = rw (append_assoc row (joined rows) rest, length-append row (joined (take n rows)), drop-append-add row (joined rows ++ rest) _) (joined_part rows rest n)

pub joined_within : (rows : List (List ℕ)) (n : ℕ) → length (joined (take n rows)) + length (get_or rows n []) ≤ length (joined rows)
unfolding joined
joined_within [] n = omega (arith, ap length (ap joined (take-nil n)))
joined_within (row ∷ rows) zero = simp length-append (omega arith)
joined_within (row ∷ rows) (suc n) = simp length-append (omega (arith, joined_within rows n))

-- the rows that are read where these lie are these
pub rows_read : (width : ℕ) (rows : List (List ℕ)) (rest : List ℕ) → Wide width rows → rows_of width (length rows) (joined rows ++ rest) ≡ rows
unfolding joined Wide rows_of
rows_read width [] rest w = refl
rows_read width (row ∷ rows) rest w =
    rw (append_assoc row (joined rows) rest, take_at row (joined rows ++ rest) width w.0, drop_at row (joined rows ++ rest) width w.0, rows_read width rows rest w.1)

-- ---- bytes, and zeros behind them

module _ (size : ℕ) (bytes : List ℕ) where
  pub padded-length : length bytes ≤ size → length (padded size bytes) ≡ size
  unfolding padded
  padded-length h = simp (length-append, length-zeros) (omega arith)

  pub padded_at : (i : ℕ) → get_or (padded size bytes) i 0 ≡ get_or bytes i 0
  unfolding padded
  padded_at i = get_or-filled bytes (size - length bytes) i

  -- bytes that are written behind them
  pub padded_append : (more : List ℕ) → paste (padded size bytes) (length bytes) more (length more) ≡ padded size (bytes ++ more)
  unfolding padded
  padded_append more =
      let left : size - length bytes - length more ≡ size - (length bytes + length more) = omega arith in
      rw (take-append_seam, take-length, drop-append-add, drop-zeros, length-append, left)

-- ---- one byte is written

paste_one : (d : List ℕ) (at v : ℕ) → at < length d → paste d at (v ∷ []) 1 ≡ set d at v
paste_one d at v h = rw (append_assoc (take at d), add-one) (sym (set_split d at v h))

-- one byte of a later part
set_append-add : (xs ys : List ℕ) (n v : ℕ) → set (xs ++ ys) (length xs + n) v ≡ xs ++ set ys n v
set_append-add [] ys n v = rw zero-add
set_append-add (x ∷ xs) ys n v = rw suc-add (ap (λ (l : List ℕ). x ∷ l) (set_append-add xs ys n v))

-- byte k of a row that lies behind other bytes
pub padded_change : (size : ℕ) (bytes row : List ℕ) (k v : ℕ) → k < length row → paste (padded size (bytes ++ row)) (length bytes + k) (v ∷ []) 1 ≡ padded size (bytes ++ set row k v)
unfolding padded
padded_change size bytes row k v h =
    rw (append_assoc bytes row, append_assoc bytes (set row k v), length-append bytes row, length-append bytes (set row k v), length-set row k v)
    (paste_one _ (length bytes + k) v (simp length-append (omega arith)) ∙ rw (set_append-add bytes, set-append_left row (zeros (size - (length bytes + length row))) k v h))

-- ---- tables

module _ (width size : ℕ) (rows : List (List ℕ)) (w : Wide width rows) where
  pub table-length : length rows * width ≤ size → length (table_of size rows) ≡ size
  table-length h = padded-length size (joined rows) (omega (arith, joined_length width rows w))

  -- byte k of row r; past the last row both are 0
  pub table_at : (r k : ℕ) → k < width → get_or (table_of size rows) (r * width + k) 0 ≡ get_or (get_or rows r []) k 0
  table_at r k h = padded_at size (joined rows) (r * width + k) ∙ joined_at width rows w r k h

  pub table_read : rows_of width (length rows) (table_of size rows) ≡ rows
  unfolding padded
  table_read = rows_read width rows (zeros (size - length (joined rows))) w

  -- a row that is written behind the rows
  pub table_append : (row : List ℕ) → paste (table_of size rows) (length rows * width) row (length row) ≡ table_of size (rows ++ (row ∷ []))
  table_append row = rw (← joined_length width rows w, joined_append rows row) (padded_append size (joined rows) row)

-- byte k of the last row is written
pub table_change : (width size : ℕ) (rows : List (List ℕ)) (row : List ℕ) (k v : ℕ) → Wide width rows → k < length row →
    paste (table_of size (rows ++ (row ∷ []))) (length rows * width + k) (v ∷ []) 1 ≡ table_of size (rows ++ (set row k v ∷ []))
table_change width size rows row k v w h = rw (← joined_length width rows w, joined_append rows row, joined_append rows (set row k v)) (padded_change size (joined rows) row k v h)

-- ---- a table of a list, a row for each element

pub map_at : {A B : Type 0} (f : A → B) (xs : List A) (i : ℕ) (d : A) (e : B) → i < length xs → get_or (map f xs) i e ≡ f (get_or xs i d)
map_at f [] i d e h = absurd (not-suc-le-zero h)
map_at f (x ∷ xs) zero d e h = refl
map_at f (x ∷ xs) (suc i) d e h = map_at f xs i d e (le_of_suc-le-suc h)

module _ {A : Type 0} (width : ℕ) (row : A → List ℕ) (wide : (x : A) → length (row x) ≡ width) where
  pub wide-map : (xs : List A) → Wide width (map row xs)
  unfolding Wide
  wide-map [] = tt
  wide-map (x ∷ xs) = (wide x, wide-map xs)

  pub map-length : (size : ℕ) (xs : List A) → length xs * width ≤ size → length (table_of size (map row xs)) ≡ size
  map-length size xs h = table-length width size (map row xs) (wide-map xs) (rw (length-map xs row) h)

  -- byte k of the row of element r
  pub map_row : (size : ℕ) (xs : List A) (r k : ℕ) (d : A) → r < length xs → k < width → get_or (table_of size (map row xs)) (r * width + k) 0 ≡ get_or (row (get_or xs r d)) k 0
  map_row size xs r k d h l = rw (table_at width size (map row xs) (wide-map xs) r k l, map_at row xs r d [] h)

  -- the row of one element more
  pub map_more : (size : ℕ) (xs : List A) (x : A) → paste (table_of size (map row xs)) (length xs * width) (row x) (length (row x)) ≡ table_of size (map row (xs ++ (x ∷ [])))
  map_more size xs x = rw (← length-map xs row, map-append row xs (x ∷ [])) (table_append width size (map row xs) (wide-map xs) (row x))
