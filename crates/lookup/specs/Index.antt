-- The indexes of entries and of objects by their paths, and what a pass over a path's row of one does.
-- Assumes nothing.
use Rattle.std.specs.Prelude.{◌≡◌, Bool, not, cond, ◌&&◌, List, ℕ, zero, suc, ◌+◌, ◌*◌, ◌<◌, eqb, ltb, set, replicate, take, drop}
use Rattle.gran.specs.Lists.{none}
use Rattle.fields.specs.Fields.{byte_at, entry_count, entry_subject, entry_role, first_object, object_count, path_from}

-- Where path q has its cell for a role or an entry k, in rows of w cells.
abbrev pub cell_of : ℕ → ℕ → ℕ → ℕ
cell_of w q k = q * w + k

-- The row of path q.
abbrev pub row_of : ℕ → ℕ → List ℕ → List ℕ
row_of w q index = take w (drop (q * w) index)

-- The first n entries are noted, each for its subject and its role.
abbrev pub entries_noted : List ℕ → ℕ → List ℕ → List ℕ
entries_noted s zero index = index
entries_noted s (suc n) index = set (entries_noted s n index) (cell_of 32 (entry_subject s n) (entry_role s n)) n

-- The first n objects of entry e are noted, each for its path and the entry.
abbrev pub objects_noted : List ℕ → ℕ → ℕ → List ℕ → List ℕ
objects_noted s e zero index = index
objects_noted s e (suc n) index = set (objects_noted s e n index) (cell_of 64 (path_from s (first_object s e) n) e) n

-- All objects of the first n entries are noted.
abbrev pub all_noted : List ℕ → ℕ → List ℕ → List ℕ
all_noted s zero index = index
all_noted s (suc n) index = objects_noted s n (object_count s n) (all_noted s n index)

-- The index of all entries, and that of all objects: a row for each of 96 paths, none where nothing is noted.
unfoldable pub entry_index : List ℕ → List ℕ
entry_index s = entries_noted s (entry_count s) (replicate 3072 none)

unfoldable pub object_index : List ℕ → List ℕ
object_index s = all_noted s (entry_count s) (replicate 6144 none)

-- A cell has something noted, and the path's grade is above the greatest so far.
unfoldable pub is_better : ℕ → ℕ → ℕ → Bool
is_better cell most grade = not (eqb cell none) && ltb most grade

-- In the first n cells what is noted for a path of a grade is taken where it is better.
pub record PathTaken (cells : List ℕ) (g : ℕ) (most row most' row' : List ℕ) (n : ℕ) : Type 0 where
  pub grade : (k : ℕ) → k < n → byte_at most' k ≡ cond (is_better (byte_at cells k) (byte_at most k) g) g (byte_at most k)
  pub place : (k : ℕ) → k < n → byte_at row' k ≡ cond (is_better (byte_at cells k) (byte_at most k) g) (byte_at cells k) (byte_at row k)
