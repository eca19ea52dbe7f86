-- The third call for C: the part of the start or of the store that is the last file's path (document 01, "Replay").
-- Assumes nothing.
use Rattle.std.specs.Prelude.{◌≡◌, cond, List, ℕ, ◌+◌, ◌*◌, ◌≤◌, eqb, length, take, drop}
use Rattle.gran.specs.Lists.{none}
use Rattle.fields.specs.Fields.{word_at, path_in}
use Rattle.replay.specs.Replay.{last_file}
use Rattle.leveecrumb.specs.declared.last.Part.{Part}

-- The area that a part is of: 0 the start, else the store.
abbrev pub area_of : List ℕ → List ℕ → Part → List ℕ
area_of start store p = cond (eqb p.stored 0) start store

-- Where path n stands in the store: its bytes from its place in the pool on, or the empty part in front where there is no such path.
unfoldable pub stored_part : List ℕ → ℕ → Part
stored_part store n = cond (eqb (length (path_in store n)) 0) (record { stored = 1; from = 0; size = 0 })
    (record { stored = 1; from = 2948 + word_at store (676 + 3 * n); size = length (path_in store n) })

-- The one part that is answered.
unfoldable pub last_part : List ℕ → List ℕ → ℕ → Part
last_part start store number = cond (eqb number none) (record { stored = 0; from = 0; size = length start }) (stored_part store number)

-- It lies inside its area, and its bytes are the last file's path.
pub record LastPart (start store : List ℕ) (number : ℕ) (p : Part) : Type 0 where
  pub is : p ≡ last_part start store number
  pub inside : p.from + p.size ≤ length (area_of start store p)
  pub bytes : take p.size (drop p.from (area_of start store p)) ≡ last_file start store number
