-- Where each region of the store lies, and what is read there.
-- Assumes nothing.
use mathlib.Core.Path.{◌≡◌, refl}
use mathlib.Core.List.{List, [], ◌∷◌, ◌++◌, map, append-nil, append_assoc}
use Prim.Native.Nat.{ℕ, ◌<◌}
use native.Mathlib.Omega.{arith}
use lib.ListN.{length, get_or, length-append}
use Rattle.lines.specs.Line.{zeros}
use Rattle.lines.proofs.Rooms.{length-zeros}
use Rattle.rows.specs.Rows.{joined, padded, table_of}
use Rattle.rows.proofs.Tables.{padded-length, table-length, map-length}
use Rattle.rows.proofs.Parts.{begin, Lies, part_lies}
use Rattle.gran.specs.Policy.{Role, Move, Object, Policy}
use Rattle.store.specs.Layout.{two, four, role_row, place_rows, entry_rows, object_row, move_row, all_objects, ids_at, pool, body, header, layout}
use Rattle.store.specs.Held.{Fits}
use Rattle.store.proofs.Entries.{place_rows-length, place_rows_wide, entry_rows-length, entry_rows_wide}

pub role-row-length : (r : Role) → length (role_row r) ≡ 22
unfolding role_row four zeros
role-row-length r = refl

pub move-row-length : (m : Move) → length (move_row m) ≡ 2
unfolding move_row
move-row-length m = refl

pub object-row-length : (o : Object) → length (object_row o) ≡ 2
unfolding object_row
object-row-length o = refl

-- The regions in order: a header, roles, places of paths, bytes kept, entries, objects, the pool, and what lies past them.
abbrev pub regions : List ℕ → Policy → List ℕ → List (List ℕ)
regions h P rest =
    h
    ∷ table_of 660 (map role_row P.roles)
    ∷ table_of 288 (place_rows 0 P.paths)
    ∷ zeros 192
    ∷ table_of 768 (entry_rows 0 (ids_at P) P.entries)
    ∷ table_of 1024 (map object_row (all_objects P.entries))
    ∷ padded 13436 (pool P)
    ∷ rest
    ∷ []

abbrev pub region_sizes : List ℕ → List ℕ
region_sizes rest = 16 ∷ 660 ∷ 288 ∷ 192 ∷ 768 ∷ 1024 ∷ 13436 ∷ length rest ∷ []

pub regions-whole : (h : List ℕ) (P : Policy) (rest : List ℕ) → h ++ (body P ++ rest) ≡ joined (regions h P rest)
unfolding body joined
regions-whole h P rest = simp (append_assoc, append-nil)

pub header-length : (P : Policy) → length (header P) ≡ 16
unfolding header two
header-length P = refl

module _ (P : Policy) (fits : Fits P) where
  pub roles-length : length (table_of 660 (map role_row P.roles)) ≡ 660
  roles-length = map-length 22 role_row role-row-length 660 P.roles (omega (arith, fits.roles))

  pub places-length : length (table_of 288 (place_rows 0 P.paths)) ≡ 288
  places-length = table-length 3 288 _ (place_rows_wide 0 P.paths) (omega (arith, fits.paths, place_rows-length 0 P.paths))

  pub entries-length : length (table_of 768 (entry_rows 0 (ids_at P) P.entries)) ≡ 768
  entries-length = table-length 12 768 _ (entry_rows_wide 0 (ids_at P) P.entries) (omega (arith, fits.entries, entry_rows-length 0 (ids_at P) P.entries))

  pub objects-length : length (table_of 1024 (map object_row (all_objects P.entries))) ≡ 1024
  objects-length = map-length 2 object_row object-row-length 1024 (all_objects P.entries) (omega (arith, fits.objects))

  pub pool-length : length (padded 13436 (pool P)) ≡ 13436
  pool-length = padded-length 13436 (pool P) fits.pool

  pub sizes : (h rest : List ℕ) → length h ≡ 16 → map length (regions h P rest) ≡ region_sizes rest
  sizes h rest e = rw (e, roles-length, places-length, length-zeros 192, entries-length, objects-length, pool-length)

  pub layout-length : length (layout P) ≡ 16384
  unfolding layout body
  layout-length = simp (length-append, header-length P, roles-length, places-length, length-zeros 192, entries-length, objects-length, pool-length)

-- the regions of any bytes that hold the policy, behind any header
module _ (P : Policy) (h rest bytes : List ℕ) (fits : Fits P) (long : length h ≡ 16) (stored : bytes ≡ h ++ (body P ++ rest)) where
  lies : (n : ℕ) → n < 8 → Lies bytes (begin (region_sizes rest) n) (get_or (region_sizes rest) n 0) (get_or (regions h P rest) n [])
  lies n l = rw (stored, regions-whole h P rest) (part_lies (regions h P rest) _ (sizes P fits h rest long) n l)

  pub header_lies : Lies bytes 0 16 h
  header_lies = lies 0 (omega arith)

  pub roles_lie : Lies bytes 16 660 (table_of 660 (map role_row P.roles))
  roles_lie = lies 1 (omega arith)

  pub places_lie : Lies bytes 676 288 (table_of 288 (place_rows 0 P.paths))
  places_lie = lies 2 (omega arith)

  pub entries_lie : Lies bytes 1156 768 (table_of 768 (entry_rows 0 (ids_at P) P.entries))
  entries_lie = lies 4 (omega arith)

  pub objects_lie : Lies bytes 1924 1024 (table_of 1024 (map object_row (all_objects P.entries)))
  objects_lie = lies 5 (omega arith)

  pub pool_lies : Lies bytes 2948 13436 (padded 13436 (pool P))
  pool_lies = lies 6 (omega arith)
