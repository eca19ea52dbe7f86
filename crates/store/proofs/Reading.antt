-- What is read at each place of bytes that hold a policy, behind any header.
-- Assumes nothing.
use mathlib.Core.Path.{◌≡◌, ◌∙◌}
use mathlib.Core.List.{List, [], ◌∷◌, ◌++◌, map, append_assoc}
use Prim.Native.Nat.{ℕ, ◌+◌, ◌*◌, ◌≤◌, ◌<◌}
use native.Mathlib.Nat.{add_assoc, zero-add, mod-eq_of_lt}
use native.Mathlib.Omega.{arith}
use lib.ListN.{length, get_or, take, drop, length-append, length-map, get_or-append}
use lib.Arith.{mod-mul}
use lib.Seq.{drop-drop, get_or-append-add}
use Rattle.rows.specs.Rows.{joined, padded}
use Rattle.rows.proofs.Tables.{joined_length, joined_at, joined_part, joined_within, padded_at, table_at, map_at, map_row, wide-map}
use Rattle.rows.proofs.Parts.{lies-behind}
use Rattle.gran.specs.Policy.{Role, Move, Object, Policy}
use Rattle.gran.specs.Match.{no_entry}
use Rattle.store.specs.Layout.{two, four, role_row, move_row, object_row, entry_row, all_objects, all_ids, moves_at, ids_at, pool, body}
use Rattle.store.specs.Held.{Fits}
use Rattle.store.proofs.Entries.{four-length, place_rows_wide, place-row, entry_rows_wide, entry_row_lem}
use Rattle.store.proofs.Regions.{role-row-length, move-row-length, object-row-length, roles_lie, places_lie, entries_lie, objects_lie, pool_lies}

-- the number that two bytes, or four, stand for
pub two_number : (n : ℕ) → n < 65536 → get_or (two n) 0 0 * 256 + get_or (two n) 1 0 ≡ n
unfolding two
two_number n h = omega arith

pub four_number : (n : ℕ) → n < 4294967296 → get_or (four n) 0 0 * 16777216 + get_or (four n) 1 0 * 65536 + get_or (four n) 2 0 * 256 + get_or (four n) 3 0 ≡ n
unfolding four
four_number n h = go _ _ _ _ _ _ (mod-mul n {m = 256} {c = 256} (omega arith) (omega arith)) (mod-mul n {m = 256} {c = 65536} (omega arith) (omega arith))
    (rw (mod-eq_of_lt h) at (mod-mul n {m = 256} {c = 16777216} (omega arith) (omega arith)))
  where
    go : (a b c d low high : ℕ) → low ≡ c * 256 + d → high ≡ b * 65536 + low → n ≡ a * 16777216 + high → a * 16777216 + b * 65536 + c * 256 + d ≡ n
    go a b c d low high e f g = omega arith

-- ---- the pool

pub moves-length : (P : Policy) → length (joined (map move_row P.moves)) ≡ 2 * length P.moves
moves-length P = omega (arith, joined_length 2 (map move_row P.moves) (wide-map 2 move_row move-row-length P.moves), length-map P.moves move_row)

pub ids-length : (ids : List ℕ) → length (joined (map four ids)) ≡ 4 * length ids
ids-length ids = omega (arith, joined_length 4 (map four ids) (wide-map 4 four four-length ids), length-map ids four)

pub pool_used : (P : Policy) → length (pool P) ≡ ids_at P + 4 * length (all_ids P.entries)
unfolding pool ids_at moves_at
pool_used P = simp (length-append, moves-length P, ids-length) (omega arith)

module _ (P : Policy) (h rest bytes : List ℕ) (fits : Fits P) (long : length h ≡ 16) (stored : bytes ≡ h ++ (body P ++ rest)) where
  -- byte k of a role's row, of a path's place, of an entry's row, of an object's row
  pub role_byte : (r k : ℕ) (d : Role) → r < length P.roles → k < 22 → get_or bytes (16 + (r * 22 + k)) 0 ≡ get_or (role_row (get_or P.roles r d)) k 0
  role_byte r k d l m = (roles_lie P h rest bytes fits long stored).read (r * 22 + k) (omega (arith, fits.roles)) ∙ map_row 22 role_row role-row-length 660 P.roles r k d l m

  pub place_byte : (n k : ℕ) → n < length P.paths → k < 3 → get_or bytes (676 + (n * 3 + k)) 0 ≡ get_or (two (length (joined (take n P.paths))) ++ (length (get_or P.paths n []) ∷ [])) k 0
  place_byte n k l m =
      (places_lie P h rest bytes fits long stored).read (n * 3 + k) (omega (arith, fits.paths))
      ∙ rw (table_at 3 288 _ (place_rows_wide 0 P.paths) n k m, place-row 0 P.paths n l, zero-add)

  pub entry_byte : (n k : ℕ) → n < length P.entries → k < 12 →
      get_or bytes (1156 + (n * 12 + k)) 0 ≡ get_or (entry_row (length (all_objects (take n P.entries))) (ids_at P + 4 * length (all_ids (take n P.entries))) (get_or P.entries n no_entry)) k 0
  entry_byte n k l m =
      (entries_lie P h rest bytes fits long stored).read (n * 12 + k) (omega (arith, fits.entries))
      ∙ rw (table_at 12 768 _ (entry_rows_wide 0 (ids_at P) P.entries) n k m, entry_row_lem 0 (ids_at P) P.entries n l, zero-add)

  pub object_byte : (i k : ℕ) (d : Object) → i < length (all_objects P.entries) → k < 2 → get_or bytes (1924 + (i * 2 + k)) 0 ≡ get_or (object_row (get_or (all_objects P.entries) i d)) k 0
  object_byte i k d l m = (objects_lie P h rest bytes fits long stored).read (i * 2 + k) (omega (arith, fits.objects)) ∙ map_row 2 object_row object-row-length 1024 (all_objects P.entries) i k d l m

  -- the bytes of path n, which lie in the pool
  pub path_within : (n : ℕ) → length (joined (take n P.paths)) + length (get_or P.paths n []) ≤ 13436
  unfolding ids_at moves_at
  path_within n = omega (arith, joined_within P.paths n, pool_used P, fits.pool)

  pub path_part : (n : ℕ) → take (length (get_or P.paths n [])) (drop (2948 + length (joined (take n P.paths))) bytes) ≡ get_or P.paths n []
  unfolding pool padded
  path_part n =
      rw (← drop-drop (length (joined (take n P.paths))) 2948 bytes, lies-behind (pool_lies P h rest bytes fits long stored), append_assoc (pool P), append_assoc (joined P.paths))
      (joined_part P.paths _ n)

  pool_byte : (i : ℕ) → i < length (pool P) → get_or bytes (2948 + i) 0 ≡ get_or (pool P) i 0
  pool_byte i l = (pool_lies P h rest bytes fits long stored).read i (omega (arith, fits.pool)) ∙ padded_at 13436 (pool P) i

  -- byte k of move i, and of the i-th of all ids
  pub move_byte : (i k : ℕ) (d : Move) → i < length P.moves → k < 2 → get_or bytes (2948 + (moves_at P + (i * 2 + k))) 0 ≡ get_or (move_row (get_or P.moves i d)) k 0
  unfolding pool ids_at moves_at
  move_byte i k d l m =
      pool_byte (moves_at P + (i * 2 + k)) (omega (arith, pool_used P))
      ∙ get_or-append-add (joined P.paths) _ (i * 2 + k) 0
      ∙ get_or-append (joined (map move_row P.moves)) _ 0 (i * 2 + k) (omega (arith, moves-length P))
      ∙ rw (joined_at 2 _ (wide-map 2 move_row move-row-length P.moves) i k m, map_at move_row P.moves i d [] l)

  pub id_byte : (i k : ℕ) → i < length (all_ids P.entries) → k < 4 → get_or bytes (2948 + (ids_at P + (i * 4 + k))) 0 ≡ get_or (four (get_or (all_ids P.entries) i 0)) k 0
  unfolding pool ids_at moves_at
  id_byte i k l m =
      pool_byte (ids_at P + (i * 4 + k)) (omega (arith, pool_used P))
      ∙ pool_id (i * 4 + k)
      ∙ rw (joined_at 4 _ (wide-map 4 four four-length (all_ids P.entries)) i k m, map_at four (all_ids P.entries) i 0 [] l)
    where
      pool_id : (j : ℕ) → get_or (pool P) (ids_at P + j) 0 ≡ get_or (joined (map four (all_ids P.entries))) j 0
      pool_id j = rw (add_assoc, ← moves-length P, get_or-append-add (joined P.paths)) (get_or-append-add (joined (map move_row P.moves)) _ j 0)
