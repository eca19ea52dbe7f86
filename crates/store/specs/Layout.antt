-- How a policy lies in the store's first 16,384 bytes (docs/LAYOUT.md). Numbers are big-endian, unused bytes 0.
-- Assumes nothing.
use Rattle.std.specs.Prelude.{List, [], ◌∷◌, ◌++◌, map, ℕ, ◌+◌, ◌*◌, ◌/◌, ◌%◌, length}
use Rattle.paths.specs.Path.{is_slash}
use Rattle.lines.specs.Line.{zeros}
use Rattle.rows.specs.Rows.{joined, padded, table_of}
use Rattle.gran.specs.Lists.{place}
use Rattle.gran.specs.Policy.{Role, Move, Object, Entry, Policy, USER, GROUP, SPECIAL}
use Rattle.gran.specs.Match.{paths_of_s}
use Rattle.gran.specs.Good.{roles_of}

-- A number in two bytes, and in four.
unfoldable pub two : ℕ → List ℕ
two n = n / 256 % 256 ∷ n % 256 ∷ []

unfoldable pub four : ℕ → List ℕ
four n = n / 16777216 % 256 ∷ n / 65536 % 256 ∷ n / 256 % 256 ∷ n % 256 ∷ []

-- ---- rows

-- 22 bytes: kind, id, and 17 that are kept for a name.
unfoldable pub role_row : Role → List ℕ
role_row r = r.kind ∷ (four r.id ++ zeros 17)

-- 3 bytes for each path: its place in the pool, its length.
unfoldable pub place_rows : ℕ → List (List ℕ) → List (List ℕ)
place_rows at [] = []
place_rows at (p ∷ ps) = (two at ++ (length p ∷ [])) ∷ place_rows (at + length p) ps

-- The ids of an entry: its UIDs, then its GIDs.
unfoldable pub ids_of : Entry → List ℕ
ids_of e = e.users.ids ++ e.groups.ids

-- 12 bytes: subject, role, capabilities, user mode, group mode, first object, objects, first id's place in the pool, UIDs, GIDs.
unfoldable pub entry_row : ℕ → ℕ → Entry → List ℕ
entry_row object id e =
    e.subject ∷ e.role ∷ e.caps ∷ e.users.mode ∷ e.groups.mode
    ∷ (two object ++ (length e.objects ∷ (two id ++ (length e.users.ids ∷ length e.groups.ids ∷ []))))

-- The entries' rows: their objects and ids follow one another.
unfoldable pub entry_rows : ℕ → ℕ → List Entry → List (List ℕ)
entry_rows object id [] = []
entry_rows object id (e ∷ es) = entry_row object id e ∷ entry_rows (object + length e.objects) (id + 4 * length (ids_of e)) es

-- 2 bytes: path, modes.
unfoldable pub object_row : Object → List ℕ
object_row o = o.path ∷ o.modes ∷ []

-- 2 bytes: role, special role.
unfoldable pub move_row : Move → List ℕ
move_row m = m.role ∷ m.special ∷ []

-- All objects, and all ids, in the entries' order.
unfoldable pub all_objects : List Entry → List Object
all_objects [] = []
all_objects (e ∷ es) = e.objects ++ all_objects es

unfoldable pub all_ids : List Entry → List ℕ
all_ids [] = []
all_ids (e ∷ es) = ids_of e ++ all_ids es

-- ---- regions

-- Where the moves begin in the pool, and where the ids do.
unfoldable pub moves_at : Policy → ℕ
moves_at P = length (joined P.paths)

unfoldable pub ids_at : Policy → ℕ
ids_at P = moves_at P + 2 * length P.moves

-- The pool: the paths' bytes, then the moves, then the listed ids.
unfoldable pub pool : Policy → List ℕ
pool P = joined P.paths ++ (joined (map move_row P.moves) ++ joined (map four (all_ids P.entries)))

-- What follows the header: roles at 16, places of paths at 676, 192 bytes kept at 964, entries at 1156, objects at 1924, the pool at 2948.
unfoldable pub body : Policy → List ℕ
body P =
    table_of 660 (map role_row P.roles)
    ++ (table_of 288 (place_rows 0 P.paths)
    ++ (zeros 192
    ++ (table_of 768 (entry_rows 0 (ids_at P) P.entries)
    ++ (table_of 1024 (map object_row (all_objects P.entries))
    ++ padded 13436 (pool P)))))

-- The path number of `/`, or none.
unfoldable pub root_of : Policy → ℕ
root_of P = place is_slash 0 P.paths

-- 16 bytes: form, roles, paths, entries, objects (2), pool bytes used (2), user, group and special roles, paths in S, the number of `/`, moves, where they begin in the pool (2).
unfoldable pub header : Policy → List ℕ
header P =
    1 ∷ length P.roles ∷ length P.paths ∷ length P.entries
    ∷ (two (length (all_objects P.entries))
    ++ (two (length (pool P))
    ++ (length (roles_of P USER) ∷ length (roles_of P GROUP) ∷ length (roles_of P SPECIAL) ∷ length (paths_of_s P) ∷ root_of P ∷ length P.moves
    ∷ two (moves_at P))))

-- The store's first 16,384 bytes.
unfoldable pub layout : Policy → List ℕ
layout P = header P ++ body P
