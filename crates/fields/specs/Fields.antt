-- What is read at each place of the store, for any bytes (docs/LAYOUT.md); past its end every byte is 0.
-- Assumes nothing.
use Rattle.std.specs.Prelude.{◌≡◌, cond, ◌&&◌, List, [], ◌∷◌, ℕ, zero, suc, ◌+◌, ◌*◌, leb, ltb, length, get_or, take, drop}
use Rattle.gran.specs.Policy.{Role, Move, Object, Entry, Policy}

-- One byte, and the numbers in two and in four.
abbrev pub byte_at : List ℕ → ℕ → ℕ
byte_at s i = get_or s i 0

unfoldable pub word_at : List ℕ → ℕ → ℕ
word_at s i = byte_at s i * 256 + byte_at s (i + 1)

unfoldable pub long_at : List ℕ → ℕ → ℕ
long_at s i = word_at s i * 65536 + word_at s (i + 2)

-- ---- the header: how many there are of each

abbrev pub role_count : List ℕ → ℕ
role_count s = byte_at s 1

abbrev pub path_count : List ℕ → ℕ
path_count s = byte_at s 2

abbrev pub entry_count : List ℕ → ℕ
entry_count s = byte_at s 3

abbrev pub user_count : List ℕ → ℕ
user_count s = byte_at s 8

abbrev pub group_count : List ℕ → ℕ
group_count s = byte_at s 9

abbrev pub special_count : List ℕ → ℕ
special_count s = byte_at s 10

-- Paths in S.
abbrev pub subject_count : List ℕ → ℕ
subject_count s = byte_at s 11

abbrev pub move_count : List ℕ → ℕ
move_count s = byte_at s 13

-- Where the moves begin in the pool.
abbrev pub moves_place : List ℕ → ℕ
moves_place s = word_at s 14

-- ---- rows

-- Role r: kind, id.
abbrev pub role_kind : List ℕ → ℕ → ℕ
role_kind s r = byte_at s (16 + 22 * r)

abbrev pub role_id : List ℕ → ℕ → ℕ
role_id s r = long_at s (16 + 22 * r + 1)

-- The bytes from a place on, or none where they run past the end.
unfoldable pub part_of : List ℕ → ℕ → ℕ → List ℕ
part_of s from size = cond (leb (from + size) (length s)) (take size (drop from s)) []

-- Where they begin, or the front where they run past the end.
unfoldable pub part_place : List ℕ → ℕ → ℕ → ℕ
part_place s from size = cond (leb (from + size) (length s)) from 0

-- The length that the store states for path n.
abbrev pub path_size : List ℕ → ℕ → ℕ
path_size s n = byte_at s (676 + 3 * n + 2)

-- Path n: none where the store is too short for its place, or states no such path, or its bytes run past the end.
unfoldable pub path_in : List ℕ → ℕ → List ℕ
path_in s n =
    cond (leb (676 + 3 * n + 3) (length s) && ltb n (path_count s))
    (part_of s (2948 + word_at s (676 + 3 * n)) (path_size s n)) []

-- Where its bytes begin, or the front where there is none.
unfoldable pub path_place : List ℕ → ℕ → ℕ
path_place s n =
    cond (leb (676 + 3 * n + 3) (length s) && ltb n (path_count s))
    (part_place s (2948 + word_at s (676 + 3 * n)) (path_size s n)) 0

-- A pointer is a block of memory, and an offset in it.
abbrev pub Pointer : Type 0
Pointer = ℕ × ℕ

-- What is handed back is a part of the area at a pointer: it begins so far behind it, and has these bytes.
pub record Handed (area : Pointer) (from : ℕ) (part : List ℕ) (pointer : Pointer) (held : List ℕ) : Type 0 where
  pub block : pointer.0 ≡ area.0
  pub place : pointer.1 ≡ area.1 + from
  pub bytes : held ≡ part

-- Entry e: subject, role, capabilities, user mode, group mode, first object, objects, first id's place in the pool, UIDs, GIDs.
abbrev pub entry_subject : List ℕ → ℕ → ℕ
entry_subject s e = byte_at s (1156 + 12 * e)

abbrev pub entry_role : List ℕ → ℕ → ℕ
entry_role s e = byte_at s (1156 + 12 * e + 1)

abbrev pub entry_caps : List ℕ → ℕ → ℕ
entry_caps s e = byte_at s (1156 + 12 * e + 2)

abbrev pub user_mode : List ℕ → ℕ → ℕ
user_mode s e = byte_at s (1156 + 12 * e + 3)

abbrev pub group_mode : List ℕ → ℕ → ℕ
group_mode s e = byte_at s (1156 + 12 * e + 4)

abbrev pub first_object : List ℕ → ℕ → ℕ
first_object s e = word_at s (1156 + 12 * e + 5)

abbrev pub object_count : List ℕ → ℕ → ℕ
object_count s e = byte_at s (1156 + 12 * e + 7)

abbrev pub first_id : List ℕ → ℕ → ℕ
first_id s e = word_at s (1156 + 12 * e + 8)

abbrev pub uid_count : List ℕ → ℕ → ℕ
uid_count s e = byte_at s (1156 + 12 * e + 10)

abbrev pub gid_count : List ℕ → ℕ → ℕ
gid_count s e = byte_at s (1156 + 12 * e + 11)

-- The path of the object that stands i behind the one at place n among all objects.
abbrev pub path_from : List ℕ → ℕ → ℕ → ℕ
path_from s n i = byte_at s (1924 + 2 * (n + i))

-- Object i of entry e: path, modes.
abbrev pub object_path_at : List ℕ → ℕ → ℕ → ℕ
object_path_at s e i = byte_at s (1924 + 2 * (first_object s e + i))

abbrev pub object_modes_at : List ℕ → ℕ → ℕ → ℕ
object_modes_at s e i = byte_at s (1924 + 2 * (first_object s e + i) + 1)

-- Move i: role, special role.
abbrev pub move_role : List ℕ → ℕ → ℕ
move_role s i = byte_at s (2948 + moves_place s + 2 * i)

abbrev pub move_special : List ℕ → ℕ → ℕ
move_special s i = byte_at s (2948 + moves_place s + 2 * i + 1)

-- UID i and GID i of entry e.
abbrev pub uid_at : List ℕ → ℕ → ℕ → ℕ
uid_at s e i = long_at s (2948 + first_id s e + 4 * i)

abbrev pub gid_at : List ℕ → ℕ → ℕ → ℕ
gid_at s e i = long_at s (2948 + first_id s e + 4 * (uid_count s e + i))

-- ---- the policy again

-- The first n of a row.
unfoldable pub row : {A : Type 0} → (ℕ → A) → ℕ → ℕ → List A
row f i zero = []
row f i (suc n) = f i ∷ row f (suc i) n

abbrev pub role_read : List ℕ → ℕ → Role
role_read s r = record { kind = role_kind s r; id = role_id s r }

abbrev pub move_read : List ℕ → ℕ → Move
move_read s i = record { role = move_role s i; special = move_special s i }

abbrev pub object_read : List ℕ → ℕ → ℕ → Object
object_read s e i = record { path = object_path_at s e i; modes = object_modes_at s e i }

abbrev pub entry_read : List ℕ → ℕ → Entry
entry_read s e = record {
  role = entry_role s e;
  subject = entry_subject s e;
  caps = entry_caps s e;
  users = record { mode = user_mode s e; ids = row (uid_at s e) 0 (uid_count s e) };
  groups = record { mode = group_mode s e; ids = row (gid_at s e) 0 (gid_count s e) };
  objects = row (object_read s e) 0 (object_count s e);
}

-- The policy that a store's bytes state.
unfoldable pub policy_in : List ℕ → Policy
policy_in s = record {
  roles = row (role_read s) 0 (role_count s);
  paths = row (path_in s) 0 (path_count s);
  moves = row (move_read s) 0 (move_count s);
  entries = row (entry_read s) 0 (entry_count s);
}
