-- Frames: what each says, and the tests of refusals 8 to 13 (document 01, "The policy as hexadecimal lines").
-- Assumes nothing.
use Rattle.std.specs.Prelude.{Bool, true, false, not, cond, ◌&&◌, ◌||◌, List, [], ◌∷◌, ℕ, ◌+◌, ◌-◌, ◌*◌, eqb, leb, ltb, length, get_or, take, drop}
use Rattle.paths.specs.Path.{good_path, same}
use Rattle.lines.specs.declared.Frame.{Frame}
use Rattle.policy.specs.declared.frame.FrameForm.{FrameForm}
use Rattle.gran.specs.Lists.{any, member}
use Rattle.gran.specs.Policy.{Policy, Role, Move, Object, Allowed, Entry, USER, GROUP, SPECIAL, DEFAULT, no_id}
use Rattle.gran.specs.Match.{is_entry, objects_of}
use Rattle.gran.specs.Role.{of_kind, no_role, is_role, is_move}
use Rattle.gran.specs.Good.{roles_of}
use Rattle.store.specs.Layout.{all_objects}
use Rattle.store.specs.Held.{last_entry}
use Rattle.store.specs.Grow.{new_entry}

-- ---- fields

-- The frame in these bytes, of which it takes the first `size`.
abbrev pub frame_in : ℕ → List ℕ → Frame
frame_in size bytes = record { size = size; bytes = bytes }

-- The byte at a place, 0 past the frame's end.
abbrev pub byte_at : Frame → ℕ → ℕ
byte_at f i = get_or f.bytes i 0

-- The number in two bytes from a place on, and in four: big-endian.
unfoldable pub number2 : Frame → ℕ → ℕ
number2 f i = byte_at f i * 256 + byte_at f (i + 1)

unfoldable pub number4 : Frame → ℕ → ℕ
number4 f i = ((byte_at f i * 256 + byte_at f (i + 1)) * 256 + byte_at f (i + 2)) * 256 + byte_at f (i + 3)

-- The first byte is the type.
abbrev pub type_of : Frame → ℕ
type_of f = byte_at f 0

-- The frame is of this type.
abbrev pub is_type : ℕ → Frame → Bool
is_type t f = eqb (type_of f) t

-- ---- what a frame says

-- 10: kind, id in 4 bytes.
abbrev pub role_from : Frame → Role
role_from f = record { kind = byte_at f 1; id = number4 f 2 }

-- 20: path.
unfoldable pub path_from : Frame → List ℕ
path_from f = take (f.size - 1) (drop 1 f.bytes)

-- 30: role number, special role number it may take.
abbrev pub move_from : Frame → Move
move_from f = record { role = byte_at f 1; special = byte_at f 2 }

-- 40: role, subject path, capabilities, user mode, group mode; objects and ids come with later frames.
abbrev pub entry_from : Frame → Entry
entry_from f = new_entry (byte_at f 2) (byte_at f 1) (byte_at f 3) (byte_at f 4) (byte_at f 5)

-- 41: object path, modes.
abbrev pub object_from : Frame → Object
object_from f = record { path = byte_at f 1; modes = byte_at f 2 }

-- 42 and 43: one UID or GID.
abbrev pub id_from : Frame → ℕ
id_from f = number4 f 1

-- ---- 8: unknown type or wrong length

abbrev pub frame_type : ℕ → ℕ → ℕ → FrameForm
frame_type code shortest longest = record { code = code; shortest = shortest; longest = longest }

-- Each type has its fixed shortest and longest length.
abbrev pub frame_table : List FrameForm
frame_table =
    frame_type 0x01 1 1
    ∷ frame_type 0x10 5 5
    ∷ frame_type 0x20 1 79
    ∷ frame_type 0x30 2 2
    ∷ frame_type 0x40 5 5
    ∷ frame_type 0x41 2 2
    ∷ frame_type 0x42 4 4
    ∷ frame_type 0x43 4 4
    ∷ frame_type 0x7f 2 2
    ∷ []

-- The table has the type, and the payload's size is within its bounds.
unfoldable pub fits_table : List FrameForm → ℕ → ℕ → Bool
fits_table [] type size = false
fits_table (t ∷ rest) type size = cond (eqb t.code type) (leb t.shortest size && leb size t.longest) (fits_table rest type size)

-- ---- 9: frame out of order, or after 7f

-- `last` is the type of the frame before, 0 at the start. One 01, the 10s, 20s, 30s,
-- then groups of one 40 with its 41s, 42s, 43s, then 7f last.
unfoldable pub may_follow : ℕ → ℕ → Bool
may_follow last type =
    cond (eqb last 0) (eqb type 0x01)
    (cond (eqb type 0x01) false
    (cond (eqb type 0x40 || eqb type 0x7f) (not (eqb last 0x7f))
    (cond (ltb 0x40 type) (leb 0x40 last && leb last type) (leb last type))))

-- ---- 10: field out of range, a number that names nothing, a role that is not special in 30's second place, a bad path, a list under mode 0

-- A kind of the four; an id in range, and 0 for special and default.
unfoldable pub good_role : Role → Bool
good_role r =
    cond (of_kind USER r || of_kind GROUP r) (not (eqb r.id no_id))
    ((of_kind SPECIAL r || of_kind DEFAULT r) && eqb r.id 0)

-- Both numbers name roles, the second a special one.
unfoldable pub good_move : List Role → Move → Bool
good_move roles m =
    ltb m.role (length roles) && ltb m.special (length roles) && of_kind SPECIAL (get_or roles m.special no_role)

-- The numbers name a role and a path, and capabilities and modes are in range.
unfoldable pub good_entry : Policy → Entry → Bool
good_entry P e =
    ltb e.role (length P.roles)
    && ltb e.subject (length P.paths)
    && ltb e.caps 4
    && leb e.users.mode 2
    && leb e.groups.mode 2

-- The number names a path, and the modes are in range.
unfoldable pub good_object : Policy → Object → Bool
good_object P o = ltb o.path (length P.paths) && ltb o.modes 32

-- An id in range, and a list that is not under mode 0.
unfoldable pub good_id : Allowed → ℕ → Bool
good_id a n = not (eqb n no_id) && not (eqb a.mode 0)

-- Every field is in range, with the policy so far.
unfoldable pub in_range : Policy → Frame → Bool
in_range P f =
    cond (is_type 0x01 f) (eqb (byte_at f 1) 1)
    (cond (is_type 0x10 f) (good_role (role_from f))
    (cond (is_type 0x20 f) (good_path true (path_from f))
    (cond (is_type 0x30 f) (good_move P.roles (move_from f))
    (cond (is_type 0x40 f) (good_entry P (entry_from f))
    (cond (is_type 0x41 f) (good_object P (object_from f))
    (cond (is_type 0x42 f) (good_id (last_entry P.entries).users (id_from f))
    (cond (is_type 0x43 f) (good_id (last_entry P.entries).groups (id_from f)) true)))))))

-- ---- 11: a second one

-- A second default, user UID or group GID; special roles are never the same.
unfoldable pub has_role : List Role → Role → Bool
has_role roles r = cond (of_kind SPECIAL r) false (any (is_role r.kind r.id) roles)

-- The frame says again what the policy so far has; an object and a listed id, what its entry has.
unfoldable pub is_second : Policy → Frame → Bool
is_second P f =
    cond (is_type 0x10 f) (has_role P.roles (role_from f))
    (cond (is_type 0x20 f) (any (same (path_from f)) P.paths)
    (cond (is_type 0x30 f) (any (is_move (byte_at f 1) (byte_at f 2)) P.moves)
    (cond (is_type 0x40 f) (any (is_entry (byte_at f 1) (byte_at f 2)) P.entries)
    (cond (is_type 0x41 f) (member (byte_at f 1) (objects_of (last_entry P.entries)))
    (cond (is_type 0x42 f) (member (id_from f) (last_entry P.entries).users.ids)
    (cond (is_type 0x43 f) (member (id_from f) (last_entry P.entries).groups.ids) false))))))

-- ---- 12: one more than a table holds

-- 15 user, 7 group and 7 special roles; a second default is 11.
unfoldable pub full_of : Policy → ℕ → Bool
full_of P kind =
    cond (eqb kind USER) (leb 15 (length (roles_of P USER)))
    (cond (eqb kind GROUP) (leb 7 (length (roles_of P GROUP)))
    (cond (eqb kind SPECIAL) (leb 7 (length (roles_of P SPECIAL))) false))

-- 96 paths; 64 entries; 512 objects in all; 16 UIDs and 16 GIDs an entry.
unfoldable pub is_full : Policy → Frame → Bool
is_full P f =
    cond (is_type 0x10 f) (full_of P (byte_at f 1))
    (cond (is_type 0x20 f) (leb 96 (length P.paths))
    (cond (is_type 0x40 f) (leb 64 (length P.entries))
    (cond (is_type 0x41 f) (leb 512 (length (all_objects P.entries)))
    (cond (is_type 0x42 f) (leb 16 (length (last_entry P.entries).users.ids))
    (cond (is_type 0x43 f) (leb 16 (length (last_entry P.entries).groups.ids)) false)))))

-- ---- 13: count in 7f wrong

-- A 7f whose count is not that of the frames before it.
unfoldable pub miscounts : ℕ → Frame → Bool
miscounts lines f = is_type 0x7f f && not (eqb (number2 f 1) lines)
