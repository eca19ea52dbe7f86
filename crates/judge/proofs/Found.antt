-- What each search of the store says of the policy that lies there.
-- Assumes nothing.
use mathlib.Core.Path.{◌≡◌, ◌∙◌, ap}
use mathlib.Core.List.{List, [], ◌∷◌, map}
use Prim.Native.Nat.{ℕ, ◌+◌, ◌-◌, ◌*◌, ◌/◌, ◌%◌, ◌≤◌, ◌<◌}
use native.Mathlib.Nat.{add_assoc, add-sub_cancel_left}
use native.Mathlib.Omega.{arith}
use lib.Dec.{eqb}
use lib.ListN.{length, get_or, take, drop}
use Rattle.paths.specs.Path.{same}
use Rattle.lines.specs.Line.{zeros}
use Rattle.lines.proofs.Rooms.{length-zeros}
use Rattle.rows.specs.Rows.{joined, rows_of, begins_with, has_row}
use Rattle.gran.specs.Lists.{any, member, All}
use Rattle.gran.specs.Policy.{Policy, Entry, no_id}
use Rattle.gran.specs.Match.{no_entry, objects_of, is_entry}
use Rattle.gran.specs.Role.{no_role, is_role, is_move}
use Rattle.gran.specs.Good.{GoodRole}
use Rattle.gran.proofs.Members.{all_of}
use Rattle.store.specs.Layout.{four, two, role_row, move_row, ids_at}
use Rattle.store.specs.Held.{Bounded, Holds, last_entry}
use Rattle.store.specs.declared.Tally.{Tally}
use Rattle.store.proofs.Reading.{two_number, role_byte, place_byte, path_part, path_within}
use Rattle.store.proofs.Finding.{has-row-any}
use Rattle.store.proofs.Holding.{holds_fits}
use Rattle.policy.specs.Sound.{SoundEntry, SoundPolicy}
use Rattle.policy.proofs.More.{all_imply}
use Rattle.judge.proofs.Rows.{found_entries, found_objects, four-begins, role-begins, move-begins, entry-begins, begins-same}
use Rattle.judge.proofs.Places.{roles_read, entries_read, objects_read, moves_read, uids_read, gids_read}

-- what holds of each entry, and of none, holds of the last
last_all : (Q : Entry → Type 0) → Q no_entry → (es : List Entry) → All Q es → Q (last_entry es)
unfolding last_entry
last_all Q none [] h = none
last_all Q none (e ∷ []) h = h.0
last_all Q none (e ∷ (f ∷ es)) h = last_all Q none (f ∷ es) h.1

InRange : List ℕ → Type 0
InRange ids = All (λ (n : ℕ). n < no_id) ids

found_id : (n : ℕ) (ids : List ℕ) → n < 4294967296 → InRange ids → has_row (four n) (map four ids) ≡ member n ids
unfolding four InRange
found_id n ids h good = has-row-any four (eqb n) (four n) ids (all_imply (λ (m : ℕ). m < no_id) _ (λ m l. four-begins n m h (omega arith) []) ids good)

module _ (P : Policy) (rest : List ℕ) (t : Tally) (bytes : List ℕ) (b : Bounded t) (h : Holds P rest t bytes) where
  pub found-move : (r s k : ℕ) → t.moves * 2 ≤ k → has_row (r ∷ s ∷ []) (rows_of 2 t.moves (take k (drop (2948 + t.bytes) bytes))) ≡ any (is_move r s) P.moves
  found-move r s k room = rw (moves_read P rest t bytes b h k room) (has-row-any move_row (is_move r s) (r ∷ s ∷ []) P.moves (all_of _ P.moves (λ m k. move-begins r s m)))

  pub found-entry : (r s : ℕ) → has_row (s ∷ r ∷ []) (rows_of 12 t.entries (take 768 (drop 1156 bytes))) ≡ any (is_entry r s) P.entries
  found-entry r s = rw (entries_read P rest t bytes b h) (found_entries (s ∷ r ∷ []) (is_entry r s) (entry-begins s r) 0 (ids_at P) P.entries)

  pub found_object : (p k : ℕ) → t.last.objects * 2 ≤ k →
      has_row (p ∷ []) (rows_of 2 t.last.objects (take k (drop (1924 + 2 * (t.objects - t.last.objects)) bytes))) ≡ member p (objects_of (last_entry P.entries))
  unfolding objects_of
  found_object p k room = rw (objects_read P rest t bytes b h k room) (found_objects p (last_entry P.entries).objects)

  module _ (sound : SoundPolicy P) where
    pub found-role : (kind n : ℕ) → n < 4294967296 → has_row (kind ∷ four n) (rows_of 22 (t.users + t.groups + t.specials + t.defaults) (take 660 (drop 16 bytes))) ≡ any (is_role kind n) P.roles
    found-role kind n l =
        rw (roles_read P rest t bytes b h)
        (has-row-any role_row (is_role kind n) (kind ∷ four n) P.roles (all_imply GoodRole _ (λ r g. role-begins kind n r l (omega (arith, g.id_range))) P.roles sound.roles.good))

    pub found_uid : (n : ℕ) → n < 4294967296 → has_row (four n) (rows_of 4 t.last.uids (drop (2948 + t.bytes + 2 * t.moves + 4 * (t.ids - t.last.gids - t.last.uids)) bytes)) ≡ member n (last_entry P.entries).users.ids
    unfolding InRange
    found_uid n l =
        rw (uids_read P rest t bytes b h)
        (found_id n (last_entry P.entries).users.ids l (last_all (λ (e : Entry). InRange e.users.ids) tt P.entries (all_imply (SoundEntry _ _) _ (λ e s. s.users.range) P.entries sound.entries.good)))

    pub found_gid : (n : ℕ) → n < 4294967296 → has_row (four n) (rows_of 4 t.last.gids (drop (2948 + t.bytes + 2 * t.moves + 4 * (t.ids - t.last.gids)) bytes)) ≡ member n (last_entry P.entries).groups.ids
    unfolding InRange
    found_gid n l =
        rw (gids_read P rest t bytes b h)
        (found_id n (last_entry P.entries).groups.ids l (last_all (λ (e : Entry). InRange e.groups.ids) tt P.entries (all_imply (SoundEntry _ _) _ (λ e s. s.groups.range) P.entries sound.entries.good)))

  pub role-kind : (n : ℕ) → n < length P.roles → get_or bytes (16 + n * 22) 0 ≡ (get_or P.roles n no_role).kind
  unfolding role_row
  role-kind n l = ap (λ (i : ℕ). get_or bytes i 0) (omega arith) ∙ role_byte P (zeros 16) rest bytes (holds_fits P rest t bytes h b) (length-zeros 16) h.stored n 0 no_role l (omega arith)

  -- the row of path n: where its bytes are, and how many
  module _ (n : ℕ) (l : n < length P.paths) where
    pub path-size : get_or bytes (676 + n * 3 + 2) 0 ≡ length (get_or P.paths n [])
    unfolding two
    path-size = rw (add_assoc 676 (n * 3) 2) (place_byte P (zeros 16) rest bytes (holds_fits P rest t bytes h b) (length-zeros 16) h.stored n 2 l (omega arith))

    pub path-fits : length (joined (take n P.paths)) + length (get_or P.paths n []) ≤ 13436
    path-fits = path_within P (zeros 16) rest bytes (holds_fits P rest t bytes h b) (length-zeros 16) h.stored n

    pub path-place : get_or bytes (676 + n * 3) 0 * 256 + get_or bytes (676 + n * 3 + 1) 0 ≡ length (joined (take n P.paths))
    unfolding two
    path-place =
        let byte = place_byte P (zeros 16) rest bytes (holds_fits P rest t bytes h b) (length-zeros 16) h.stored n in
        let x = length (joined (take n P.paths)) in
        let high : get_or bytes (676 + n * 3) 0 ≡ x / 256 % 256 = ap (λ (i : ℕ). get_or bytes i 0) (omega arith) ∙ byte 0 l (omega arith) in
        let low : get_or bytes (676 + n * 3 + 1) 0 ≡ x % 256 = ap (λ (i : ℕ). get_or bytes i 0) (omega arith) ∙ byte 1 l (omega arith) in
        rw (high, low) (two_number x (omega (arith, path-fits)))

    -- the bytes there are the path's
    pub path-same : (path : List ℕ) (at size : ℕ) → at ≡ 2948 + length (joined (take n P.paths)) → size ≡ length (get_or P.paths n []) → length path ≡ size →
        begins_with path (take (at + size - at) (drop at bytes)) ≡ same path (get_or P.paths n [])
    path-same path at size e f g =
        rw (add-sub_cancel_left, e, f, path_part P (zeros 16) rest bytes (holds_fits P rest t bytes h b) (length-zeros 16) h.stored n)
        (begins-same path (get_or P.paths n []) (g ∙ f))
