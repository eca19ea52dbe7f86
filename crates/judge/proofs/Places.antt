-- Where the store holds what is searched: the rows that are read there are those of the policy.
-- Assumes nothing.
use mathlib.Core.Path.{◌≡◌, ◌∙◌, refl, ap, sym}
use mathlib.Core.List.{List, [], ◌∷◌, ◌++◌, map}
use Prim.Native.Nat.{ℕ, ◌+◌, ◌-◌, ◌*◌, ◌≤◌}
use native.Mathlib.Omega.{arith}
use lib.ListN.{length, take, drop, length-map, length-append}
use Rattle.lines.specs.Line.{zeros}
use Rattle.lines.proofs.Rooms.{length-zeros}
use Rattle.rows.specs.Rows.{joined, padded, rows_of}
use Rattle.rows.proofs.Tables.{table_read, wide-map}
use Rattle.rows.proofs.Parts.{lies-behind}
use Rattle.gran.specs.Policy.{Policy, Object, Entry}
use Rattle.store.specs.Layout.{four, role_row, move_row, object_row, entry_rows, all_objects, all_ids, ids_of, ids_at, moves_at, pool}
use Rattle.store.specs.Held.{Bounded, Fits, Holds, last_entry}
use Rattle.store.specs.declared.Tally.{Tally}
use Rattle.store.proofs.Entries.{four-length, entry_rows_wide, entry_rows-length}
use Rattle.store.proofs.Regions.{role-row-length, move-row-length, object-row-length, roles_lie, entries_lie, objects_lie, pool_lies}
use Rattle.store.proofs.Growing.{last-split, objects_more, ids_more}
use Rattle.store.proofs.Reading.{moves-length}
use Rattle.store.proofs.Holding.{holds_fits}
use Rattle.judge.proofs.Rows.{joined-map, Starts, starts_front, starts_skip, starts-taken, rows-length, starts_read}

-- what all entries have ends with what the last one has
last_objects : (es : List Entry) → (before : List Object) × (all_objects es ≡ before ++ (last_entry es).objects)
unfolding all_objects last_entry
last_objects [] = ([], refl)
last_objects (e ∷ es) = let s = last-split (e ∷ es) (omega arith) in (all_objects s.0, ap all_objects s.1 ∙ objects_more s.0 (last_entry (e ∷ es)))

last_ids : (es : List Entry) → (before : List ℕ) × (all_ids es ≡ before ++ ids_of (last_entry es))
unfolding all_ids ids_of last_entry
last_ids [] = ([], refl)
last_ids (e ∷ es) = let s = last-split (e ∷ es) (omega arith) in (all_ids s.0, ap all_ids s.1 ∙ ids_more s.0 (last_entry (e ∷ es)))

module _ (P : Policy) (rest : List ℕ) (t : Tally) (bytes : List ℕ) (b : Bounded t) (h : Holds P rest t bytes) where
  fits : Fits P
  fits = holds_fits P rest t bytes h b

  pub roles_read : rows_of 22 (t.users + t.groups + t.specials + t.defaults) (take 660 (drop 16 bytes)) ≡ map role_row P.roles
  roles_read =
      rw (h.roles, ← length-map P.roles role_row, (roles_lie P (zeros 16) rest bytes fits (length-zeros 16) h.stored).lent)
      (table_read 22 660 (map role_row P.roles) (wide-map 22 role_row role-row-length P.roles))

  pub entries_read : rows_of 12 t.entries (take 768 (drop 1156 bytes)) ≡ entry_rows 0 (ids_at P) P.entries
  entries_read =
      rw (h.entries, ← entry_rows-length 0 (ids_at P) P.entries, (entries_lie P (zeros 16) rest bytes fits (length-zeros 16) h.stored).lent)
      (table_read 12 768 (entry_rows 0 (ids_at P) P.entries) (entry_rows_wide 0 (ids_at P) P.entries))

  -- the objects of the last entry, from which on k bytes are lent
  pub objects_read : (k : ℕ) → t.last.objects * 2 ≤ k → rows_of 2 t.last.objects (take k (drop (1924 + 2 * (t.objects - t.last.objects)) bytes)) ≡ map object_row (last_entry P.entries).objects
  unfolding padded
  objects_read k room =
      let own = (last_entry P.entries).objects in
      let l = last_objects P.entries in
      let rows = joined (map object_row (all_objects P.entries)) in
      let table : Starts (drop 1924 bytes) rows = starts_front _ rows (zeros (1024 - length rows)) (drop 2948 bytes, lies-behind (objects_lie P (zeros 16) rest bytes fits (length-zeros 16) h.stored)) in
      let long : length (joined (map object_row l.0)) ≡ 2 * (t.objects - t.last.objects) =
      omega (arith, rows-length 2 object_row object-row-length l.0, h.objects, h.last_objects, ap length l.1, length-append l.0 own) in
      starts_read 2 object_row object-row-length own _ t.last.objects
      (starts-taken _ (joined (map object_row own)) k (starts_skip bytes 1924 _ (joined (map object_row l.0)) (joined (map object_row own)) (rw (l.1, joined-map object_row l.0 own) at table) long) (omega (arith, rows-length 2 object_row object-row-length own, h.last_objects)))
      h.last_objects

  -- the pool
  pool_starts : Starts (drop 2948 bytes) (joined P.paths ++ (joined (map move_row P.moves) ++ joined (map four (all_ids P.entries))))
  unfolding padded pool
  pool_starts = starts_front _ (pool P) (zeros (13436 - length (pool P))) (drop 16384 bytes, lies-behind (pool_lies P (zeros 16) rest bytes fits (length-zeros 16) h.stored))

  moves-start : Starts (drop (2948 + t.bytes) bytes) (joined (map move_row P.moves) ++ joined (map four (all_ids P.entries)))
  unfolding moves_at
  moves-start = starts_skip bytes 2948 t.bytes (joined P.paths) _ pool_starts (sym h.path_bytes)

  pub moves_read : (k : ℕ) → t.moves * 2 ≤ k → rows_of 2 t.moves (take k (drop (2948 + t.bytes) bytes)) ≡ map move_row P.moves
  moves_read k room =
      starts_read 2 move_row move-row-length P.moves _ t.moves (starts-taken _ (joined (map move_row P.moves)) k (starts_front _ (joined (map move_row P.moves)) _ moves-start) (omega (arith, moves-length P, h.moves))) h.moves

  -- the ids of the last entry
  own_ids : (before : List ℕ) × (length before ≡ t.ids - t.last.gids - t.last.uids) × Starts (drop (2948 + t.bytes + 2 * t.moves) bytes) (joined (map four before) ++ joined (map four (ids_of (last_entry P.entries))))
  unfolding ids_of
  own_ids =
      let e = last_entry P.entries in
      let l = last_ids P.entries in
      let ids = starts_skip bytes (2948 + t.bytes) (2 * t.moves) (joined (map move_row P.moves)) (joined (map four (all_ids P.entries))) moves-start (rw h.moves (moves-length P)) in
      (l.0, omega (arith, h.ids, h.last_uids, h.last_gids, ap length l.1, length-append l.0 (ids_of e), length-append e.users.ids e.groups.ids), rw (l.1, joined-map four l.0 (ids_of e)) at ids)

  uids-start : Starts (drop (2948 + t.bytes + 2 * t.moves + 4 * (t.ids - t.last.gids - t.last.uids)) bytes) (joined (map four (last_entry P.entries).users.ids) ++ joined (map four (last_entry P.entries).groups.ids))
  unfolding ids_of
  uids-start =
      let e = last_entry P.entries in
      let o = own_ids in
      rw (joined-map four e.users.ids e.groups.ids) at (starts_skip bytes (2948 + t.bytes + 2 * t.moves) (4 * (t.ids - t.last.gids - t.last.uids)) (joined (map four o.0)) (joined (map four (ids_of e))) o.2 (omega (arith, o.1, rows-length 4 four four-length o.0)))

  pub uids_read : rows_of 4 t.last.uids (drop (2948 + t.bytes + 2 * t.moves + 4 * (t.ids - t.last.gids - t.last.uids)) bytes) ≡ map four (last_entry P.entries).users.ids
  uids_read = starts_read 4 four four-length (last_entry P.entries).users.ids _ t.last.uids (starts_front _ (joined (map four (last_entry P.entries).users.ids)) _ uids-start) h.last_uids

  pub gids_read : rows_of 4 t.last.gids (drop (2948 + t.bytes + 2 * t.moves + 4 * (t.ids - t.last.gids)) bytes) ≡ map four (last_entry P.entries).groups.ids
  gids_read =
      let e = last_entry P.entries in
      let from = 2948 + t.bytes + 2 * t.moves + 4 * (t.ids - t.last.gids - t.last.uids) in
      let at : from + 4 * t.last.uids ≡ 2948 + t.bytes + 2 * t.moves + 4 * (t.ids - t.last.gids) = omega (arith, b.last_ids) in
      let start = starts_skip bytes from (4 * t.last.uids) (joined (map four e.users.ids)) (joined (map four e.groups.ids)) uids-start (omega (arith, h.last_uids, rows-length 4 four four-length e.users.ids)) in
      starts_read 4 four four-length e.groups.ids _ t.last.gids (rw at at start) h.last_gids
