-- Entries with their objects and ids, read from a store that holds a policy.
-- Assumes nothing.
use mathlib.Core.Path.{◌≡◌, ◌∙◌}
use mathlib.Core.List.{List, ◌++◌}
use Prim.Native.Nat.{ℕ, ◌+◌, ◌*◌, ◌<◌}
use native.Mathlib.Omega.{arith}
use lib.ListN.{length, get_or, take, length-append, get_or-append}
use lib.Seq.{get_or-append-add}
use Rattle.gran.specs.Policy.{Object, Policy, no_id}
use Rattle.gran.specs.Match.{no_entry}
use Rattle.gran.specs.Good.{GoodEntry}
use Rattle.gran.proofs.Lists.{all_at}
use Rattle.store.specs.Layout.{two, ids_of, entry_row, object_row, all_objects, all_ids, header, ids_at}
use Rattle.store.specs.Held.{Loaded}
use Rattle.store.proofs.Entries.{objects_within, ids_within, object_at, id-at}
use Rattle.store.proofs.Regions.{header-length}
use Rattle.store.proofs.Reading.{entry_byte, object_byte, id_byte}
use Rattle.fields.specs.Fields.{byte_at, long_at, entry_subject, entry_role, entry_caps, user_mode, group_mode, first_object, object_count, first_id, uid_count, gid_count, object_path_at, object_modes_at, uid_at, gid_at}
use Rattle.fields.proofs.Bytes.{word_of, long_of}
use Rattle.fields.proofs.Header.{pool-fits, held}

module _ {P : Policy} {rest s : List ℕ} (L : Loaded P rest s) (e : ℕ) (h : e < length P.entries) where
  -- byte k of its row, at a place however it is written
  entry-at : (k at : ℕ) → k < 12 → at ≡ 1156 + 12 * e + k →
      byte_at s at ≡ get_or (entry_row (length (all_objects (take e P.entries))) (ids_at P + 4 * length (all_ids (take e P.entries))) (get_or P.entries e no_entry)) k 0
  entry-at k at l f =
      let place : at ≡ 1156 + (e * 12 + k) = omega arith in
      rw place (entry_byte P (header P) rest s L.fits (header-length P) (held L) e k h l)

  pub entry-subject : entry_subject s e ≡ (get_or P.entries e no_entry).subject
  unfolding entry_row
  entry-subject = entry-at 0 _ (omega arith) (omega arith)

  pub entry-role : entry_role s e ≡ (get_or P.entries e no_entry).role
  unfolding entry_row
  entry-role = entry-at 1 _ (omega arith) (omega arith)

  pub entry-caps : entry_caps s e ≡ (get_or P.entries e no_entry).caps
  unfolding entry_row
  entry-caps = entry-at 2 _ (omega arith) (omega arith)

  pub user-mode : user_mode s e ≡ (get_or P.entries e no_entry).users.mode
  unfolding entry_row
  user-mode = entry-at 3 _ (omega arith) (omega arith)

  pub group-mode : group_mode s e ≡ (get_or P.entries e no_entry).groups.mode
  unfolding entry_row
  group-mode = entry-at 4 _ (omega arith) (omega arith)

  first-object : first_object s e ≡ length (all_objects (take e P.entries))
  unfolding entry_row two
  first-object =
      word_of s (1156 + 12 * e + 5) _ (omega (arith, objects_within P.entries e h, L.fits.objects))
      (entry-at 5 _ (omega arith) (omega arith))
      (entry-at 6 _ (omega arith) (omega arith))

  pub object-count : object_count s e ≡ length (get_or P.entries e no_entry).objects
  unfolding entry_row two
  object-count = entry-at 7 _ (omega arith) (omega arith)

  first-id : first_id s e ≡ ids_at P + 4 * length (all_ids (take e P.entries))
  unfolding entry_row two
  first-id =
      word_of s (1156 + 12 * e + 8) _ (omega (arith, ids_within P.entries e h, pool-fits L))
      (entry-at 8 _ (omega arith) (omega arith))
      (entry-at 9 _ (omega arith) (omega arith))

  pub uid-count : uid_count s e ≡ length (get_or P.entries e no_entry).users.ids
  unfolding entry_row two
  uid-count = entry-at 10 _ (omega arith) (omega arith)

  pub gid-count : gid_count s e ≡ length (get_or P.entries e no_entry).groups.ids
  unfolding entry_row two
  gid-count = entry-at 11 _ (omega arith) (omega arith)

  good : GoodEntry P (get_or P.entries e no_entry)
  good = all_at (GoodEntry P) P.entries no_entry L.good.entries e h

  -- ---- objects

  module _ (i : ℕ) (d : Object) (l : i < length (get_or P.entries e no_entry).objects) where
    object-row : (k at : ℕ) → k < 2 → at ≡ 1924 + 2 * (first_object s e + i) + k → byte_at s at ≡ get_or (object_row (get_or (get_or P.entries e no_entry).objects i d)) k 0
    object-row k at m f =
        let n = length (all_objects (take e P.entries)) in
        let place : at ≡ 1924 + ((n + i) * 2 + k) = omega (arith, first-object) in
        let inside : n + i < length (all_objects P.entries) = omega (arith, objects_within P.entries e h) in
        rw (place, ← object_at P.entries e i h d l) (object_byte P (header P) rest s L.fits (header-length P) (held L) (n + i) k d inside m)

    pub object-path : object_path_at s e i ≡ (get_or (get_or P.entries e no_entry).objects i d).path
    unfolding object_row
    object-path = object-row 0 _ (omega arith) (omega arith)

    pub object-modes : object_modes_at s e i ≡ (get_or (get_or P.entries e no_entry).objects i d).modes
    unfolding object_row
    object-modes = object-row 1 _ (omega arith) (omega arith)

  -- ---- ids

  -- id j of its UIDs and GIDs
  id_read : (j at : ℕ) → j < length (ids_of (get_or P.entries e no_entry)) → get_or (ids_of (get_or P.entries e no_entry)) j 0 < no_id → at ≡ 2948 + first_id s e + 4 * j →
      long_at s at ≡ get_or (ids_of (get_or P.entries e no_entry)) j 0
  id_read j at l b f =
      let n = length (all_ids (take e P.entries)) in
      let inside : n + j < length (all_ids P.entries) = omega (arith, ids_within P.entries e h) in
      long_of s at _ (omega arith)
      (λ k m.
      let place : at + k ≡ 2948 + (ids_at P + ((n + j) * 4 + k)) = omega (arith, first-id) in
      rw (place, ← id-at P.entries e j h l) (id_byte P (header P) rest s L.fits (header-length P) (held L) (n + j) k inside m))

  pub uid_read : (i : ℕ) → i < length (get_or P.entries e no_entry).users.ids → uid_at s e i ≡ get_or (get_or P.entries e no_entry).users.ids i 0
  unfolding ids_of
  uid_read i l =
      let us = (get_or P.entries e no_entry).users.ids in
      let gs = (get_or P.entries e no_entry).groups.ids in
      let same : get_or (us ++ gs) i 0 ≡ get_or us i 0 = get_or-append us gs 0 i l in
      id_read i _ (omega (arith, length-append us gs)) (omega (arith, same, all_at (λ (n : ℕ). n < no_id) us 0 good.users.range i l)) (omega arith) ∙ same

  pub gid_read : (i : ℕ) → i < length (get_or P.entries e no_entry).groups.ids → gid_at s e i ≡ get_or (get_or P.entries e no_entry).groups.ids i 0
  unfolding ids_of
  gid_read i l =
      let us = (get_or P.entries e no_entry).users.ids in
      let gs = (get_or P.entries e no_entry).groups.ids in
      let same : get_or (us ++ gs) (length us + i) 0 ≡ get_or gs i 0 = get_or-append-add us gs i 0 in
      id_read (length us + i) _ (omega (arith, length-append us gs)) (omega (arith, same, all_at (λ (n : ℕ). n < no_id) gs 0 good.groups.range i l)) (omega (arith, uid-count)) ∙ same
