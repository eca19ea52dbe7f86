-- What the store says of the policy that lies there: how long each path is, which entries there are, which objects an entry has.
-- Assumes nothing.
use mathlib.Core.Path.{◌≡◌, ◌∙◌, refl, sym, ap}
use mathlib.Core.List.{List, [], ◌∷◌, ◌++◌, map, append_assoc}
use Prim.Native.Nat.{ℕ, zero, suc, ◌+◌, ◌-◌, ◌*◌, ◌≤◌, ◌<◌}
use native.Mathlib.Nat.{not-suc-le-zero, le_of_suc-le-suc, add_assoc, add-sub_cancel_left}
use native.Mathlib.Omega.{arith}
use lib.Dec.{eqb}
use lib.ListN.{length, get_or, take, drop, length-map}
use Rattle.paths.specs.Path.{is_slash}
use Rattle.lines.specs.Line.{zeros}
use Rattle.lines.proofs.Rooms.{length-zeros}
use Rattle.rows.specs.Rows.{joined, padded, rows_of, has_row}
use Rattle.rows.proofs.Tables.{map_at}
use Rattle.rows.proofs.Parts.{lies-behind}
use Rattle.gran.specs.Lists.{member}
use Rattle.gran.specs.Policy.{Policy, Entry}
use Rattle.gran.specs.Match.{no_entry, subject_path, subjects, objects_of}
use Rattle.store.specs.Layout.{two, object_row, entry_row, all_objects, all_ids, ids_at}
use Rattle.store.specs.Held.{Bounded, Fits, Holds}
use Rattle.store.specs.declared.Tally.{Tally}
use Rattle.store.proofs.Entries.{objects_within}
use Rattle.store.proofs.Regions.{object-row-length, objects_lie}
use Rattle.store.proofs.Reading.{two_number, entry_byte}
use Rattle.store.proofs.Holding.{holds_fits}
use Rattle.policy.specs.Sound.{SoundPolicy}
use Rattle.ending.proofs.Roots.{root_here}
use Rattle.judge.proofs.Rows.{joined-map, Starts, starts_front, starts_skip, starts-taken, rows-length, starts_read, found_objects}
use Rattle.judge.proofs.Found.{path-size}

-- the objects of entry n between those of the others
objects-split : (es : List Entry) (n : ℕ) → n < length es → all_objects es ≡ all_objects (take n es) ++ ((get_or es n no_entry).objects ++ all_objects (drop (suc n) es))
unfolding all_objects
objects-split [] n h = absurd (not-suc-le-zero h)
objects-split (e ∷ es) zero h = refl
objects-split (e ∷ es) (suc n) h = rw (objects-split es n (le_of_suc-le-suc h)) (sym (append_assoc e.objects (all_objects (take n es)) _))

module _ (P : Policy) (rest : List ℕ) (t : Tally) (bytes : List ℕ) (b : Bounded t) (h : Holds P rest t bytes) where
  fits : Fits P
  fits = holds_fits P rest t bytes h b

  pub slash_read : SoundPolicy P → (n : ℕ) → n < length P.paths → is_slash (get_or P.paths n []) ≡ eqb (get_or bytes (676 + n * 3 + 2) 0) 1
  slash_read sound n l = root_here P sound n l ∙ rw (path-size P rest t bytes b h n l)

  pub subjects_long : length (subjects P) ≡ t.entries
  unfolding subjects
  subjects_long = length-map P.entries subject_path ∙ sym h.entries

  -- the row of entry n: its subject, where its objects are, and how many
  module _ (n : ℕ) (l : n < length P.entries) where
    entry-at : (k : ℕ) → k < 12 → get_or bytes (1156 + n * 12 + k) 0 ≡ get_or (entry_row (length (all_objects (take n P.entries))) (ids_at P + 4 * length (all_ids (take n P.entries))) (get_or P.entries n no_entry)) k 0
    entry-at k m = rw (add_assoc 1156 (n * 12) k) (entry_byte P (zeros 16) rest bytes fits (length-zeros 16) h.stored n k l m)

    pub subject_at : get_or bytes (1156 + n * 12) 0 ≡ get_or (subjects P) n 0
    unfolding entry_row subjects
    subject_at = ap (λ (i : ℕ). get_or bytes i 0) (omega arith) ∙ entry-at 0 (omega arith) ∙ sym (map_at subject_path P.entries n no_entry 0 l)

    pub object-count : get_or bytes (1156 + n * 12 + 7) 0 ≡ length (get_or P.entries n no_entry).objects
    unfolding entry_row two
    object-count = entry-at 7 (omega arith)

    pub object_room : length (all_objects (take n P.entries)) + length (get_or P.entries n no_entry).objects ≤ 512
    object_room = omega (arith, objects_within P.entries n l, fits.objects)

    pub object-first : get_or bytes (1156 + n * 12 + 5) 0 * 256 + get_or bytes (1156 + n * 12 + 6) 0 ≡ length (all_objects (take n P.entries))
    unfolding entry_row two
    object-first = rw (entry-at 5 (omega arith), entry-at 6 (omega arith)) (two_number _ (omega (arith, object_room)))

    pub found_object : (p at count : ℕ) → at ≡ 1924 + 2 * length (all_objects (take n P.entries)) → count ≡ length (get_or P.entries n no_entry).objects →
        has_row (p ∷ []) (rows_of 2 count (take (at + 2 * count - at) (drop at bytes))) ≡ member p (objects_of (get_or P.entries n no_entry))
    unfolding padded objects_of
    found_object p at count e f =
        let own = (get_or P.entries n no_entry).objects in
        let before = all_objects (take n P.entries) in
        let after = all_objects (drop (suc n) P.entries) in
        let rows = joined (map object_row (all_objects P.entries)) in
        let table : Starts (drop 1924 bytes) rows = starts_front _ rows (zeros (1024 - length rows)) (drop 2948 bytes, lies-behind (objects_lie P (zeros 16) rest bytes fits (length-zeros 16) h.stored)) in
        let split : Starts (drop 1924 bytes) (joined (map object_row before) ++ (joined (map object_row own) ++ joined (map object_row after))) = rw (objects-split P.entries n l, joined-map object_row before (own ++ after), joined-map object_row own after) at table in
        let here : Starts (drop (1924 + 2 * length before) bytes) (joined (map object_row own)) = starts_front _ (joined (map object_row own)) _ (starts_skip bytes 1924 (2 * length before) (joined (map object_row before)) _ split (omega (arith, rows-length 2 object_row object-row-length before))) in
        rw (e, f, add-sub_cancel_left, starts_read 2 object_row object-row-length own _ (length own) (starts-taken _ (joined (map object_row own)) (2 * length own) here (omega (arith, rows-length 2 object_row object-row-length own))) refl)
        (found_objects p own)
