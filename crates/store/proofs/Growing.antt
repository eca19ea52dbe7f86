-- Lists that grow at their end: roles of a kind, rows at running places, and the last entry.
-- Assumes nothing.
use mathlib.Core.Path.{◌≡◌, ◌∙◌, refl, ap, sym}
use mathlib.Core.Bool.{Bool, true, false, cond}
use mathlib.Core.List.{List, [], ◌∷◌, ◌++◌, map, map-append, append-nil, append_assoc}
use Prim.Native.Nat.{ℕ, suc, ◌+◌, ◌-◌, ◌*◌, ◌<◌}
use native.Mathlib.Nat.{not-suc-le-zero, add-zero, add_assoc, zero-add}
use native.Mathlib.Omega.{arith}
use lib.ListN.{length, set, length-append}
use lib.Seq.{paste}
use Rattle.rows.specs.Rows.{joined, table_of}
use Rattle.rows.proofs.Tables.{joined_append, table_append, table_change}
use Rattle.gran.specs.Lists.{only}
use Rattle.gran.proofs.Members.{only_append}
use Rattle.gran.specs.Policy.{Move, Object, Entry, Policy}
use Rattle.store.specs.Layout.{two, four, move_row, pool, place_rows, ids_of, entry_row, entry_rows, all_objects, all_ids}
use Rattle.store.specs.Held.{last_entry}
use Rattle.store.specs.Grow.{with_path, with_move, with_entries, on_last}
use Rattle.store.proofs.Entries.{place_rows-length, place_rows_wide, entry-row-length, entry_rows-length, entry_rows_wide}

-- how many pass a test, after one more
pub only_more : {A : Type 0} (test : A → Bool) (xs : List A) (x : A) → length (only test (xs ++ (x ∷ []))) ≡ length (only test xs) + cond (test x) 1 0
only_more test xs x = rw (only_append test xs (x ∷ []), length-append (only test xs)) (go (test x))
  where
    go : (b : Bool) → length (only test xs) + length (cond b (x ∷ []) []) ≡ length (only test xs) + cond b 1 0
    go true = refl
    go false = refl

-- the place of a path behind the others
pub place_rows_more : (at : ℕ) (ps : List (List ℕ)) (p : List ℕ) → place_rows at (ps ++ (p ∷ [])) ≡ place_rows at ps ++ ((two (at + length (joined ps)) ++ (length p ∷ [])) ∷ [])
unfolding place_rows joined
place_rows_more at [] p = rw add-zero
place_rows_more at (q ∷ ps) p = rw (place_rows_more (at + length q) ps p, length-append q (joined ps), add_assoc at)

pub objects_more : (es : List Entry) (e : Entry) → all_objects (es ++ (e ∷ [])) ≡ all_objects es ++ e.objects
unfolding all_objects
objects_more [] e = append-nil e.objects
objects_more (g ∷ es) e = rw (objects_more es e, append_assoc g.objects)

pub ids_more : (es : List Entry) (e : Entry) → all_ids (es ++ (e ∷ [])) ≡ all_ids es ++ ids_of e
unfolding all_ids
ids_more [] e = append-nil (ids_of e)
ids_more (g ∷ es) e = rw (ids_more es e, append_assoc (ids_of g))

-- the row of an entry behind the others
pub entry_rows_more : (object id : ℕ) (es : List Entry) (e : Entry) →
    entry_rows object id (es ++ (e ∷ [])) ≡ entry_rows object id es ++ (entry_row (object + length (all_objects es)) (id + 4 * length (all_ids es)) e ∷ [])
unfolding entry_rows all_objects all_ids
entry_rows_more object id [] e = rw (add-zero object, add-zero id)
entry_rows_more object id (g ∷ es) e =
    let i : id + 4 * length (ids_of g) + 4 * length (all_ids es) ≡ id + 4 * (length (ids_of g) + length (all_ids es)) = omega arith in
    rw (
      entry_rows_more (object + length g.objects) (id + 4 * length (ids_of g)) es e,
      length-append g.objects (all_objects es),
      length-append (ids_of g) (all_ids es),
      add_assoc object,
      i,
    )

-- ---- the last entry

pub last_of : (es : List Entry) (e : Entry) → last_entry (es ++ (e ∷ [])) ≡ e
unfolding last_entry
last_of [] e = refl
last_of (g ∷ []) e = refl
last_of (g ∷ (f ∷ es)) e = last_of (f ∷ es) e

pub on-last : (change : Entry → Entry) (es : List Entry) (e : Entry) → on_last change (es ++ (e ∷ [])) ≡ es ++ (change e ∷ [])
unfolding on_last
on-last change [] e = refl
on-last change (g ∷ []) e = refl
on-last change (g ∷ (f ∷ es)) e = ap (λ (l : List Entry). g ∷ l) (on-last change (f ∷ es) e)

-- entries of which there is one are those before the last, and the last
pub last-split : (es : List Entry) → 0 < length es → (before : List Entry) × (es ≡ before ++ (last_entry es ∷ []))
unfolding last_entry
last-split [] h = absurd (not-suc-le-zero h)
last-split (e ∷ []) h = ([], refl)
last-split (e ∷ (f ∷ es)) h = let r = last-split (f ∷ es) (omega arith) in (e ∷ r.0, ap (λ (l : List Entry). e ∷ l) r.1)

pub changed-length : (change : Entry → Entry) (es : List Entry) → length (on_last change es) ≡ length es
unfolding on_last
changed-length change [] = refl
changed-length change (e ∷ []) = refl
changed-length change (e ∷ (d ∷ es)) = ap suc (changed-length change (d ∷ es))

-- the last entry is changed: what the entries list grows by what the last one lists more
module _ (change : Entry → Entry) (es : List Entry) (h : 0 < length es) where
  pub changed-last : last_entry (on_last change es) ≡ change (last_entry es)
  changed-last = let s = last-split es h in ap (λ (l : List Entry). last_entry (on_last change l)) s.1 ∙ rw (on-last change s.0) (last_of s.0 _)

  changed : {A : Type 0} (all : List Entry → List A) (part : Entry → List A) → ((es : List Entry) (e : Entry) → all (es ++ (e ∷ [])) ≡ all es ++ part e) →
      (more : List A) → part (change (last_entry es)) ≡ part (last_entry es) ++ more → all (on_last change es) ≡ all es ++ more
  changed {A} all part law more e =
      let s = last-split es h in
      ap (λ (l : List Entry). all (on_last change l)) s.1
      ∙ rw (on-last change s.0 (last_entry es), law s.0 (change (last_entry es)), e) (sym (append_assoc (all s.0) _ more))
      ∙ ap (λ (l : List A). l ++ more) (sym (ap all s.1 ∙ law s.0 (last_entry es)))

  pub changed_objects : (more : List Object) → (change (last_entry es)).objects ≡ (last_entry es).objects ++ more → all_objects (on_last change es) ≡ all_objects es ++ more
  changed_objects = changed all_objects (λ (e : Entry). e.objects) objects_more

  pub changed_ids : (more : List ℕ) → ids_of (change (last_entry es)) ≡ ids_of (last_entry es) ++ more → all_ids (on_last change es) ≡ all_ids es ++ more
  changed_ids = changed all_ids ids_of ids_more

-- ---- the tables and the pool

pub places_more : (ps : List (List ℕ)) (p : List ℕ) → let row = two (length (joined ps)) ++ (length p ∷ []) in
    paste (table_of 288 (place_rows 0 ps)) (length ps * 3) row (length row) ≡ table_of 288 (place_rows 0 (ps ++ (p ∷ [])))
places_more ps p = rw (place_rows_more 0 ps p, zero-add, ← place_rows-length 0 ps) (table_append 3 288 (place_rows 0 ps) (place_rows_wide 0 ps) _)

pub entries_more : (id : ℕ) (es : List Entry) (e : Entry) → let row = entry_row (length (all_objects es)) (id + 4 * length (all_ids es)) e in
    paste (table_of 768 (entry_rows 0 id es)) (length es * 12) row (length row) ≡ table_of 768 (entry_rows 0 id (es ++ (e ∷ [])))
entries_more id es e = rw (entry_rows_more 0 id es e, zero-add, ← entry_rows-length 0 id es) (table_append 12 768 (entry_rows 0 id es) (entry_rows_wide 0 id es) _)

-- one byte of the last entry's row is written
pub entries_changed : (change : Entry → Entry) (id : ℕ) (es : List Entry) (k v : ℕ) → 0 < length es → k < 12 →
    ((object id : ℕ) → set (entry_row object id (last_entry es)) k v ≡ entry_row object id (change (last_entry es))) →
    paste (table_of 768 (entry_rows 0 id es)) ((length es - 1) * 12 + k) (v ∷ []) 1 ≡ table_of 768 (entry_rows 0 id (on_last change es))
entries_changed change id es k v h l f =
    let s = last-split es h in
    let object = 0 + length (all_objects s.0) in
    let place = id + 4 * length (all_ids s.0) in
    let was : entry_rows 0 id es ≡ entry_rows 0 id s.0 ++ (entry_row object place (last_entry es) ∷ []) = ap (entry_rows 0 id) s.1 ∙ entry_rows_more 0 id s.0 (last_entry es) in
    let is : entry_rows 0 id (on_last change es) ≡ entry_rows 0 id s.0 ++ (entry_row object place (change (last_entry es)) ∷ []) =
    ap (λ (l : List Entry). entry_rows 0 id (on_last change l)) s.1 ∙ rw (on-last change s.0) (entry_rows_more 0 id s.0 (change (last_entry es))) in
    let count : length es - 1 ≡ length (entry_rows 0 id s.0) = omega (arith, ap length s.1, length-append s.0 (last_entry es ∷ []), entry_rows-length 0 id s.0) in
    rw (was, is, count, ← f object place)
    (table_change 12 768 (entry_rows 0 id s.0) (entry_row object place (last_entry es)) k v (entry_rows_wide 0 id s.0) (omega (arith, entry-row-length object place (last_entry es))))

pub path-pool : (P : Policy) (p : List ℕ) → P.moves ≡ [] → P.entries ≡ [] → pool (with_path P p) ≡ pool P ++ p
unfolding pool joined all_ids
path-pool P p m e = rw (m, e, append-nil (joined P.paths), append-nil (joined (P.paths ++ (p ∷ [])))) (joined_append P.paths p)

pub move-pool : (P : Policy) (m : Move) → P.entries ≡ [] → pool (with_move P m) ≡ pool P ++ move_row m
unfolding pool joined all_ids
move-pool P m e =
    rw (e, append-nil (joined (map move_row P.moves)), map-append move_row P.moves (m ∷ []), joined_append (map move_row P.moves) (move_row m), append-nil (joined (map move_row P.moves) ++ move_row m))
    (sym (append_assoc (joined P.paths) (joined (map move_row P.moves)) (move_row m)))

pub id-pool : (P : Policy) (es : List Entry) (n : ℕ) → all_ids es ≡ all_ids P.entries ++ (n ∷ []) → pool (with_entries P es) ≡ pool P ++ four n
unfolding pool
id-pool P es n e =
    rw (e, map-append four (all_ids P.entries) (n ∷ []), joined_append (map four (all_ids P.entries)) (four n))
    (simp append_assoc)
