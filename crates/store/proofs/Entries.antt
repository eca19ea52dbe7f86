-- Rows at running places: where the bytes of a path, the objects and the ids of an entry begin, and what their rows say.
-- Assumes nothing.
use mathlib.Core.Path.{◌≡◌, ◌∙◌, refl, ap}
use mathlib.Core.List.{List, [], ◌∷◌, ◌++◌}
use Prim.Native.Nat.{ℕ, zero, suc, ◌+◌, ◌*◌, ◌≤◌, ◌<◌}
use native.Mathlib.Nat.{not-suc-le-zero, le_of_suc-le-suc, add-zero, zero-add, add_assoc}
use native.Mathlib.Omega.{arith}
use lib.ListN.{length, get_or, take, length-append, get_or-append}
use lib.Seq.{get_or-append-add}
use Rattle.rows.specs.Rows.{joined, Wide}
use Rattle.gran.specs.Policy.{Object, Entry}
use Rattle.gran.specs.Match.{no_entry}
use Rattle.store.specs.Layout.{two, four, place_rows, ids_of, entry_row, entry_rows, all_objects, all_ids}

pub four-length : (n : ℕ) → length (four n) ≡ 4
unfolding four
four-length n = refl

-- ---- places of paths

pub place_rows-length : (at : ℕ) (ps : List (List ℕ)) → length (place_rows at ps) ≡ length ps
unfolding place_rows
place_rows-length at [] = refl
place_rows-length at (p ∷ ps) = ap suc (place_rows-length (at + length p) ps)

pub place_rows_wide : (at : ℕ) (ps : List (List ℕ)) → Wide 3 (place_rows at ps)
unfolding place_rows Wide two
place_rows_wide at [] = tt
place_rows_wide at (p ∷ ps) = (refl, place_rows_wide (at + length p) ps)

-- path n lies behind those before it
pub place-row : (at : ℕ) (ps : List (List ℕ)) (n : ℕ) → n < length ps → get_or (place_rows at ps) n [] ≡ two (at + length (joined (take n ps))) ++ (length (get_or ps n []) ∷ [])
unfolding place_rows joined
place-row at [] n h = absurd (not-suc-le-zero h)
place-row at (p ∷ ps) zero h = rw add-zero
place-row at (p ∷ ps) (suc n) h = place-row (at + length p) ps n (le_of_suc-le-suc h) ∙ rw (length-append p (joined (take n ps)), add_assoc)

-- ---- entries

pub entry-row-length : (object id : ℕ) (e : Entry) → length (entry_row object id e) ≡ 12
unfolding entry_row two
entry-row-length object id e = refl

pub entry_rows-length : (object id : ℕ) (es : List Entry) → length (entry_rows object id es) ≡ length es
unfolding entry_rows
entry_rows-length object id [] = refl
entry_rows-length object id (e ∷ es) = ap suc (entry_rows-length (object + length e.objects) (id + 4 * length (ids_of e)) es)

pub entry_rows_wide : (object id : ℕ) (es : List Entry) → Wide 12 (entry_rows object id es)
unfolding entry_rows Wide
entry_rows_wide object id [] = tt
entry_rows_wide object id (e ∷ es) = (entry-row-length object id e, entry_rows_wide (object + length e.objects) (id + 4 * length (ids_of e)) es)

-- the objects and the ids of entry n lie behind those of the entries before it
pub entry_row_lem : (object id : ℕ) (es : List Entry) (n : ℕ) → n < length es →
    get_or (entry_rows object id es) n [] ≡ entry_row (object + length (all_objects (take n es))) (id + 4 * length (all_ids (take n es))) (get_or es n no_entry)
unfolding entry_rows all_objects all_ids
entry_row_lem object id [] n h = absurd (not-suc-le-zero h)
entry_row_lem object id (e ∷ es) zero h = rw (add-zero object, add-zero id)
entry_row_lem object id (e ∷ es) (suc n) h =
    let i : id + 4 * length (ids_of e) + 4 * length (all_ids (take n es)) ≡ id + 4 * (length (ids_of e) + length (all_ids (take n es))) = omega arith in
    entry_row_lem (object + length e.objects) (id + 4 * length (ids_of e)) es n (le_of_suc-le-suc h)
    ∙ rw (length-append e.objects (all_objects (take n es)), length-append (ids_of e) (all_ids (take n es)), add_assoc object, i)

-- the objects and the ids of entry n among all
module _ {A : Type 0} (part : Entry → List A) (all : List Entry → List A) (nil : all [] ≡ []) (cons : (e : Entry) (es : List Entry) → all (e ∷ es) ≡ part e ++ all es) where
  flat : (d : A) (es : List Entry) (n j : ℕ) → n < length es → j < length (part (get_or es n no_entry)) → get_or (all es) (length (all (take n es)) + j) d ≡ get_or (part (get_or es n no_entry)) j d
  flat d [] n j h l = absurd (not-suc-le-zero h)
  flat d (e ∷ es) zero j h l = rw (nil, cons e es, zero-add) (get_or-append (part e) (all es) d j l)
  flat d (e ∷ es) (suc n) j h l =
      rw (cons e es, cons e (take n es), length-append (part e) (all (take n es)), add_assoc, get_or-append-add (part e) (all es) (length (all (take n es)) + j) d)
      (flat d es n j (le_of_suc-le-suc h) l)

  within : (es : List Entry) (n : ℕ) → n < length es → length (all (take n es)) + length (part (get_or es n no_entry)) ≤ length (all es)
  within [] n h = absurd (not-suc-le-zero h)
  within (e ∷ es) zero h = rw (nil, cons e es, length-append) (omega arith)
  within (e ∷ es) (suc n) h = rw (cons e es, cons e (take n es), length-append (part e) (all (take n es)), length-append (part e) (all es)) (omega (arith, within es n (le_of_suc-le-suc h)))

module _ (es : List Entry) (n : ℕ) (h : n < length es) where
  pub objects_within : length (all_objects (take n es)) + length (get_or es n no_entry).objects ≤ length (all_objects es)
  unfolding all_objects
  objects_within = within (λ (e : Entry). e.objects) all_objects refl (λ e es. refl) es n h

  pub ids_within : length (all_ids (take n es)) + length (ids_of (get_or es n no_entry)) ≤ length (all_ids es)
  unfolding all_ids
  ids_within = within ids_of all_ids refl (λ e es. refl) es n h

module _ (es : List Entry) (n j : ℕ) (h : n < length es) where
  pub object_at : (d : Object) → j < length (get_or es n no_entry).objects → get_or (all_objects es) (length (all_objects (take n es)) + j) d ≡ get_or (get_or es n no_entry).objects j d
  unfolding all_objects
  object_at d l = flat (λ (e : Entry). e.objects) all_objects refl (λ e es. refl) d es n j h l

  pub id-at : j < length (ids_of (get_or es n no_entry)) → get_or (all_ids es) (length (all_ids (take n es)) + j) 0 ≡ get_or (ids_of (get_or es n no_entry)) j 0
  unfolding all_ids
  id-at l = flat ids_of all_ids refl (λ e es. refl) 0 es n j h l
