-- The entries in force and the objects for a file, as one pass over the paths finds them for all roles and entries at once.
-- Assumes nothing.
use mathlib.Core.Path.{◌≡◌, refl, sym, ◌∙◌}
use mathlib.Core.Bool.{Bool, true, false, not, cond, ◌&&◌, So, false≢true}
use mathlib.Core.List.{List, map}
use Prim.Native.Nat.{ℕ, ◌+◌, ◌≤◌, ◌<◌, zero-le}
use native.Mathlib.Nat.{not-suc-le-zero}
use native.Mathlib.Numerals.{add-one}
use native.Mathlib.Omega.{arith}
use borrow.Author.Tests.{le-ltb, ne_eqb}
use lib.Dec.{eqb, ltb}
use lib.ListN.{length, get_or}
use lib.Seq.{get_or-take, get_or-drop}
use Rattle.paths.proofs.Bools.{eqb_of}
use Rattle.gran.specs.Lists.{none, only, member}
use Rattle.gran.specs.Policy.{Policy, Object}
use Rattle.gran.specs.Match.{closest, subject_path, object_path, of_role, no_entry, subjects_of, objects_of, MostSpecific}
use Rattle.gran.specs.Good.{Good}
use Rattle.gran.proofs.Match.{Rooted, closest_most}
use Rattle.gran.proofs.Policies.{table, role_rooted, entry_rooted}
use Rattle.store.specs.Held.{Loaded}
use Rattle.fields.specs.Fields.{byte_at, entry_subject, first_object, path_from}
use Rattle.fields.proofs.Entries.{entry-role, entry-subject, object-path}
use Rattle.lookup.specs.Best.{or_else, best_of}
use Rattle.lookup.specs.declared.Best.{Best}
use Rattle.lookup.specs.Index.{cell_of, row_of, entry_index, object_index, is_better, PathTaken}
use Rattle.lookup.specs.Lookup.{grade_of, entry_at, InForce, Placed}
use Rattle.lookup.proofs.Search.{always, only_all, listed-place, place_listed}
use Rattle.lookup.proofs.Greatest.{Greatest, at_least, greatest, grade-under, greatest-closest}
use Rattle.lookup.proofs.Picked.{Picked}
use Rattle.lookup.proofs.Matches.{no_object, good-entry, entry_picked, object_picked}
use Rattle.lookup.proofs.Indexing.{Column, has_role, entry-index, object-index}

-- ---- one path

-- A path of no grade is never better.
none_better : (cell most : ℕ) → is_better cell most 0 ≡ false
unfolding is_better
none_better cell most = go (eqb cell none)
  where
    go : (b : Bool) → (not b && ltb most 0) ≡ false
    go true = refl
    go false = le-ltb most 0 zero-le

pub path-none : (cells most row : List ℕ) (n : ℕ) → PathTaken cells 0 most row most row n
path-none cells most row n = record { grade = λ k h. rw none_better; place = λ k h. rw none_better }

-- The cells before e are done, the others as before.
pub record Passing (cells : List ℕ) (g : ℕ) (most row most' row' : List ℕ) (e : ℕ) : Type 0 where
  pub taken : PathTaken cells g most row most' row' e
  pub grade_kept : (j : ℕ) → e ≤ j → byte_at most' j ≡ byte_at most j
  pub place_kept : (j : ℕ) → e ≤ j → byte_at row' j ≡ byte_at row j

-- ---- all paths

-- The grade of path q for a role or an entry k: 0 where nothing is noted.
abbrev grade_noted : ℕ → List ℕ → (ℕ → ℕ) → ℕ → ℕ → ℕ
grade_noted w index g k q = cond (eqb (byte_at index (cell_of w q k)) none) 0 (g q)

-- For each k the greatest grade among the first m paths, and what is noted for the first that has it.
pub record Tops (w : ℕ) (index : List ℕ) (g : ℕ → ℕ) (m : ℕ) (most row : List ℕ) : Type 0 where
  pub grade : (k : ℕ) → k < w → byte_at most k ≡ (best_of (grade_noted w index g k) m).grade
  pub place : (k : ℕ) → k < w → 0 < byte_at most k → byte_at row k ≡ byte_at index (cell_of w (best_of (grade_noted w index g k) m).place k)

-- The best so far, or what is noted for path m.
top_more : (b : Best) (cell : ℕ → ℕ) (r g m : ℕ) → (0 < b.grade → r ≡ cell b.place)
    → (cond (is_better (cell m) b.grade g) g b.grade ≡ (or_else b m (cond (eqb (cell m) none) 0 g)).grade)
    × (0 < cond (is_better (cell m) b.grade g) g b.grade → cond (is_better (cell m) b.grade g) (cell m) r ≡ cell (or_else b m (cond (eqb (cell m) none) 0 g)).place)
unfolding is_better
top_more b cell r g m held = go (eqb (cell m) none) (ltb b.grade g) refl
  where
    go : (x y : Bool) → ltb b.grade g ≡ y → (cond (not x && y) g b.grade ≡ (or_else b m (cond x 0 g)).grade)
        × (0 < cond (not x && y) g b.grade → cond (not x && y) (cell m) r ≡ cell (or_else b m (cond x 0 g)).place)
    go true y e = rw (le-ltb b.grade 0 zero-le) (refl, held)
    go false true e = rw e (refl, λ p. refl)
    go false false e = rw e (refl, held)

module _ (w : ℕ) (index : List ℕ) (g : ℕ → ℕ) where
  pub tops-none : (most row : List ℕ) → ((k : ℕ) → k < w → byte_at most k ≡ 0) → Tops w index g 0 most row
  tops-none most row empty = record { grade = empty; place = λ k h p. absurd (omega (arith, empty k h)) }

  pub tops_more : (m : ℕ) (most row most' row' : List ℕ) → PathTaken (row_of w m index) (g m) most row most' row' w → Tops w index g m most row → Tops w index g (m + 1) most' row'
  tops_more m most row most' row' taken t = record { grade = λ k h. (at k h).0; place = λ k h. (at k h).1 }
    where
      at : (k : ℕ) → k < w
          → (byte_at most' k ≡ (best_of (grade_noted w index g k) (m + 1)).grade)
          × (0 < byte_at most' k → byte_at row' k ≡ byte_at index (cell_of w (best_of (grade_noted w index g k) (m + 1)).place k))
      at k h =
          let cell : byte_at (row_of w m index) k ≡ byte_at index (cell_of w m k) = get_or-take w _ k 0 h ∙ get_or-drop _ index k 0 in
          rw (add-one, taken.grade k h, taken.place k h, cell, t.grade k h)
          (top_more (best_of (grade_noted w index g k) m) (λ (q : ℕ). byte_at index (cell_of w q k)) (byte_at row k) (g m) m (rw (t.grade k h) at (t.place k h)))

-- ---- what is found for the file

-- The best of what counts among xs, each with its path, is found in their column.
module _ (P : Policy) (good : Good P) (f : List ℕ) {A : Type 0} (test : A → Bool) (path : A → ℕ) (d : A) (xs : List A) (rooted : Rooted P.paths (map path (only test xs)))
    (w : ℕ) (index : List ℕ) (k : ℕ) (inside : k < w) (counts : ℕ → Bool) (at : ℕ → ℕ) (column : Column w index k counts at (length xs))
    (counts-is : (i : ℕ) → i < length xs → counts i ≡ test (get_or xs i d)) (at-is : (i : ℕ) → i < length xs → at i ≡ path (get_or xs i d))
  where
    abbrev cs : List ℕ
    cs = map path (only test xs)

    abbrev a : ℕ → ℕ
    a = grade_noted w index (grade_of P f) k

    -- what counts has its grade
    graded : (c : ℕ) → So (member c cs) → a c ≡ grade_of P f c
    graded c m =
        let (j, l, u, e) = listed-place test path d xs c m in
        let own : at j ≡ c = at-is j l ∙ sym e in
        let known : at j < 96 = omega (arith, rooted.named c m, good.few_paths) in
        rw (ne_eqb _ none (rw own at (column.has j l (counts-is j l ∙ u) known)))

    -- what has a grade is noted
    noted : (q : ℕ) → 0 < a q → (byte_at index (cell_of w q k) ≡ none → ⊥) × (a q ≡ grade_of P f q)
    noted q h = go (eqb (byte_at index (cell_of w q k)) none) refl h
      where
        go : (x : Bool) → eqb (byte_at index (cell_of w q k)) none ≡ x → 0 < cond x 0 (grade_of P f q) → (byte_at index (cell_of w q k) ≡ none → ⊥) × (cond x 0 (grade_of P f q) ≡ grade_of P f q)
        go true e h = absurd (not-suc-le-zero h)
        go false e h = (λ empty. false≢true (sym e ∙ eqb_of empty), refl)

    tops_picked : {most row : List ℕ} → Tops w index (grade_of P f) (length P.paths) most row → Picked P f test path d xs (byte_at row k)
    tops_picked {most} {row} t = rw found (record {
      inside = own.0;
      counts = passes;
      is = rw path_is (greatest-closest P (table P good) f cs rooted q listed (rw N.1 at G.some) (λ c m. rw (← graded c m, ← N.1) (G.most c (rooted.named c m))));
    })
      where
        q : ℕ
        q = (best_of a (length P.paths)).place

        i : ℕ
        i = byte_at index (cell_of w q k)

        C : MostSpecific P.paths cs f (closest P.paths f none cs)
        C = closest_most (table P good) rooted f

        -- something has a grade: the most specific path
        G : Greatest a (length P.paths) q
        G = greatest a (length P.paths) _ (rooted.named _ C.inside) (omega (arith, graded _ C.inside, grade-under P f _ C.above))

        N : (i ≡ none → ⊥) × (a q ≡ grade_of P f q)
        N = noted q G.some

        own : (i < length xs) × So (counts i) × (at i ≡ q)
        own = column.is q (omega (arith, G.inside, good.few_paths)) N.0

        passes : So (test (get_or xs i d))
        passes = sym (counts-is i own.0) ∙ own.1

        path_is : path (get_or xs i d) ≡ q
        path_is = sym (at-is i own.0) ∙ own.2

        listed : So (member q cs)
        listed = rw path_is at (place_listed test path d xs i own.0 passes)

        found : byte_at row k ≡ i
        found = t.place k inside (omega (arith, t.grade k inside, at_least a (length P.paths) q G.inside, G.some))

module _ {P : Policy} {rest s : List ℕ} (L : Loaded P rest s) (f : List ℕ) {most row : List ℕ} where
  pub tops_force : Tops 32 (entry_index s) (grade_of P f) (length P.paths) most row → (r : ℕ) → r < length P.roles → InForce P r f (byte_at row r)
  unfolding subjects_of
  tops_force t r known =
      entry_picked P L.good f r _
      (tops_picked P L.good f (of_role r) subject_path no_entry P.entries (role_rooted P L.good r known) 32 (entry_index s) r (omega (arith, L.fits.roles)) (has_role s r) (entry_subject s) (entry-index L r known)
      (λ e l. rw (entry-role L e l)) (entry-subject L) t)

  pub tops_placed : Tops 64 (object_index s) (grade_of P f) (length P.paths) most row → (e : ℕ) → e < length P.entries → Placed P e f (byte_at row e)
  unfolding objects_of
  tops_placed t e known =
      object_picked P L.good f e known _
      (tops_picked P L.good f always object_path no_object objects (rw (only_all objects) (entry_rooted P L.good (entry_at P e) (good-entry P L.good e known))) 64 (object_index s) e (omega (arith, L.fits.entries))
      always (path_from s (first_object s e)) (object-index L e known) (λ i l. refl) (λ i l. object-path L e known i no_object l) t)
    where
      objects : List Object
      objects = (entry_at P e).objects
