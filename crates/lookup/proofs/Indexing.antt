-- The indexes of entries and of objects: a cell is none, or what has the row's path.
-- Assumes nothing.
use mathlib.Core.Path.{◌≡◌, refl, sym, ap, ◌∙◌}
use mathlib.Core.Logic.{◌⊎◌, inl, inr}
use mathlib.Core.Bool.{Bool, false, So, false≢true}
use mathlib.Core.List.{List}
use Prim.Native.Nat.{ℕ, zero, suc, ◌/◌, ◌≤◌, ◌<◌}
use native.Mathlib.Decide.{ℕ_discrete}
use native.Mathlib.Nat.{not-suc-le-zero, eq-or-lt_of_le, le_of_suc-le-suc}
use native.Mathlib.Omega.{arith}
use borrow.Author.Tests.{eq-eqb, ne_eqb}
use lib.Arith.{digits_div}
use lib.Dec.{eqb}
use lib.ListN.{length, set, replicate, length-set, length-map, length-replicate, get_or-replicate}
use lib.Seq.{get_or-set_same, get_or-set_other}
use Rattle.gran.specs.Lists.{none}
use Rattle.gran.specs.Policy.{Policy}
use Rattle.gran.specs.Match.{object_path, objects_of}
use Rattle.gran.proofs.Members.{all_of, has-member}
use Rattle.gran.proofs.Counting.{few_below}
use Rattle.gran.proofs.Policies.{entry_rooted}
use Rattle.store.specs.Held.{Loaded}
use Rattle.fields.specs.Fields.{byte_at, entry_count, entry_subject, entry_role, first_object, object_count, path_from}
use Rattle.fields.proofs.Header.{entry-count}
use Rattle.fields.proofs.Entries.{entry-role, object-count}
use Rattle.lookup.specs.Index.{cell_of, entries_noted, objects_noted, all_noted, entry_index, object_index}
use Rattle.lookup.specs.Lookup.{entry_at}
use Rattle.lookup.proofs.Search.{always}
use Rattle.lookup.proofs.Matches.{good-entry}

-- ---- the cells of all paths for one role or entry

-- Of the first n places those that count are noted, each for its path, and nothing else.
pub record Column (w : ℕ) (index : List ℕ) (k : ℕ) (counts : ℕ → Bool) (path : ℕ → ℕ) (n : ℕ) : Type 0 where
  pub has : (i : ℕ) → i < n → So (counts i) → path i < 96 → byte_at index (cell_of w (path i) k) ≡ none → ⊥
  pub is : (q : ℕ) → q < 96 → (byte_at index (cell_of w q k) ≡ none → ⊥)
      → (byte_at index (cell_of w q k) < n) × So (counts (byte_at index (cell_of w q k))) × (path (byte_at index (cell_of w q k)) ≡ q)

module _ (w k : ℕ) (counts : ℕ → Bool) (path : ℕ → ℕ) where
  column-none : (index : List ℕ) → ((q : ℕ) → q < 96 → byte_at index (cell_of w q k) ≡ none) → Column w index k counts path 0
  column-none index empty = record { has = λ i h. absurd (not-suc-le-zero h); is = λ q h some. absurd (some (empty q h)) }

  -- The cells are as before.
  column_kept : (before after : List ℕ) (n : ℕ) → ((q : ℕ) → byte_at after (cell_of w q k) ≡ byte_at before (cell_of w q k)) → Column w before k counts path n → Column w after k counts path n
  column_kept before after n same t = record {
    has = λ i h counted known empty. t.has i h counted known (sym (same (path i)) ∙ empty);
    is = λ q h some. rw (same q) (t.is q h (λ empty. some (same q ∙ empty)));
  }

  -- The next place does not count.
  column_passed : (index : List ℕ) (n : ℕ) → counts n ≡ false → Column w index k counts path n → Column w index k counts path (suc n)
  column_passed index n out t = record {
    has = λ i h counted. has i counted (eq-or-lt_of_le (le_of_suc-le-suc h));
    is = λ q h some. let r = t.is q h some in (omega (arith, r.0), r.1, r.2);
  }
    where
      has : (i : ℕ) → So (counts i) → (i ≡ n) ⊎ (i < n) → path i < 96 → byte_at index (cell_of w (path i) k) ≡ none → ⊥
      has i counted (inl same) = absurd (false≢true (sym out ∙ rw same at counted))
      has i counted (inr less) = t.has i less counted

  -- The next place counts, and is noted for its path.
  column_noted : (index : List ℕ) (n : ℕ) → k < w → ((q : ℕ) → q < 96 → cell_of w q k < length index) → n < none → So (counts n) → Column w index k counts path n
      → Column w (set index (cell_of w (path n) k) n) k counts path (suc n)
  column_noted index n inside room few counted t = record {
    has = λ i h c. has i c (eq-or-lt_of_le (le_of_suc-le-suc h)) (ℕ_discrete (path i) (path n));
    is = λ q h. is q h (ℕ_discrete q (path n));
  }
    where
      own : path n < 96 → byte_at (set index (cell_of w (path n) k) n) (cell_of w (path n) k) ≡ n
      own h = get_or-set_same index (cell_of w (path n) k) n 0 (room (path n) h)

      other : (q : ℕ) → (q ≡ path n → ⊥) → byte_at (set index (cell_of w (path n) k) n) (cell_of w q k) ≡ byte_at index (cell_of w q k)
      other q d = get_or-set_other index (cell_of w (path n) k) (cell_of w q k) n 0 (λ same. d (sym (digits_div q inside) ∙ ap (λ (x : ℕ). x / w) same ∙ digits_div (path n) inside))

      has : (i : ℕ) → So (counts i) → (i ≡ n) ⊎ (i < n) → Dec (path i ≡ path n) → path i < 96 → byte_at (set index (cell_of w (path n) k) n) (cell_of w (path i) k) ≡ none → ⊥
      has i c at (yes same) h empty = let z : n ≡ none = sym (own (rw same at h)) ∙ rw same at empty in omega (arith, z)
      has i c (inl at) (no d) h empty = d (ap path at)
      has i c (inr less) (no d) h empty = t.has i less c h (sym (other (path i) d) ∙ empty)

      is : (q : ℕ) → q < 96 → Dec (q ≡ path n) → (byte_at (set index (cell_of w (path n) k) n) (cell_of w q k) ≡ none → ⊥)
          → (byte_at (set index (cell_of w (path n) k) n) (cell_of w q k) < suc n) × So (counts (byte_at (set index (cell_of w (path n) k) n) (cell_of w q k)))
          × (path (byte_at (set index (cell_of w (path n) k) n) (cell_of w q k)) ≡ q)
      is q h (yes same) some = rw (same, own (rw same at h)) (omega arith, counted, refl)
      is q h (no d) some = let r = t.is q h (λ empty. some (other q d ∙ empty)) in rw (other q d) (omega (arith, r.0), r.1, r.2)

-- ---- entries by role

abbrev pub has_role : List ℕ → ℕ → ℕ → Bool
has_role s r e = eqb (entry_role s e) r

module _ (s index : List ℕ) where
  entries_long : (n : ℕ) → length (entries_noted s n index) ≡ length index
  entries_long zero = refl
  entries_long (suc n) = length-set (entries_noted s n index) _ n ∙ entries_long n

  entries_column : (r : ℕ) → r < 32 → length index ≡ 3072 → ((q : ℕ) → q < 96 → byte_at index (cell_of 32 q r) ≡ none) → (n : ℕ) → n ≤ none → ((e : ℕ) → e < n → entry_role s e < 32)
      → Column 32 (entries_noted s n index) r (has_role s r) (entry_subject s) n
  entries_column r few long empty zero fits roles = column-none 32 r (has_role s r) (entry_subject s) index empty
  entries_column r few long empty (suc n) fits roles = go (ℕ_discrete (entry_role s n) r) (entries_column r few long empty n (omega arith) (λ e h. roles e (omega arith)))
    where
      go : Dec (entry_role s n ≡ r) → Column 32 (entries_noted s n index) r (has_role s r) (entry_subject s) n → Column 32 (entries_noted s (suc n) index) r (has_role s r) (entry_subject s) (suc n)
      go (yes same) t =
          rw same (column_noted 32 r (has_role s r) (entry_subject s) (entries_noted s n index) n few (λ q h. omega (arith, entries_long n)) (omega arith) (eq-eqb (entry_role s n) r same) t)
      go (no d) t =
          column_passed 32 r (has_role s r) (entry_subject s) (entries_noted s (suc n) index) n (ne_eqb (entry_role s n) r d)
          (column_kept 32 r (has_role s r) (entry_subject s) (entries_noted s n index) (entries_noted s (suc n) index) n
          (λ q. get_or-set_other (entries_noted s n index) _ (cell_of 32 q r) n 0 (λ same. d (omega (arith, same, roles n (omega arith))))) t)

-- ---- objects by entry

module _ (s : List ℕ) (e : ℕ) (index : List ℕ) where
  objects_long : (n : ℕ) → length (objects_noted s e n index) ≡ length index
  objects_long zero = refl
  objects_long (suc n) = length-set (objects_noted s e n index) _ n ∙ objects_long n

  -- the cells of another entry
  objects_other : (k : ℕ) → k < 64 → e < 64 → (k ≡ e → ⊥) → (n q : ℕ) → byte_at (objects_noted s e n index) (cell_of 64 q k) ≡ byte_at index (cell_of 64 q k)
  objects_other k h l d zero q = refl
  objects_other k h l d (suc n) q = get_or-set_other (objects_noted s e n index) _ (cell_of 64 q k) n 0 (λ same. d (omega (arith, same))) ∙ objects_other k h l d n q

  objects_own : e < 64 → length index ≡ 6144 → ((q : ℕ) → q < 96 → byte_at index (cell_of 64 q e) ≡ none) → (n : ℕ) → n ≤ none → Column 64 (objects_noted s e n index) e always (path_from s (first_object s e)) n
  objects_own l long empty zero few = column-none 64 e always (path_from s (first_object s e)) index empty
  objects_own l long empty (suc n) few =
      column_noted 64 e always (path_from s (first_object s e)) (objects_noted s e n index) n l (λ q h. omega (arith, objects_long n)) (omega arith) refl (objects_own l long empty n (omega arith))

module _ (s index : List ℕ) where
  all_long : (n : ℕ) → length (all_noted s n index) ≡ length index
  all_long zero = refl
  all_long (suc n) = objects_long s n (all_noted s n index) (object_count s n) ∙ all_long n

  module _ (e : ℕ) (inside : e < 64) where
    -- the entries before it leave its cells
    all_before : (n : ℕ) → n ≤ e → (q : ℕ) → byte_at (all_noted s n index) (cell_of 64 q e) ≡ byte_at index (cell_of 64 q e)
    all_before zero h q = refl
    all_before (suc n) h q = objects_other s n (all_noted s n index) e inside (omega arith) (λ d. omega (arith, d)) (object_count s n) q ∙ all_before n (omega arith) q

    all_column : length index ≡ 6144 → ((q : ℕ) → q < 96 → byte_at index (cell_of 64 q e) ≡ none) → object_count s e ≤ none → (n : ℕ) → e < n → n ≤ 64
        → Column 64 (all_noted s n index) e always (path_from s (first_object s e)) (object_count s e)
    all_column long empty few zero h fits = absurd (not-suc-le-zero h)
    all_column long empty few (suc n) h fits = go (eq-or-lt_of_le (le_of_suc-le-suc h)) (all_column long empty few n)
      where
        go : (e ≡ n) ⊎ (e < n) → (e < n → n ≤ 64 → Column 64 (all_noted s n index) e always (path_from s (first_object s e)) (object_count s e))
            → Column 64 (all_noted s (suc n) index) e always (path_from s (first_object s e)) (object_count s e)
        go (inl same) t = rw (← same) (objects_own s e (all_noted s e index) inside (all_long e ∙ long) (λ q k. all_before e (omega arith) q ∙ empty q k) (object_count s e) few)
        go (inr less) t =
            column_kept 64 e always (path_from s (first_object s e)) (all_noted s n index) (all_noted s (suc n) index) (object_count s e)
            (objects_other s n (all_noted s n index) e inside (omega arith) (λ d. omega (arith, d)) (object_count s n)) (t less (omega arith))

-- ---- the indexes of a loaded store

pub entry_index_long : (s : List ℕ) → length (entry_index s) ≡ 3072
unfolding entry_index
entry_index_long s = entries_long s (replicate 3072 none) (entry_count s) ∙ length-replicate 3072 none

pub object_index_long : (s : List ℕ) → length (object_index s) ≡ 6144
unfolding object_index
object_index_long s = all_long s (replicate 6144 none) (entry_count s) ∙ length-replicate 6144 none

module _ {P : Policy} {rest s : List ℕ} (L : Loaded P rest s) where
  pub entry-index : (r : ℕ) → r < length P.roles → Column 32 (entry_index s) r (has_role s r) (entry_subject s) (length P.entries)
  unfolding entry_index
  entry-index r known =
      rw (← entry-count L) (entries_column s (replicate 3072 none) r few (length-replicate 3072 none) (λ q h. get_or-replicate {A = ℕ} 3072 (cell_of 32 q r) none 0 (omega arith)) (entry_count s)
      (omega (arith, entry-count L, L.fits.entries)) (λ e h. role e (rw (entry-count L) at h)))
    where
      few : r < 32
      few = omega (arith, L.fits.roles)

      role : (e : ℕ) → e < length P.entries → entry_role s e < 32
      role e h = omega (arith, entry-role L e h, (good-entry P L.good e h).role, L.fits.roles)

  module _ (e : ℕ) (known : e < length P.entries) where
    abbrev cs : List ℕ
    cs = objects_of (entry_at P e)

    -- an entry has no more objects than there are paths
    few_objects : length (entry_at P e).objects ≤ 96
    unfolding objects_of
    few_objects =
        let good = good-entry P L.good e known in
        let few = few_below (length P.paths) cs (all_of (λ (c : ℕ). c < length P.paths) cs (λ c m. (entry_rooted P L.good (entry_at P e) good).named c (has-member cs m))) good.distinct in
        omega (arith, few, length-map (entry_at P e).objects object_path, L.fits.paths)

    pub object-index : Column 64 (object_index s) e always (path_from s (first_object s e)) (length (entry_at P e).objects)
    unfolding object_index
    object-index =
        rw (← object-count L e known) (all_column s (replicate 6144 none) e few (length-replicate 6144 none) (λ q h. get_or-replicate {A = ℕ} 6144 (cell_of 64 q e) none 0 (omega arith))
        (omega (arith, object-count L e known, few_objects)) (entry_count s) (omega (arith, entry-count L)) (omega (arith, entry-count L, L.fits.entries)))
      where
        few : e < 64
        few = omega (arith, L.fits.entries)
