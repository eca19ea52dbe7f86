-- The rows of a subject, filled as two parts; and cell by row and choice.
-- Assumes nothing.
use mathlib.Core.Path.{◌≡◌, ap, ◌∙◌}
use mathlib.Core.Logic.{◌⊎◌, inl, inr}
use mathlib.Core.List.{List}
use Prim.Native.Nat.{ℕ, ◌+◌, ◌*◌, ◌/◌, ◌%◌, ◌≤◌, ◌<◌}
use native.Mathlib.Nat.{mul_comm, eq-or-lt_of_le, le_of_suc-le-suc}
use native.Mathlib.Numerals.{add-one}
use native.Mathlib.Omega.{arith}
use borrow.Rule.Slice.PartMut.{mid_of, put_mid, same_len_mid}
use lib.Arith.{digits_lt, digits_div, digits_mod}
use lib.ListN.{length, get_or}
use Rattle.gran.specs.Lists.{none}
use Rattle.gran.specs.Policy.{Policy}
use Rattle.gran.specs.Match.{path_at}
use Rattle.gran.proofs.Policies.{path_subject, subjects-named}
use Rattle.runs.specs.Steps.{choices}
use Rattle.store.specs.Held.{Loaded}
use Rattle.lookup.specs.Lookup.{Rows}
use Rattle.tables.specs.Tables.{cell}
use Rattle.tables.specs.Regions.{holds, Front, Region, offers, rows_for, Offers, Row, RowFilled, RowsFilled}
use Rattle.rows.proofs.Parts.{part_length}
use Rattle.tables.proofs.Front.{get_d_any}
use Rattle.tables.proofs.Parts.{put_own, put_other}

-- ---- rows of choices

module _ {P : Policy} {rest s : List ℕ} (L : Loaded P rest s) (k rows w : ℕ) (cs part : List ℕ) where
  pub offer_at : length cs ≡ w → Front (choices P k) cs → Region s (Offers k cs) (rows * length cs) part → rows ≡ rows_for P k → rows * w ≤ length part → length (choices P k) ≤ w
      → (r j : ℕ) → r < rows_for P k → j < length (choices P k) → holds (cell part (w * r + j)) ≡ offers P k r (get_or (choices P k) j none)
  offer_at wide front region count room few r j h l =
      let at : w * r + j ≡ r * w + j = ap (λ (n : ℕ). n + j) (mul_comm w r) in
      let inside : j < w = omega arith in
      let below : r * w + j < rows * w = rw count (digits_lt h inside) in
      let row : (w * r + j) / length cs ≡ r = rw (wide, at) (digits_div r inside) in
      let choice : (w * r + j) % length cs ≡ j = rw (wide, at) (digits_mod r inside) in
      region P rest L (w * r + j) (rw (wide, at) below) (omega arith) (omega arith) front (rw row h) (rw choice l)
      ∙ rw (row, choice)

-- ---- rows of subjects

-- Both parts of a subject, m and n bytes long, come back filled.
module _ (k m n : ℕ) (part force objects : List ℕ) (inside : k < 64) (long : length part ≡ 6144) (m-is : m ≡ 32) (n-is : n ≡ 64)
    (force-kept : length force ≡ length (mid_of (32 * k) m part)) (objects-kept : length objects ≡ length (mid_of (2048 + 64 * k) n (put_mid (32 * k) m part force))) where
  one : List ℕ
  one = put_mid (32 * k) m part force

  one_long : length one ≡ 6144
  unfolding one
  one_long = same_len_mid (32 * k) m part force force-kept ∙ long

  force_long : length force ≡ m
  force_long = force-kept ∙ part_length (32 * k) m part (omega arith)

  objects_long : length objects ≡ n
  unfolding one
  objects_long = objects-kept ∙ part_length (2048 + 64 * k) n one (omega (arith, one_long))

  -- A cell of the first part, of the second, and of neither.
  in-force : (r : ℕ) → r < 32 → cell (put_mid (2048 + 64 * k) n one objects) (32 * k + r) ≡ cell force r
  unfolding one
  in-force r h =
      put_other (2048 + 64 * k) n one objects (omega (arith, one_long)) objects_long (32 * k + r) (λ out. absurd (omega (arith, out)))
      ∙ put_own (32 * k) m part force (omega arith) force_long r (omega arith)

  in_objects : (e : ℕ) → e < 64 → cell (put_mid (2048 + 64 * k) n one objects) (2048 + (64 * k + e)) ≡ cell objects e
  in_objects e h =
      let at : 2048 + (64 * k + e) ≡ 2048 + 64 * k + e = omega arith in
      rw at (put_own (2048 + 64 * k) n one objects (omega (arith, one_long)) objects_long e (omega arith))

  neither : (j : ℕ) → ((j < 32 * k → ⊥) → 32 * k + 32 ≤ j) → ((j < 2048 + 64 * k → ⊥) → 2048 + 64 * k + 64 ≤ j) → cell (put_mid (2048 + 64 * k) n one objects) j ≡ cell part j
  unfolding one
  neither j a b =
      put_other (2048 + 64 * k) n one objects (omega (arith, one_long)) objects_long j (λ out. omega (arith, b out))
      ∙ put_other (32 * k) m part force (omega arith) force_long j (λ out. omega (arith, a out))

  pub row-filled : {s : List ℕ} (c : ℕ) → ((P : Policy) (rest : List ℕ) → Loaded P rest s → c < length P.paths → Rows P (path_at P.paths c) force objects)
      → RowFilled s c k part (put_mid (2048 + 64 * k) n (put_mid (32 * k) m part force) objects)
  unfolding one
  row-filled c rows = record {
    own = λ P rest L named. record {
      force = λ r h.
          let few : r < 32 = omega (arith, L.fits.roles) in
          rw (in-force r few) ((rows P rest L named).force_is r h);
      object = λ e h.
          let few : e < 64 = omega (arith, L.fits.entries) in
          rw (in_objects e few) ((rows P rest L named).place_is e h);
    };
    others = λ P rest f L j l apart row. record {
      force = λ r h. rw (neither (32 * j + r) (λ out. omega (arith, L.fits.roles)) (λ out. absurd (omega (arith, L.fits.roles)))) (row.force r h);
      object = λ e h. rw (neither (2048 + (64 * j + e)) (λ out. omega arith) (λ out. omega (arith, L.fits.entries))) (row.object e h);
    };
  }

-- One subject more.
pub rows_more : (s subjects : List ℕ) (k : ℕ) (part after : List ℕ) → k < length subjects → length subjects ≤ 64 → RowsFilled s subjects k part
    → RowFilled s (get_or subjects k 0) k part after → RowsFilled s subjects (k + 1) after
rows_more s subjects k part after h few rows filled P rest L own j l = go (eq-or-lt_of_le (le_of_suc-le-suc (rw add-one at l)))
  where
    named : get_or subjects k 0 < length P.paths
    named = rw (← get_d_any subjects k none 0 h, own) (subjects-named P L.good _ (path_subject P k (rw own at h)))

    go : (j ≡ k) ⊎ (j < k) → Row P (path_at P.paths (get_or subjects j none)) j after
    go (inl e) = rw (e, get_d_any subjects k none 0 h) (filled.own P rest L named)
    go (inr m) = filled.others P rest (path_at P.paths (get_or subjects j none)) L j (omega arith) (omega arith) (rows P rest L own j m)
