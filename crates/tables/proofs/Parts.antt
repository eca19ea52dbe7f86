-- A part that is lent from a whole and comes back filled: its cells are the whole's, and all other cells stay.
-- Assumes nothing.
use mathlib.Core.Path.{◌≡◌, refl, sym, ap, ◌∙◌}
use mathlib.Core.List.{List, [], ◌∷◌, ◌++◌, map, map-append, append_assoc}
use Prim.Native.Nat.{ℕ, ◌+◌, ◌-◌, ◌≤◌, ◌<◌, zero-le}
use native.Mathlib.Decide.{dec_lt}
use native.Mathlib.Omega.{arith}
use borrow.Rule.Slice.PartMut.{mid_of, put_mid, same_len_mid}
use lib.ListN.{length, get_or, take, drop, length-append, get_or-append}
use lib.Seq.{get_or-take, get_or-drop, get_or-append-add, length-take-le, take_at, take_all}
use Rattle.rows.specs.Rows.{joined}
use Rattle.rows.proofs.Tables.{joined_append}
use Rattle.rows.proofs.Parts.{part_length, part_lies, Lies, begin}
use Rattle.tables.specs.Tables.{cell}

module _ (a k : ℕ) (t new : List ℕ) (room : a + k ≤ length t) (size : length new ≡ k) where
  before : length (take a t) ≡ a
  before = length-take-le a t (omega arith)

  -- A cell of the part.
  pub put_own : (i : ℕ) → i < k → cell (put_mid a k t new) (a + i) ≡ cell new i
  put_own i h =
      ap (λ (n : ℕ). get_or (take a t ++ (new ++ drop k (drop a t))) (n + i) 0) (sym before)
      ∙ get_or-append-add (take a t) (new ++ drop k (drop a t)) i 0
      ∙ get_or-append new (drop k (drop a t)) 0 i (omega arith)

  -- A cell before it or behind it.
  pub put_other : (j : ℕ) → ((j < a → ⊥) → a + k ≤ j) → cell (put_mid a k t new) j ≡ cell t j
  put_other j out = go (dec_lt j a)
    where
      go : Dec (j < a) → cell (put_mid a k t new) j ≡ cell t j
      go (yes h) = get_or-append (take a t) (new ++ drop k (drop a t)) 0 j (omega (arith, before)) ∙ get_or-take a t j 0 h
      go (no h) =
          let at : j ≡ length (take a t) + (length new + (j - (a + k))) = omega (arith, before, out h) in
          let back : a + (k + (j - (a + k))) ≡ j = omega (arith, out h) in
          ap (λ (n : ℕ). get_or (take a t ++ (new ++ drop k (drop a t))) n 0) at
          ∙ get_or-append-add (take a t) (new ++ drop k (drop a t)) (length new + (j - (a + k))) 0
          ∙ get_or-append-add new (drop k (drop a t)) (j - (a + k)) 0
          ∙ get_or-drop k (drop a t) (j - (a + k)) 0
          ∙ get_or-drop a t (k + (j - (a + k))) 0
          ∙ ap (λ (n : ℕ). get_or t n 0) back

-- ---- parts filled one behind the other

-- The first `at` cells of the whole are the parts, of these sizes.
pub record Parts (ps : List (List ℕ)) (sizes : List ℕ) (at whole : ℕ) (t : List ℕ) : Type 0 where
  pub long : length t ≡ whole
  pub inside : at ≤ whole
  pub is : take at t ≡ joined ps
  pub sized : map length ps ≡ sizes

pub parts_none : {whole : ℕ} (t : List ℕ) → length t ≡ whole → Parts [] [] 0 whole t
unfolding joined
parts_none t long = record { long = long; inside = zero-le; is = refl; sized = refl }

-- One part more comes back.
pub parts_more : {ps : List (List ℕ)} {sizes : List ℕ} {at whole : ℕ} {t : List ℕ} (k : ℕ) (new : List ℕ) → Parts ps sizes at whole t → at + k ≤ whole → length new ≡ length (mid_of at k t)
    → Parts (ps ++ (new ∷ [])) (sizes ++ (k ∷ [])) (at + k) whole (put_mid at k t new)
parts_more {ps} {sizes} {at} {whole} {t} k new p room kept =
    let size : length new ≡ k = kept ∙ part_length at k t (omega (arith, p.long)) in
    let long : length (take at t ++ new) ≡ at + k = length-append (take at t) new ∙ omega (arith, length-take-le at t (omega (arith, p.long, p.inside))) in
    record {
      long = same_len_mid at k t new kept ∙ p.long;
      inside = room;
      is = ap (take (at + k)) (sym (append_assoc (take at t) new (drop k (drop at t))))
          ∙ take_at (take at t ++ new) (drop k (drop at t)) (at + k) long
          ∙ ap (λ (l : List ℕ). l ++ new) p.is
          ∙ sym (joined_append ps new);
      sized = map-append length ps (new ∷ []) ∙ rw (p.sized, size);
    }

pub parts_all : {ps : List (List ℕ)} {sizes : List ℕ} {whole : ℕ} {t : List ℕ} → Parts ps sizes whole whole t → t ≡ joined ps
parts_all {whole = whole} {t = t} p = sym (take_all whole t (omega (arith, p.long))) ∙ p.is

-- What lies where in a whole of parts.
module _ {ps : List (List ℕ)} {sizes : List ℕ} {whole : ℕ} {t : List ℕ} (p : Parts ps sizes whole whole t) (n : ℕ) (h : n < length ps) where
  pub part_is : Lies t (begin sizes n) (get_or sizes n 0) (get_or ps n [])
  part_is = rw (parts_all p) (part_lies ps sizes p.sized n h)
