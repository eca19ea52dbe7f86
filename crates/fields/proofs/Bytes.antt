-- Numbers and parts that are read at a place of any bytes.
-- Assumes nothing.
use mathlib.Core.Path.{◌≡◌, sym, ◌∙◌}
use mathlib.Core.Bool.{false, ◌&&◌, and-false}
use mathlib.Core.List.{List, []}
use Prim.Native.Nat.{ℕ, ◌+◌, ◌*◌, ◌≤◌, ◌<◌}
use native.Mathlib.Nat.{add-zero, add_assoc}
use native.Mathlib.Omega.{arith}
use borrow.Author.Tests.{le-leb, le-ltb, lt-ltb}
use lib.Dec.{leb, ltb}
use lib.ListN.{length, get_or, take, drop}
use Rattle.store.specs.Layout.{two, four}
use Rattle.store.proofs.Reading.{two_number, four_number}
use Rattle.fields.specs.Fields.{byte_at, word_at, long_at, part_of, part_place, path_in, path_place, path_count, Pointer, Handed}

module _ (s : List ℕ) where
  pub part_inside : (from size : ℕ) → from + size ≤ length s → part_of s from size ≡ take size (drop from s)
  unfolding part_of
  part_inside from size h = rw (le-leb (from + size) (length s) h)

  module _ (n : ℕ) where
    pub path_unknown : path_count s ≤ n → (path_in s n ≡ []) × (path_place s n ≡ 0)
    unfolding path_in path_place
    path_unknown l =
        let none : (leb (676 + 3 * n + 3) (length s) && ltb n (path_count s)) ≡ false = rw (le-ltb n (path_count s) l) (and-false (leb (676 + 3 * n + 3) (length s))) in
        (rw none, rw none)

    pub path_known : 676 + 3 * n + 3 ≤ length s → n < path_count s → (path_in s n ≡ part_of s (2948 + word_at s (676 + 3 * n)) (byte_at s (676 + 3 * n + 2)))
        × (path_place s n ≡ part_place s (2948 + word_at s (676 + 3 * n)) (byte_at s (676 + 3 * n + 2)))
    unfolding path_in path_place
    path_known h l =
        let long = le-leb (676 + 3 * n + 3) (length s) h in
        let some = lt-ltb n (path_count s) l in
        (rw (long, some), rw (long, some))

  -- the number that two bytes, or four, were written for
  pub word_of : (at n : ℕ) → n < 65536 → byte_at s at ≡ get_or (two n) 0 0 → byte_at s (at + 1) ≡ get_or (two n) 1 0 → word_at s at ≡ n
  unfolding word_at
  word_of at n h a b = omega (arith, two_number n h)

  pub long_of : (at n : ℕ) → n < 4294967296 → ((k : ℕ) → k < 4 → byte_at s (at + k) ≡ get_or (four n) k 0) → long_at s at ≡ n
  unfolding long_at word_at
  long_of at n h f =
      let a = rw (add-zero at) at (f 0 (omega arith)) in
      let b = f 1 (omega arith) in
      let c = f 2 (omega arith) in
      let d = rw (← add_assoc at 2 1) at (f 3 (omega arith)) in
      omega (arith, four_number n h)

-- Two parts that are handed back for one are the same: pointer and bytes.
pub handed_unique : {area : Pointer} {from : ℕ} {part : List ℕ} {p q : Pointer} {xs ys : List ℕ} → Handed area from part p xs → Handed area from part q ys → (p ≡ q) × (xs ≡ ys)
handed_unique {p = p} {q = q} h k = (λ i. ((h.block ∙ sym k.block) i, (h.place ∙ sym k.place) i), h.bytes ∙ sym k.bytes)
