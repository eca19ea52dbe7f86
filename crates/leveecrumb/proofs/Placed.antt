-- The part that is answered as the last file's path, case by case: the start, no such path, a path of the store.
-- Assumes nothing.
use mathlib.Core.Path.{◌≡◌, refl, sym, ap, ◌∙◌}
use mathlib.Core.Bool.{Bool, true, false, cond, ◌&&◌}
use mathlib.Core.List.{List, [], ◌∷◌}
use Prim.Native.Nat.{ℕ, ◌+◌, ◌*◌, ◌≤◌}
use native.Mathlib.Omega.{arith}
use borrow.Author.Tests.{eq-eqb, ne_eqb, leb-true}
use lib.Dec.{leb, ltb}
use lib.ListN.{length, take, drop, length-drop}
use lib.Seq.{take-length, length-take-le}
use Rattle.gran.specs.Lists.{none}
use Rattle.fields.specs.Fields.{byte_at, word_at, part_of, path_in, path_count}
use Rattle.replay.specs.Replay.{last_file}
use Rattle.leveecrumb.specs.declared.last.Part.{Part}
use Rattle.leveecrumb.specs.Parts.{stored_part, last_part, LastPart}

-- A part that is not empty stands where it is read.
read_there : (s : List ℕ) (from size : ℕ) → (length (part_of s from size) ≡ 0 → ⊥)
    → (from + length (part_of s from size) ≤ length s) × (take (length (part_of s from size)) (drop from s) ≡ part_of s from size)
unfolding part_of
read_there s from size = go (leb (from + size) (length s)) refl
  where
    go : (b : Bool) → leb (from + size) (length s) ≡ b → (length (cond b (take size (drop from s)) []) ≡ 0 → ⊥)
        → (from + length (cond b (take size (drop from s)) []) ≤ length s) × (take (length (cond b (take size (drop from s)) [])) (drop from s) ≡ cond b (take size (drop from s)) [])
    go false e ne = absurd (ne refl)
    go true e ne =
        let room : from + size ≤ length s = leb-true (from + size) (length s) e in
        let all : length (take size (drop from s)) ≡ size = length-take-le size (drop from s) (omega (arith, length-drop from s)) in
        (omega (arith, all), ap (λ (k : ℕ). take k (drop from s)) all)

path_there : (s : List ℕ) (n : ℕ) → (length (path_in s n) ≡ 0 → ⊥)
    → (2948 + word_at s (676 + 3 * n) + length (path_in s n) ≤ length s) × (take (length (path_in s n)) (drop (2948 + word_at s (676 + 3 * n)) s) ≡ path_in s n)
unfolding path_in
path_there s n = go (leb (676 + 3 * n + 3) (length s) && ltb n (path_count s))
  where
    part : List ℕ
    part = part_of s (2948 + word_at s (676 + 3 * n)) (byte_at s (676 + 3 * n + 2))

    go : (b : Bool) → (length (cond b part []) ≡ 0 → ⊥)
        → (2948 + word_at s (676 + 3 * n) + length (cond b part []) ≤ length s) × (take (length (cond b part [])) (drop (2948 + word_at s (676 + 3 * n)) s) ≡ cond b part [])
    go false ne = absurd (ne refl)
    go true ne = read_there s (2948 + word_at s (676 + 3 * n)) (byte_at s (676 + 3 * n + 2)) ne

module _ (start store : List ℕ) (number : ℕ) where
  -- nothing was executed
  pub at-start : number ≡ none → LastPart start store number (record { stored = 0; from = 0; size = length start })
  unfolding last_part last_file
  at-start e = record { is = rw (eq-eqb number none e); inside = omega arith; bytes = rw (eq-eqb number none e) (take-length start) }

  module _ (ne : number ≡ none → ⊥) where
    -- the store names no such path
    pub at_none : length (path_in store number) ≡ 0 → LastPart start store number (record { stored = 1; from = 0; size = 0 })
    unfolding last_part stored_part last_file
    at_none z = record { is = rw (ne_eqb number none ne, z); inside = omega arith; bytes = rw (ne_eqb number none ne) (empty (path_in store number) z) }
      where
        empty : (l : List ℕ) → length l ≡ 0 → [] ≡ l
        empty [] e = refl
        empty (x ∷ l) e = absurd (omega (arith, e))

    pub at_path : (length (path_in store number) ≡ 0 → ⊥) → LastPart start store number (record { stored = 1; from = 2948 + word_at store (676 + 3 * number); size = length (path_in store number) })
    unfolding last_part stored_part last_file
    at_path some =
        let there = path_there store number some in
        record { is = rw (ne_eqb number none ne, ne_eqb (length (path_in store number)) 0 some); inside = there.0; bytes = rw (ne_eqb number none ne) there.1 }

-- Two parts that are answered for one number are the same.
pub last_part_unique : (start store : List ℕ) (number : ℕ) (p q : Part) → LastPart start store number p → LastPart start store number q → p ≡ q
last_part_unique start store number p q a b = a.is ∙ sym b.is
