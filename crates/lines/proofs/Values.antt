-- Laws of digits: the value of each, the digit of a value, and a pair's value by a table of them.
-- Assumes nothing.
use mathlib.Core.Path.{◌≡◌, ◌∙◌}
use mathlib.Core.Bool.{cond}
use mathlib.Core.List.{List}
use Prim.Native.Nat.{ℕ, ◌+◌, ◌*◌, ◌≤◌, ◌<◌}
use native.Mathlib.Decide.{dec_lt}
use native.Mathlib.Omega.{arith}
use borrow.Author.Tests.{le-ltb, lt-ltb, le-leb, lt-leb}
use lib.Dec.{ltb, leb}
use Rattle.std.proofs.Common.{Option, Some, None, Result, Ok, Err}
use Rattle.std.specs.Result.{OkIff, result_ok}
use lib.ListN.{length, get_or, set}
use lib.Seq.{get_or-set_same, get_or-set_other}
use Rattle.lines.specs.Line.{hex_value, pair_value, Digits, digit_of}

-- a digit's value is the value again
pub digit_value : (v : ℕ) → v < 16 → hex_value (digit_of v) ≡ v
unfolding hex_value digit_of
digit_value v h = go (dec_lt v 10)
  where
    go : Dec (v < 10) → hex_value (digit_of v) ≡ v
    go (yes p) = simp (lt-ltb v 10 p, le-ltb (v + 48) 48 (omega arith), le-leb (v + 48) 57 (omega arith)) (omega arith)
    go (no n) =
        simp (
          le-ltb v 10 (omega arith),
          le-ltb (v + 87) 48 (omega arith),
          lt-leb (v + 87) 57 (omega arith),
          le-ltb (v + 87) 97 (omega arith),
          le-leb (v + 87) 102 (omega arith),
        ) (omega arith)

-- and no other byte has it
value_digit : (b v : ℕ) → hex_value b ≡ v → v < 16 → b ≡ digit_of v
unfolding hex_value digit_of
value_digit b v e h = low (dec_lt b 48)
  where
    letter : 97 ≤ b → Dec (102 < b) → b ≡ digit_of v
    letter l (yes p) = absurd (omega (arith, simp (le-ltb b 48 (omega arith), lt-leb b 57 (omega arith), le-ltb b 97 l, lt-leb b 102 p) at e))
    letter l (no n) =
        let is : b ≡ v + 87 = omega (arith, simp (le-ltb b 48 (omega arith), lt-leb b 57 (omega arith), le-ltb b 97 l, le-leb b 102 (omega arith)) at e) in
        simp (le-ltb v 10 (omega arith)) is

    between : 57 < b → Dec (b < 97) → b ≡ digit_of v
    between l (yes p) = absurd (omega (arith, simp (le-ltb b 48 (omega arith), lt-leb b 57 l, lt-ltb b 97 p) at e))
    between l (no n) = letter (omega arith) (dec_lt 102 b)

    decimal : 48 ≤ b → Dec (57 < b) → b ≡ digit_of v
    decimal l (yes p) = between p (dec_lt b 97)
    decimal l (no n) =
        let is : b ≡ v + 48 = omega (arith, simp (le-ltb b 48 l, le-leb b 57 (omega arith)) at e) in
        simp (lt-ltb v 10 (omega arith)) is

    low : Dec (b < 48) → b ≡ digit_of v
    low (yes p) = absurd (omega (arith, simp (lt-ltb b 48 p) at e))
    low (no n) = decimal (omega arith) (dec_lt 57 b)

pub digit_small : (v : ℕ) → v < 16 → digit_of v < 256
unfolding digit_of
digit_small v h = go (dec_lt v 10)
  where
    go : Dec (v < 10) → digit_of v < 256
    go (yes p) = simp (lt-ltb v 10 p) (omega arith)
    go (no n) = simp (le-ltb v 10 (omega arith)) (omega arith)

-- The value of a byte in a table of the digits below v.
abbrev pub value_below : ℕ → ℕ → ℕ
value_below v b = cond (ltb (hex_value b) v) (hex_value b) 256

-- the next digit comes into the table
pub digits-next : (values : List ℕ) (v : ℕ) → v < 16 → length values ≡ 256 → ((b : ℕ) → b < 256 → get_or values b 0 ≡ value_below v b) → (b : ℕ) → b < 256 → get_or (set values (digit_of v) v) b 0 ≡ value_below (v + 1) b
digits-next values v h long all b l = go (dec_lt (hex_value b) v) (dec_lt v (hex_value b))
  where
    other : (hex_value b ≡ v → ⊥) → get_or (set values (digit_of v) v) b 0 ≡ value_below v b
    other differs = get_or-set_other values (digit_of v) b v 0 (λ e. differs (rw e (digit_value v h))) ∙ all b l

    go : Dec (hex_value b < v) → Dec (v < hex_value b) → get_or (set values (digit_of v) v) b 0 ≡ value_below (v + 1) b
    go (yes p) q = other (λ e. omega (arith, e)) ∙ simp (lt-ltb (hex_value b) v p, lt-ltb (hex_value b) (v + 1) (omega arith))
    go (no n) (yes q) = other (λ e. omega (arith, e)) ∙ simp (le-ltb (hex_value b) v (omega arith), le-ltb (hex_value b) (v + 1) (omega arith))
    go (no n) (no m) =
        let is : hex_value b ≡ v = omega arith in
        rw (value_digit b v is h) (get_or-set_same values (digit_of v) v 0 (omega (arith, digit_small v h)) ∙ rw (digit_value v h) (simp (lt-ltb v (v + 1) (omega arith))))

-- the table is made: a value is at most 256
pub value_most : (values : List ℕ) → Digits values → (b : ℕ) → b < 256 → get_or values b 0 ≤ 256
value_most values made b h = rw (made.is b h) (go (dec_lt (hex_value b) 16))
  where
    go : Dec (hex_value b < 16) → value_below 16 b ≤ 256
    go (yes p) = simp (lt-ltb _ _ p) (omega arith)
    go (no n) = simp (le-ltb (hex_value b) 16 (omega arith)) (omega arith)

-- the sum of a pair's values decides
pub pair_sum : (a b v : ℕ) → v ≡ value_below 16 a * 16 + value_below 16 b → cond (leb v 255) (Some v) None ≡ cond (leb (pair_value a b) 255) (Some (pair_value a b)) None
unfolding pair_value
pair_sum a b v e = go (dec_lt (hex_value a) 16) (dec_lt (hex_value b) 16)
  where
    go : Dec (hex_value a < 16) → Dec (hex_value b < 16) → cond (leb v 255) (Some v) None ≡ cond (leb (pair_value a b) 255) (Some (pair_value a b)) None
    go (yes p) (yes q) =
        let sum : v ≡ hex_value a * 16 + hex_value b = simp (lt-ltb _ _ p, lt-ltb _ _ q) at e in
        simp (le-ltb 15 (hex_value a) (omega arith), le-ltb 15 (hex_value b) (omega arith), sum)
    go (yes p) (no m) =
        let sum : v ≡ hex_value a * 16 + 256 = simp (lt-ltb _ _ p, le-ltb (hex_value b) 16 (omega arith)) at e in
        simp (lt-leb v 255 (omega arith), le-ltb 15 (hex_value a) (omega arith), lt-ltb 15 (hex_value b) (omega arith))
    go (no n) q =
        let sum : v ≡ 4096 + value_below 16 b = simp (le-ltb (hex_value a) 16 (omega arith)) at e in
        simp (lt-leb v 255 (omega arith), lt-ltb 15 (hex_value a) (omega arith))

-- a number as a byte, where it is one
pub byte_or_none : {E : Type 0} (r : Result ℕ E) (v : ℕ) → OkIff r (v < 256) v → result_ok r ≡ cond (leb v 255) (Some v) None
byte_or_none (Ok x) v h = simp (h.1, le-leb v 255 (omega (arith, h.0)))
byte_or_none (Err e) v h = simp (lt-leb v 255 (omega (arith, h)))

pub some_byte : {x : ℕ} (v : ℕ) → Some x ≡ cond (leb v 255) (Some v) None → (x ≡ v) × (v ≤ 255)
some_byte {x} v = go (dec_lt 255 v)
  where
    go : Dec (255 < v) → Some x ≡ cond (leb v 255) (Some v) None → (x ≡ v) × (v ≤ 255)
    go (yes p) e = let n : Some x ≡ None = simp (lt-leb v 255 p) at e in cc
    go (no p) e = let s : Some x ≡ Some v = simp (le-leb v 255 (omega arith)) at e in (cc, omega arith)

pub no_byte : (v : ℕ) → ◌≡◌ {A = Option ℕ} None (cond (leb v 255) (Some v) None) → 255 < v
no_byte v = go (dec_lt 255 v)
  where
    go : Dec (255 < v) → ◌≡◌ {A = Option ℕ} None (cond (leb v 255) (Some v) None) → 255 < v
    go (yes p) e = p
    go (no p) e = let s : ◌≡◌ {A = Option ℕ} None (Some v) = simp (le-leb v 255 (omega arith)) at e in cc
