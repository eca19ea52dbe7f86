-- 33,252 bytes of an input are enough: a question line of more than 161 bytes is bad either way, and a text of more than 32,768 bytes is refused with 1 either way.
-- Assumes nothing.
use mathlib.Core.Path.{◌≡◌, refl, sym, ◌∙◌}
use mathlib.Core.Bool.{Bool, true, false, not, cond}
use mathlib.Core.List.{List, [], ◌∷◌}
use Prim.Native.Nat.{ℕ, zero, suc, min, ◌-◌, ◌≤◌, ◌<◌}
use native.Mathlib.Nat.{suc-sub-suc, sub-zero, zero-sub}
use native.Mathlib.Decide.{dec_le}
use native.Mathlib.Omega.{arith}
use borrow.Author.Tests.{lt-ltb}
use lib.Dec.{eqb}
use lib.ListN.{length, take, drop, length-take}
use lib.Seq.{take_all, take-nil, take-take}
use Rattle.lines.specs.Line.{line_length, frame_of}
use Rattle.lines.proofs.Lines.{first-length}
use Rattle.lines.proofs.Decoding.{too_long, decoded_bad, size_good}
use Rattle.ask.specs.Ask.{Asked, early}
use Rattle.question.specs.Question.{first, behind, fits, misses, asked_in, text_in, refusal_line, PrintsAfter, PrintsBehind, Printed, CheckedAs}
use Rattle.question.proofs.Reading.{fits_path}

-- ---- the first line of a text's beginning

drop-take : (n m : ℕ) (t : List ℕ) → drop n (take m t) ≡ take (m - n) (drop n t)
drop-take zero m t = rw sub-zero
drop-take (suc n) zero t = rw (zero-sub (suc n))
drop-take (suc n) (suc m) [] = sym (take-nil (suc m - suc n))
drop-take (suc n) (suc m) (b ∷ t) = rw suc-sub-suc (drop-take n m t)

line-take : (t : List ℕ) (m : ℕ) → line_length (take m t) ≡ min (line_length t) m
unfolding line_length
line-take [] m = rw (take-nil m) (omega arith)
line-take (b ∷ t) zero = omega arith
line-take (b ∷ t) (suc m) = go (eqb b 10) (line-take t m)
  where
    go : (lf : Bool) → line_length (take m t) ≡ min (line_length t) m → cond lf 1 (suc (line_length (take m t))) ≡ min (cond lf 1 (suc (line_length t))) (suc m)
    go true e = omega arith
    go false e = omega arith

-- a first line of more than 161 bytes has no frame
long_line : (t : List ℕ) → 161 < line_length t → first t ≡ frame_of []
long_line t h = decoded_bad (take (line_length t) t) (too_long (take (line_length t) t) (omega (arith, first-length t)))

first-take : (t : List ℕ) (m : ℕ) → 161 < m → first (take m t) ≡ first t
first-take t m h = go (dec_le (line_length t) m)
  where
    go : Dec (line_length t ≤ m) → first (take m t) ≡ first t
    go (yes l) =
        let same : line_length (take m t) ≡ line_length t = omega (arith, line-take t m) in
        rw (same, take-take (line_length t) m t l)
    go (no n) = long_line (take m t) (omega (arith, line-take t m)) ∙ sym (long_line t (omega arith))

behind-take : (t : List ℕ) (m : ℕ) → line_length t ≤ m → behind (take m t) ≡ take (m - line_length t) (behind t)
behind-take t m h =
    let same : line_length (take m t) ≡ line_length t = omega (arith, line-take t m) in
    rw same (drop-take (line_length t) m t)

-- a question line that fits is short
fits_short_line : (type shortest longest : ℕ) (t : List ℕ) → fits type shortest longest (first t) ≡ true → line_length t ≤ 161
fits_short_line type shortest longest t e =
    let p = fits_path type shortest longest t (first t) refl e in
    let g = size_good (take (line_length t) t) (first t) refl (λ z. omega arith) in
    omega (arith, g.sized.long, g.sized.most, first-length t)

-- ---- the question's lines, in the first m bytes

-- the line that is missed, by the tests of the three
abbrev missed : Bool → Bool → Bool → ℕ
missed x y w = cond (not x) 1 (cond (not y) 2 (cond (not w) 3 0))

module _ (input : List ℕ) (m : ℕ) (h : 33252 ≤ m) where
  first_one : first (take m input) ≡ first input
  first_one = first-take input m (omega arith)

  module _ (one : line_length input ≤ 161) where
    behind_one : behind (take m input) ≡ take (m - line_length input) (behind input)
    behind_one = behind-take input m (omega arith)

    first_two : first (behind (take m input)) ≡ first (behind input)
    first_two = rw behind_one (first-take (behind input) (m - line_length input) (omega arith))

    module _ (two : line_length (behind input) ≤ 161) where
      behind-two : behind (behind (take m input)) ≡ take (m - line_length input - line_length (behind input)) (behind (behind input))
      behind-two = rw behind_one (behind-take (behind input) (m - line_length input) (omega arith))

      first_three : first (behind (behind (take m input))) ≡ first (behind (behind input))
      first_three = rw behind-two (first-take (behind (behind input)) (m - line_length input - line_length (behind input)) (omega arith))

      text-take : line_length (behind (behind input)) ≤ 161 → text_in (take m input) ≡ take (m - line_length input - line_length (behind input) - line_length (behind (behind input))) (text_in input)
      text-take three = rw behind-two (behind-take (behind (behind input)) (m - line_length input - line_length (behind input)) (omega arith))

      asked-take : asked_in (take m input) ≡ asked_in input
      asked-take = rw (first_one, first_two, first_three)

  misses-take : misses (take m input) ≡ misses input
  unfolding misses
  misses-take = rw first_one (go (fits 0x60 9 9 (first input)) refl)
    where
      rest : (y : Bool) → fits 0x61 1 79 (first (behind input)) ≡ y → line_length input ≤ 161 →
          missed true y (fits 0x62 1 79 (first (behind (behind (take m input))))) ≡ missed true y (fits 0x62 1 79 (first (behind (behind input))))
      rest true e one = rw (first_three one (fits_short_line 0x61 1 79 (behind input) e))
      rest false e one = refl

      go : (x : Bool) → fits 0x60 9 9 (first input) ≡ x →
          missed x (fits 0x61 1 79 (first (behind (take m input)))) (fits 0x62 1 79 (first (behind (behind (take m input)))))
          ≡ missed x (fits 0x61 1 79 (first (behind input))) (fits 0x62 1 79 (first (behind (behind input))))
      go true e = let one = fits_short_line 0x60 9 9 input e in rw (first_two one) (rest (fits 0x61 1 79 (first (behind input))) refl one)
      go false e = refl

-- no line is missed: each is short
all_short : (input : List ℕ) → misses input ≡ 0 → (line_length input ≤ 161) × (line_length (behind input) ≤ 161) × (line_length (behind (behind input)) ≤ 161)
unfolding misses
all_short input z = go (fits 0x60 9 9 (first input)) (fits 0x61 1 79 (first (behind input))) (fits 0x62 1 79 (first (behind (behind input)))) refl refl refl z
  where
    go : (x y w : Bool) → fits 0x60 9 9 (first input) ≡ x → fits 0x61 1 79 (first (behind input)) ≡ y → fits 0x62 1 79 (first (behind (behind input))) ≡ w
        → missed x y w ≡ 0 → (line_length input ≤ 161) × (line_length (behind input) ≤ 161) × (line_length (behind (behind input)) ≤ 161)
    go false y w p q r e = absurd (omega (arith, e))
    go true false w p q r e = absurd (omega (arith, e))
    go true true false p q r e = absurd (omega (arith, e))
    go true true true p q r e = (fits_short_line 0x60 9 9 input p, fits_short_line 0x61 1 79 (behind input) q, fits_short_line 0x62 1 79 (behind (behind input)) r)

-- ---- the whole

early_long : (text store work : ℕ) (a : Asked) → 32768 < text → early text store work a ≡ 1
unfolding early
early_long text store work a h = rw (lt-ltb 32768 text h)

module _ (room : ℕ) (out : List ℕ) where
  -- a text's beginning that is itself too long
  text_enough : (text : List ℕ) (a : Asked) (k : ℕ) → 32768 < k → PrintsAfter room (early (length (take k text)) 16384 24576 a) (take k text) a out
      → PrintsAfter room (early (length text) 16384 24576 a) text a out
  text_enough text a k h p = go (dec_le (length text) k)
    where
      go : Dec (length text ≤ k) → PrintsAfter room (early (length text) 16384 24576 a) text a out
      go (yes l) = rw (take_all k text l) at p
      go (no n) =
          let one : out ≡ refusal_line 1 0 = rw (early_long (length (take k text)) 16384 24576 a (omega (arith, length-take k text))) at p in
          rw (early_long (length text) 16384 24576 a (omega arith)) one

  reads_more : (input : List ℕ) (m : ℕ) → 33252 ≤ m → Printed room (take m input) out → Printed room input out
  reads_more input m h p = go (misses input) refl (rw (misses-take input m h) at p)
    where
      go : (n : ℕ) → misses input ≡ n → PrintsBehind room n (take m input) out → PrintsBehind room n input out
      go zero e q =
          let s = all_short input e in
          text_enough (text_in input) (asked_in input) (m - line_length input - line_length (behind input) - line_length (behind (behind input))) (omega arith)
          (rw (text-take input m h s.0 s.1 s.2, asked-take input m h s.0 s.1) at q)
      go (suc n) e q = q

  -- three question lines of 161 bytes, and one byte more than the longest text
  pub reads_enough : (input : List ℕ) → Printed room (take 33252 input) out → Printed room input out
  reads_enough input p = reads_more input 33252 (omega arith) p

-- so a check of those bytes is a check of the whole input
pub checked_enough : (input : List ℕ) {output : List ℕ} {size : ℕ} {left : List ℕ} → CheckedAs (take 33252 input) output size left → CheckedAs input output size left
checked_enough input {output} c = record { out = c.out; prints = reads_enough (length output) c.out input c.prints; tells = c.tells; leaves = c.leaves }
