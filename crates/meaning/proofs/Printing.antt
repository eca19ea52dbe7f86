-- What is printed, where it begins with 80: the lines of an answer, of a text that is accepted; and the ids of a question line.
-- Assumes nothing.
use mathlib.Core.Path.{◌≡◌, refl, sym, ap, subst, ◌∙◌}
use mathlib.Core.Logic.{◌⊎◌, inl, inr, ⊎_elim}
use mathlib.Core.Bool.{Bool, true, false, cond}
use mathlib.Core.List.{List, [], ◌∷◌, ◌++◌, append-nil}
use Prim.Native.Nat.{ℕ, zero, suc, ◌-◌, ◌<◌}
use native.Mathlib.Omega.{arith}
use lib.Dec.{leb}
use lib.ListN.{length, get_or, take, drop}
use lib.Seq.{take-append_seam}
use Rattle.lines.specs.Line.{zeros, line_length, first_line, good_line, bytes_of, decoded, frame_of, line_of, hex_of, digit_of, hex_value, pair_value}
use Rattle.lines.proofs.Rooms.{get_or-filled, get_or-zeros}
use Rattle.lines.proofs.Decoding.{bytes_small}
use Rattle.store.specs.Layout.{two}
use Rattle.gran.specs.Policy.{Policy}
use Rattle.policy.specs.Frames.{number4, type_of}
use Rattle.policy.specs.Load.{Reading, refused, accepted, reading}
use Rattle.ask.specs.Ask.{Asked, early, Lines, room_with}
use Rattle.question.specs.Question.{first, misses, asked_in, text_in, refusal_line, Prints, PrintsAfter, PrintsBehind, Printed, CheckedAs}
use Rattle.meaning.specs.Means.{FourByteIds}
use Rattle.meaning.proofs.Back.{line_ends}

-- ---- a refusal's line

-- its first byte is 8f, where it is a line at all
refusal_other : (number line : ℕ) (rest : List ℕ) → type_of (first (refusal_line number line ++ rest)) ≡ 0x80 → ⊥
unfolding decoded frame_of refusal_line line_of hex_of bytes_of digit_of pair_value hex_value two
refusal_other number line rest e =
    let bytes : List ℕ = 0x8f ∷ number ∷ two line in
    go (good_line (line_of bytes)) (rw (line_ends bytes rest, take-append_seam (line_of bytes) rest) at e)
  where
    go : (good : Bool) → get_or (cond good (bytes_of (line_of (0x8f ∷ number ∷ two line))) [] ++ zeros (80 - length (cond good (bytes_of (line_of (0x8f ∷ number ∷ two line))) []))) 0 0 ≡ 0x80 → ⊥
    go true e = omega (arith, e)
    go false e = omega (arith, rw (get_or-zeros 80 0) at e)

-- ---- the ids of a question line

frame_small : (line : List ℕ) (i : ℕ) → get_or (decoded line).bytes i 0 < 256
unfolding decoded frame_of
frame_small line i = go (good_line line) refl
  where
    go : (good : Bool) → good_line line ≡ good → get_or (cond good (bytes_of line) [] ++ zeros (80 - length (cond good (bytes_of line) []))) i 0 < 256
    go true g = rw (get_or-filled (bytes_of line) _ i) (bytes_small line g i)
    go false g = rw (get_or-zeros 80 i) (omega arith)

pub asked_ids : (input : List ℕ) → FourByteIds (asked_in input)
unfolding number4
asked_ids input =
    let b = frame_small (first_line input) in
    record { uid = omega (arith, b 2, b 3, b 4, b 5); gid = omega (arith, b 6, b 7, b 8, b 9) }

-- ---- what is printed

-- For an accepted text: 17's line, or the lines of an answer.
pub prints_cases : (room : ℕ) (P : Policy) (a : Asked) (out : List ℕ) → Prints room (accepted P) a out → (out ≡ refusal_line 17 0) ⊎ Lines P a out
prints_cases room P a out (lines, right, e) = go (leb (length lines) room) e
  where
    go : (fits : Bool) → out ≡ cond fits lines (refusal_line 17 0) → (out ≡ refusal_line 17 0) ⊎ Lines P a out
    go true e = inr (subst (Lines P a) (sym e) right)
    go false e = inl e

-- The text gives a policy, and these are the lines of an answer.
abbrev pub Answering : List ℕ → Asked → List ℕ → Type 0
Answering text a out = (P : Policy) × (reading text ≡ accepted P) × Lines P a out

module _ (room : ℕ) (input out : List ℕ) (begins : type_of (first out) ≡ 0x80) where
  no-refusal : (number line : ℕ) → out ≡ refusal_line number line → ⊥
  no-refusal number line e = refusal_other number line [] (ap (λ (o : List ℕ). type_of (first o)) (append-nil (refusal_line number line) ∙ sym e) ∙ begins)

  module _ (text : List ℕ) (a : Asked) where
    prints_lines : (r : Reading) → reading text ≡ r → Prints room r a out → Answering text a out
    prints_lines (refused n line) read e = absurd (no-refusal n line e)
    prints_lines (accepted P) read p = ⊎_elim (λ e. absurd (no-refusal 17 0 e)) (λ l. (P, read, l)) (prints_cases room P a out p)

    after_lines : (n : ℕ) → PrintsAfter room n text a out → Answering text a out
    after_lines zero p = prints_lines (reading text) refl p
    after_lines (suc n) p = absurd (no-refusal (suc n) 0 p)

  behind_lines : (n : ℕ) → PrintsBehind room n input out → Answering (text_in input) (asked_in input) out
  behind_lines zero p = after_lines (text_in input) (asked_in input) (early (length (text_in input)) 16384 24576 (asked_in input)) p
  behind_lines (suc n) p = absurd (no-refusal 18 (suc n) p)

  pub printed_lines : Printed room input out → Answering (text_in input) (asked_in input) out
  printed_lines p = behind_lines (misses input) p

-- nothing begins with nothing
nothing-begins : type_of (first []) ≡ 0x80 → ⊥
unfolding line_length decoded good_line frame_of zeros
nothing-begins e = omega (arith, e)

-- What a check says it wrote is what is printed.
pub checked_printed : {input output : List ℕ} {size : ℕ} {left : List ℕ} → CheckedAs input output size left → type_of (first (take size left)) ≡ 0x80 → Printed (length output) input (take size left)
unfolding room_with
checked_printed {input} {output} {size} {left} c begins = go (leb (length c.out) (length output)) c.tells c.leaves
  where
    go : (fits : Bool) → size ≡ cond fits (length c.out) 0 → left ≡ cond fits (c.out ++ drop (length c.out) output) output → Printed (length output) input (take size left)
    go true s l = rw (s, l, take-append_seam c.out (drop (length c.out) output)) c.prints
    go false s l = absurd (nothing-begins (rw s at begins))
