-- pathcheck: three question lines, the policy behind them, and what is printed (document 01, "One whole listing").
-- Assumes nothing.
use Rattle.std.specs.Prelude.{◌≡◌, Bool, not, cond, ◌&&◌, List, ◌∷◌, ℕ, zero, suc, ◌+◌, eqb, leb, length, drop}
use Rattle.lines.specs.declared.Frame.{Frame}
use Rattle.lines.specs.Line.{line_length, first_line, decoded, line_of}
use Rattle.store.specs.Layout.{two}
use Rattle.policy.specs.Frames.{byte_at, number4, type_of, path_from}
use Rattle.policy.specs.Load.{Reading, refused, accepted, reading}
use Rattle.ask.specs.Ask.{Asked, early, Lines, room_with}

-- ---- the question

-- The frame of a text's first line; one of no bytes where the line is missing or of wrong form.
abbrev pub first : List ℕ → Frame
first text = decoded (first_line text)

-- What follows a text's first line.
abbrev pub behind : List ℕ → List ℕ
behind text = drop (line_length text) text

-- A frame of this type, with a payload of these lengths.
unfoldable pub fits : ℕ → ℕ → ℕ → Frame → Bool
fits type shortest longest f = eqb (type_of f) type && (leb (shortest + 1) f.size && leb f.size (longest + 1))

-- The first of `60` kind UID GID, `61` start and `62` target (1 to 79 bytes each) that is missing or of wrong line form, type or length, from 1; 0 for none.
unfoldable pub misses : List ℕ → ℕ
misses input =
    cond (not (fits 0x60 9 9 (first input))) 1
    (cond (not (fits 0x61 1 79 (first (behind input)))) 2
    (cond (not (fits 0x62 1 79 (first (behind (behind input))))) 3 0))

-- What the three lines ask.
abbrev pub asked_in : List ℕ → Asked
asked_in input = record {
  uid = number4 (first input) 2;
  gid = number4 (first input) 6;
  start = path_from (first (behind input));
  target = path_from (first (behind (behind input)));
  kind = byte_at (first input) 1;
}

-- The policy, whose lines count from 1.
abbrev pub text_in : List ℕ → List ℕ
text_in input = behind (behind (behind input))

-- ---- what is printed

-- A refusal is printed `8f`, number, line (2).
unfoldable pub refusal_line : ℕ → ℕ → List ℕ
refusal_line number line = line_of (0x8f ∷ number ∷ two line)

-- What a text that passed 1 to 6 prints, with a room of this length: the refusal, the answer's lines, or 17 where they don't fit.
abbrev pub Prints : ℕ → Reading → Asked → List ℕ → Type 0
Prints room (refused n line) a out = out ≡ refusal_line n line
Prints room (accepted P) a out = (lines : List ℕ) × Lines P a lines × (out ≡ cond (leb (length lines) room) lines (refusal_line 17 0))

-- 1 to 6 come first: the store and the work area are as long as 01 asks.
abbrev pub PrintsAfter : ℕ → ℕ → List ℕ → Asked → List ℕ → Type 0
PrintsAfter room zero text a out = Prints room (reading text) a out
PrintsAfter room (suc n) text a out = out ≡ refusal_line (suc n) 0

-- 18 comes before all others.
abbrev pub PrintsBehind : ℕ → ℕ → List ℕ → List ℕ → Type 0
PrintsBehind room zero input out = PrintsAfter room (early (length (text_in input)) 16384 24576 (asked_in input)) (text_in input) (asked_in input) out
PrintsBehind room (suc n) input out = out ≡ refusal_line 18 (suc n)

-- What is printed for an input, with a room of this length: a law says that there is one such.
abbrev pub Printed : ℕ → List ℕ → List ℕ → Type 0
Printed room input out = PrintsBehind room (misses input) input out

-- The statement of the check: what is printed stands in front of the output, and the rest is kept; nothing is written where even that doesn't fit.
pub record CheckedAs (input output : List ℕ) (size : ℕ) (left : List ℕ) : Type 0 where
  pub out : List ℕ
  pub prints : Printed (length output) input out
  pub tells : size ≡ cond (leb (length out) (length output)) (length out) 0
  pub leaves : left ≡ room_with out output
