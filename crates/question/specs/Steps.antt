-- What the steps between an input and its output come to.
-- Assumes nothing.
use Rattle.std.specs.Prelude.{◌≡◌, true, false, cond, List, ◌∷◌, ℕ, ◌≤◌, leb, length, Option, Some, None, Result, Ok, Err}
use Rattle.lines.specs.declared.Frame.{Frame}
use Rattle.lines.specs.Line.{EncodedAs}
use Rattle.store.specs.Layout.{two}
use Rattle.policy.specs.Frames.{byte_at, number4, path_from}
use Rattle.ask.specs.Ask.{Answer, Answered, Refused, Short, Asked, early, room_with}
use Rattle.question.specs.declared.Line.{Line}
use Rattle.question.specs.declared.Unasked.{Unasked}
use Rattle.question.specs.declared.Unasked.TheVariants.{Account, Start, Target}
use Rattle.question.specs.Question.{first, behind, fits, misses, asked_in, text_in, PrintsAfter}

-- A text's first line: its frame, and what follows it.
pub record FirstLine (text : List ℕ) (line : Line) : Type 0 where
  pub frame : line.frame ≡ first text
  pub rest : line.rest.now ≡ behind text

-- That line where its frame fits, else none.
abbrev pub LineAs : ℕ → ℕ → ℕ → List ℕ → Option Line → Type 0
LineAs type shortest longest text (Some line) = (fits type shortest longest (first text) ≡ true) × FirstLine text line
LineAs type shortest longest text None = fits type shortest longest (first text) ≡ false

-- A frame's path lies inside it.
pub record HasPath (f : Frame) : Type 0 where
  pub some : 1 ≤ f.size
  pub most : f.size ≤ 80
  pub whole : length f.bytes ≡ 80

-- What three frames ask.
abbrev pub asked_by : Frame → Frame → Frame → Asked
asked_by question start target = record {
  uid = number4 question 2;
  gid = number4 question 6;
  start = path_from start;
  target = path_from target;
  kind = byte_at question 1;
}

-- The bytes of a refusal's line.
abbrev pub refusal : ℕ → ℕ → List ℕ
refusal number line = 0x8f ∷ number ∷ two line

-- An answer stands in front of the output already; a refusal's line goes there.
abbrev pub ToldAs : Answer → List ℕ → ℕ → List ℕ → Type 0
ToldAs (Answered n) output size left = (size ≡ n) × (left ≡ output)
ToldAs (Refused number line) output size left = EncodedAs (refusal number line) output size left
ToldAs (Short needed) output size left = EncodedAs (refusal 17 0) output size left

-- What is said stands in front of the output, and the rest is kept; nothing is written where even that doesn't fit.
pub record PutAs (Says : List ℕ → Type 0) (output : List ℕ) (size : ℕ) (left : List ℕ) : Type 0 where
  pub out : List ℕ
  pub says : Says out
  pub tells : size ≡ cond (leb (length out) (length output)) (length out) 0
  pub leaves : left ≡ room_with out output

-- The same of what is printed for this text and what is asked of it.
abbrev pub RespondedAs : List ℕ → Asked → List ℕ → ℕ → List ℕ → Type 0
RespondedAs text a output size left = PutAs (PrintsAfter (length output) (early (length text) 16384 24576 a) text a) output size left

-- The place of a question line among the three.
abbrev pub line_number : Unasked → ℕ
line_number Account = 1
line_number Start = 2
line_number Target = 3

-- What the three lines ask of the text behind them is answered; or one of them is missing or bad, and nothing is written yet.
abbrev pub AnsweredAs : List ℕ → List ℕ → Result ℕ Unasked → List ℕ → Type 0
AnsweredAs input output (Ok size) left = (misses input ≡ 0) × RespondedAs (text_in input) (asked_in input) output size left
AnsweredAs input output (Err unasked) left = (misses input ≡ line_number unasked) × (left ≡ output)
