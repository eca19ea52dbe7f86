-- The ask: what it answers, and what it leaves in each lent area (document 01, "What is asked and what comes back").
-- Assumes nothing.
use Rattle.std.specs.Prelude.{◌≡◌, Bool, false, not, cond, ◌&&◌, ◌||◌, List, ◌++◌, ℕ, zero, suc, min, ◌+◌, ◌*◌, ◌/◌, eqb, leb, ltb, length, drop, Result, Ok, Err}
use Rattle.paths.specs.Path.{good_path}
use Rattle.lines.specs.Line.{zeros}
use Rattle.gran.specs.Policy.{Policy, no_id}
use Rattle.gran.specs.Real
use Rattle.gran.specs.Abstract.{Act, abstract}
use Rattle.gran.specs.Reach.{Question}
use Rattle.gran.specs.Run.{Shown, Unreached}
use Rattle.store.specs.Layout.{layout}
use Rattle.records.specs.Record.{records_of, step_lines, summary}
use Rattle.policy.specs.Load.{Reading, refused, accepted, reading}
use Rattle.gran.specs.declared.Asked as code
use Rattle.ask.specs.declared.Unanswered.{Unanswered}
use Rattle.ask.specs.declared.Unanswered.TheVariants.{Refused as refused_for, Short as short_by}

-- What is asked about a policy.
pub record Asked : Type 0 where
  pub uid : ℕ
  pub gid : ℕ
  pub start : List ℕ
  pub target : List ℕ
  pub kind : ℕ

-- What a call is given to ask.
abbrev pub asked_of : code.Asked → Asked
asked_of a = record { uid = a.uid; gid = a.gid; start = a.start.now; target = a.target.now; kind = a.kind }

-- What an ask answers.
pub data Answer : Type 0 where
  -- The answer's length.
  Answered : ℕ → Answer
  -- A refusal from 1 to 16, and its line.
  Refused : ℕ → ℕ → Answer
  -- The answer does not fit the room: 17, with the bytes needed.
  Short : ℕ → Answer

-- What a call returns says that: a law says that it loses nothing.
abbrev pub answer_of : Result ℕ Unanswered → Answer
answer_of (Ok size) = Answered size
answer_of (Err (refused_for number line)) = Refused number line
answer_of (Err (short_by needed)) = Short needed

-- ---- 01's number and value for each case of the answer

-- 0 for an accepted ask, else the refusal.
abbrev pub number_of : Answer → ℕ
number_of (Answered size) = 0
number_of (Refused number line) = number
number_of (Short needed) = 17

-- The answer's length; the refusal's line, 0 for none; the bytes needed.
abbrev pub value_of : Answer → ℕ
value_of (Answered size) = size
value_of (Refused number line) = line
value_of (Short needed) = needed

-- Both as one number for C: the number × 2^32, and the value, up to 2^32 - 1.
unfoldable pub coded : Answer → ℕ
coded answer = number_of answer * 4294967296 + min (value_of answer) 4294967295

-- ---- refusals 1 to 6

-- The start and the target are paths of at most 64 bytes.
abbrev pub good_paths : Asked → Bool
good_paths a = good_path false a.start && good_path false a.target

-- The lowest of 1 to 6, over the lengths of text, store and work area, or 0.
unfoldable pub early : ℕ → ℕ → ℕ → Asked → ℕ
early text store work a =
    cond (ltb 32768 text) 1
    (cond (ltb store 16384) 2
    (cond (ltb work 24576) 3
    (cond (not (good_paths a)) 4
    (cond (eqb a.uid no_id || eqb a.gid no_id) 5
    (cond (ltb 1 a.kind) 6 0)))))

-- ---- the answer of an accepted policy

abbrev pub start_of : Asked → Real.State
start_of a = Real.start a.uid a.gid a.start

abbrev pub question_of : Asked → Question
question_of a = record { kind = a.kind; target = a.target }

-- The lines of the answer: never, with all states reached; or reached, with the states opened before the shown run and its steps.
pub data Lines (P : Policy) (a : Asked) : List ℕ → Type 0 where
  never : (opened : ℕ) → Unreached P (question_of a) (abstract P (start_of a)) opened → Lines P a (summary 0 opened 0)
  reached : (zs : List Act) (opened : ℕ) → Shown P (question_of a) (abstract P (start_of a)) zs opened
      → Lines P a (summary 1 opened (length zs) ++ step_lines (records_of P (start_of a) zs))

-- ---- the whole

-- The room gets the answer in front and keeps the rest; one that is too short keeps all.
unfoldable pub room_with : List ℕ → List ℕ → List ℕ
room_with lines room = cond (leb (length lines) (length room)) (lines ++ drop (length lines) room) room

-- 17 with the bytes needed where the answer doesn't fit the room.
unfoldable pub answer_with : List ℕ → List ℕ → Answer
answer_with lines room = cond (leb (length lines) (length room)) (Answered (length lines)) (Short (length lines))

-- What is lent, before and after.
pub record Areas : Type 0 where
  pub store : List ℕ
  pub work : List ℕ
  pub room : List ℕ

-- An answer, and what each lent area holds after it.
pub record Outcome : Type 0 where
  pub answer : Answer
  pub left : Areas

-- 1 to 6 change nothing lent.
abbrev pub unchanged : ℕ → Areas → Outcome
unchanged n lent = record { answer = Refused n 0; left = lent }

-- 7 to 16 zero the store's first 16,384 bytes, and work area and room keep their contents.
abbrev pub cleared : ℕ → ℕ → Areas → Outcome
cleared n line lent = record {
  answer = Refused n line;
  left = record { store = zeros 16384 ++ drop 16384 lent.store; work = lent.work; room = lent.room };
}

-- An accepted ask, and 17, leave the loaded policy in the store and zero in the work area's first places: 24,576 numbers, or 49,152 bytes.
abbrev pub answering : ℕ → Policy → List ℕ → Areas → Outcome
answering places P lines lent = record {
  answer = answer_with lines lent.room;
  left = record {
    store = layout P ++ drop 16384 lent.store;
    work = zeros places ++ drop places lent.work;
    room = room_with lines lent.room;
  };
}

-- What a text that passed 1 to 6 may come to.
abbrev pub Comes : ℕ → Reading → Asked → Areas → Outcome → Type 0
Comes places (refused n line) a lent o = o ≡ cleared n line lent
Comes places (accepted P) a lent o = (lines : List ℕ) × Lines P a lines × (o ≡ answering places P lines lent)

-- What an ask may come to: a law says that there is one outcome.
abbrev pub ComesTo : ℕ → ℕ → List ℕ → Asked → Areas → Outcome → Type 0
ComesTo places zero text a lent o = Comes places (reading text) a lent o
ComesTo places (suc n) text a lent o = o ≡ unchanged (suc n) lent

-- The statement of the ask.
abbrev pub AskedAs : List ℕ → Asked → Areas → Outcome → Type 0
AskedAs text a lent o = ComesTo 24576 (early (length text) (length lent.store) (length lent.work) a) text a lent o

-- ---- by 01's number and value

-- What the number and the value of a text's answer may be, with a room of this length: the refusal and its line; 0 and the answer's length, or 17 and as many bytes needed.
abbrev pub NumberAndValueOf : Reading → Asked → ℕ → ℕ → ℕ → Type 0
NumberAndValueOf (refused n line) a room number value = (number ≡ n) × (value ≡ line)
NumberAndValueOf (accepted P) a room number value = (lines : List ℕ) × Lines P a lines × (number ≡ cond (leb (length lines) room) 0 17) × (value ≡ length lines)

-- The same after 1 to 6, which have no line.
abbrev pub NumberAndValue : ℕ → List ℕ → Asked → ℕ → ℕ → ℕ → Type 0
NumberAndValue zero text a room number value = NumberAndValueOf (reading text) a room number value
NumberAndValue (suc n) text a room number value = (number ≡ suc n) × (value ≡ 0)

-- ---- for C

-- The same with the work area lent as bytes, two a number.
abbrev pub AskedInBytes : List ℕ → Asked → Areas → Outcome → Type 0
AskedInBytes text a lent o = ComesTo 49152 (early (length text) (length lent.store) (length lent.work / 2) a) text a lent o

-- The statement of the ask for C: the answer as one number, and what is left.
abbrev pub CodedAs : List ℕ → Asked → Areas → ℕ → Areas → Type 0
CodedAs text a lent code left = (answer : Answer) × (code ≡ coded answer) × AskedInBytes text a lent (record { answer = answer; left = left })
