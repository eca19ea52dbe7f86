-- The steps of a load: a frame added, a line read, all lines read. No caller of `load` has to believe it: `LoadedAs` says what comes back.
-- Assumes nothing.
use Rattle.std.specs.Prelude.{◌≡◌, ⊤, cond, List, ◌++◌, ℕ, ◌+◌, ◌≤◌, ◌<◌, length, drop, Result, IfOk, IfErr, OnOk, OnErr}
use Rattle.lines.specs.declared.Frame.{Frame}
use Rattle.lines.specs.Line.{Bytes, zeros, line_length, first_line, lines_of, decoded}
use Rattle.gran.specs.Policy.{Policy}
use Rattle.store.specs.declared.Tally.{Tally}
use Rattle.store.specs.Layout.{layout}
use Rattle.store.specs.Held.{Bounded, Holds, role_tally, path_tally, move_tally, entry_tally, object_tally, uid_tally, gid_tally}
use Rattle.policy.specs.Frames.{byte_at, type_of, is_type, path_from}
use Rattle.policy.specs.declared.refusal.Refusal.{Refusal}
use Rattle.policy.specs.declared.refusal.Refused.{Refused}
use Rattle.policy.specs.Refused.{refusal_number, number_in}
use Rattle.policy.specs.Load.{Load, start, add, after, frame_refusal, refusal_of, going, run, refused, accepted, reading}
use Rattle.policy.specs.Sound.{Sound, least_text}
use Rattle.judge.specs.Noted.{Noted}
use Rattle.load.specs.declared.Step.{Step}

-- ---- one frame

-- The tallies after it.
unfoldable pub next_tally : Tally → Frame → Tally
next_tally t f =
    cond (is_type 0x10 f) (role_tally t (byte_at f 1))
    (cond (is_type 0x20 f) (path_tally t (length (path_from f)))
    (cond (is_type 0x30 f) (move_tally t)
    (cond (is_type 0x40 f) (entry_tally t (byte_at f 4) (byte_at f 5))
    (cond (is_type 0x41 f) (object_tally t)
    (cond (is_type 0x42 f) (uid_tally t)
    (cond (is_type 0x43 f) (gid_tally t) t))))))

-- There is room for what it says, and an object or id has its entry.
pub record Ready (t : Tally) (f : Frame) : Type 0 where
  pub some : 1 ≤ f.size
  pub most : f.size ≤ length f.bytes
  pub bounded : Bounded (next_tally t f)
  pub grouped : 0x40 < type_of f → type_of f ≤ 0x43 → 0 < t.entries

-- It was added: a load that was held and did not refuse it is held with it.
pub record FrameAdded (f : Frame) (t : Tally) (before : List ℕ) (r : Tally) (left : List ℕ) : Type 0 where
  pub tally : r ≡ next_tally t f
  pub kept : length left ≡ length before
  pub held : (s : Load) (rest : List ℕ) → Sound s → Bytes f.bytes → frame_refusal s f ≡ 0 → Holds s.policy rest t before → Holds (add s.policy f) rest r left

-- ---- one line

-- A load lies in the tallies, the last type, the count of lines and the bytes, and its paths in the marks.
pub record Lies (s : Load) (rest : List ℕ) (t : Tally) (last lines : ℕ) (bytes marks : List ℕ) : Type 0 where
  pub held : Holds s.policy rest t bytes
  pub noted : Noted s.policy marks
  pub sound : Sound s
  pub last_is : last ≡ s.last
  pub lines_is : lines ≡ s.lines

-- Some load does, and the text that is left is short enough for the room.
pub record CanRead (t : Tally) (last lines : ℕ) (text bytes marks : List ℕ) : Type 0 where
  pub load : Load
  pub rest : List ℕ
  pub lies : Lies load rest t last lines bytes marks
  pub bounded : Bounded t
  pub short : least_text load.policy + length text ≤ 32768

-- The first line passed: its length, and the load after it lies there.
pub record LinePassed (t : Tally) (last lines : ℕ) (text before marks : List ℕ) (step : Step) (left noted : List ℕ) : Type 0 where
  pub span : step.size ≡ line_length text
  pub bounded : Bounded step.tally
  pub lies : (s : Load) (rest : List ℕ) → Lies s rest t last lines before marks → Lies (after s (decoded (first_line text))) rest step.tally step.last (lines + 1) left noted

-- The first line was read: it passed, or its refusal, with which nothing changed.
pub record LineRead (t : Tally) (last lines : ℕ) (text before marks : List ℕ) (read : Result Step Refusal) (left noted : List ℕ) : Type 0 where
  pub kept : length left ≡ length before
  pub lowest : (s : Load) (rest : List ℕ) → Lies s rest t last lines before marks → number_in read ≡ refusal_of s (first_line text)
  pub passed : IfOk read (λ step. LinePassed t last lines text before marks step left noted)
  pub same : OnErr read (left ≡ before)

-- ---- all lines

-- The first 16,384 bytes are 0.
abbrev pub Cleared : List ℕ → Type 0
Cleared bytes = bytes ≡ zeros 16384 ++ drop 16384 bytes

-- All lines passed, the last of them 7f, and the load after them lies in the tallies and the bytes.
pub record AllPassed (text rest : List ℕ) (t : Tally) (bytes : List ℕ) : Type 0 where
  pub load : Load
  pub sound : Sound load
  pub held : Holds load.policy rest t bytes
  pub bounded : Bounded t
  pub ended : load.last ≡ 0x7f
  pub passed : run (going start) (lines_of text) ≡ going load

-- All lines were read: all passed, or the first refusal and its line, or 14. What lies past the first 16,384 bytes is kept.
pub record LinesRead (text before : List ℕ) (read : Result Tally Refused) (left : List ℕ) : Type 0 where
  pub kept : length left ≡ length before
  pub past : drop 16384 left ≡ drop 16384 before
  pub whole : IfOk read (λ t. AllPassed text (drop 16384 before) t left)
  pub stopped : IfErr read (λ r. reading text ≡ refused (refusal_number r.refusal) r.line)

-- All lines were read, and what is tested after them: the policy's layout; or a refusal and its line, with which what lies past the first 16,384 bytes is kept.
pub record Filled (text before : List ℕ) (read : Result ⊤ Refused) (left : List ℕ) : Type 0 where
  pub kept : length left ≡ length before
  pub past : OnErr read (drop 16384 left ≡ drop 16384 before)
  pub whole : OnOk read ((P : Policy) × (reading text ≡ accepted P) × (left ≡ layout P ++ drop 16384 before))
  pub stopped : IfErr read (λ r. reading text ≡ refused (refusal_number r.refusal) r.line)
