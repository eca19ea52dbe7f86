-- An answer read out of its bytes: the first line, and as many step lines as it says (document 01, "What is asked and what comes back").
-- Assumes nothing.
use Rattle.std.specs.Prelude.{cond, List, [], ◌∷◌, ◌++◌, ℕ, zero, suc, length}
use Rattle.lines.specs.declared.Frame.{Frame}
use Rattle.policy.specs.Frames.{byte_at, number2, number4, type_of, is_type}
use Rattle.records.specs.declared.Step.{Step}
use Rattle.records.specs.Record.{step_lines, summary}
use Rattle.replay.specs.Replay.{step_of}
use Rattle.question.specs.Question.{first, behind}

-- What an answer says.
pub record Said : Type 0 where
  -- 0 never, 1 reached
  pub verdict : ℕ
  -- states opened
  pub opened : ℕ
  pub steps : List Step

-- The lines of it.
abbrev pub answer_lines : Said → List ℕ
answer_lines x = summary x.verdict x.opened (length x.steps) ++ step_lines x.steps

-- The record that a step's line spells: `81` special role or ff; `82` UID; `83` GID; `84` object path, executed path, UID, GID after it.
unfoldable pub step_said : Frame → Step
step_said f =
    cond (is_type 0x81 f) (step_of 0x81 (byte_at f 1) 0 0 0 0)
    (cond (is_type 0x82 f) (step_of 0x82 0 (number4 f 1) 0 0 0)
    (cond (is_type 0x83 f) (step_of 0x83 0 0 (number4 f 1) 0 0)
    (step_of (type_of f) 0 (number4 f 3) (number4 f 7) (byte_at f 1) (byte_at f 2))))

-- The records that this many lines spell.
unfoldable pub steps_said : ℕ → List ℕ → List Step
steps_said zero text = []
steps_said (suc n) text = step_said (first text) ∷ steps_said n (behind text)

-- The answer that stands in front of these bytes: the verdict is the first line's third and fourth digit, the states opened its next four; the last four say how many step lines follow.
abbrev pub said_in : List ℕ → Said
said_in bytes = record { verdict = byte_at (first bytes) 1; opened = number2 (first bytes) 2; steps = steps_said (number2 (first bytes) 4) (behind bytes) }
