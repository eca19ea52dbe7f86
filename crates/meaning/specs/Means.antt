-- What an answer means for real steps, on any file systems (document 01, demand 3).
-- Assumes nothing.
use Rattle.std.specs.Prelude.{◌≡◌, ◌⊎◌, List, ◌++◌, ℕ, ◌≤◌, ◌<◌, length}
use Rattle.std.proofs.Math.Bool.{So}
use Rattle.gran.specs.Policy.{Policy}
use Rattle.gran.specs.Real.{run, last, access, Files, On}
use Rattle.gran.specs.Reach.{Reached, Never}
use Rattle.records.specs.declared.Step.{Step}
use Rattle.records.specs.Record.{step_lines, summary}
use Rattle.policy.specs.Load.{accepted, reading}
use Rattle.ask.specs.Ask.{Asked, start_of, question_of}
use Rattle.replay.specs.declared.Verdict.TheVariants.{Holds}
use Rattle.replay.specs.Replay.{acts_said, replay_of}
use Rattle.meaning.specs.Read.{said_in}

-- No run of real steps, of any length, comes to the access, on any file systems.
abbrev pub NoRun : Policy → Asked → Type 1
NoRun P a = (fs : Files) → Never (Reached P (question_of a) (start_of a) fs)

-- A row of records is a recipe: the real steps that it says run from the start to the access,
-- on every file system that has the named files, and no run with fewer steps gets there on any.
pub record Recipe (P : Policy) (a : Asked) (rows : List Step) : Type 1 where
  -- a replay of the records says so too, and names the last file
  pub file : ℕ
  pub holds : replay_of P (question_of a) a.uid a.gid a.start rows ≡ Holds file
  pub runs : So (run P (start_of a) (acts_said P rows))
  pub granted : So (access P a.kind a.target (last (start_of a) (acts_said P rows)))
  pub reached : (fs : Files) → On fs (acts_said P rows) → Reached P (question_of a) (start_of a) fs (length rows)
  pub fewest : (fs : Files) (m : ℕ) → m < length rows → Reached P (question_of a) (start_of a) fs m → ⊥

-- Lines that say never, where no run gets there; or lines that spell a recipe. Both counts are small enough for their two bytes.
pub data Means (P : Policy) (a : Asked) : List ℕ → Type 1 where
  never : (opened : ℕ) → opened ≤ 8192 → NoRun P a → Means P a (summary 0 opened 0)
  reached : (rows : List Step) (opened : ℕ) → opened ≤ 8192 → length rows < 8192 → Recipe P a rows → Means P a (summary 1 opened (length rows) ++ step_lines rows)

-- What the bytes of an answer tell: the third and fourth digit are 00, and no run gets there; or they are 01, and the records that the lines spell are a recipe.
pub record Tells (P : Policy) (a : Asked) (bytes : List ℕ) : Type 1 where
  pub verdict : ((said_in bytes).verdict ≡ 0) ⊎ ((said_in bytes).verdict ≡ 1)
  pub never : (said_in bytes).verdict ≡ 0 → NoRun P a
  pub reached : (said_in bytes).verdict ≡ 1 → Recipe P a (said_in bytes).steps

-- The same of the policy that a text gives.
pub record TellsOf (text : List ℕ) (a : Asked) (bytes : List ℕ) : Type 1 where
  pub policy : Policy
  pub read : reading text ≡ accepted policy
  pub tells : Tells policy a bytes

-- Each id has four bytes, as in every call and in every question line.
pub record FourByteIds (a : Asked) : Type 0 where
  pub uid : a.uid < 4294967296
  pub gid : a.gid < 4294967296
