-- The second call: a row of step records against the policy of a text (document 01, "Replay").
-- Assumes nothing.
use Rattle.std.specs.Prelude.{List, ◌++◌, ℕ, zero, suc, length, drop}
use Rattle.lines.specs.Line.{zeros}
use Rattle.gran.specs.Lists.{none}
use Rattle.store.specs.Layout.{layout}
use Rattle.records.specs.declared.Step.{Step}
use Rattle.policy.specs.Load.{Reading, refused, accepted, reading}
use Rattle.ask.specs.Ask.{Asked, early, question_of}
use Rattle.replay.specs.declared.Verdict.{Verdict}
use Rattle.replay.specs.declared.Verdict.TheVariants.{Holds, NoStep, Denied}
use Rattle.replay.specs.Replay.{replay_of}
use Rattle.leveecrumb.specs.declared.again.Replayed.{Replayed}

-- A refusal, and its line.
abbrev pub refusing : ℕ → ℕ → Replayed
refusing number line = record { number = number; verdict = 0; file = none; line = line; first = 0 }

-- The numbers of a verdict: 1 holds, with the last file's path number; 2 the first record that is no real step; 3 the access is not granted at the end.
abbrev pub telling : Verdict → Replayed
telling (Holds file) = record { number = 0; verdict = 1; file = file; line = 0; first = 0 }
telling (NoStep at) = record { number = 0; verdict = 2; file = none; line = 0; first = at }
telling Denied = record { number = 0; verdict = 3; file = none; line = 0; first = 0 }

-- What a replay answers, and what it leaves in the store.
pub record Ended : Type 0 where
  pub answer : Replayed
  pub store : List ℕ

-- What a text that passed 1 to 6 comes to.
abbrev pub ended_by : Reading → Asked → List Step → List ℕ → Ended
ended_by (refused n line) a rows store = record { answer = refusing n line; store = zeros 16384 ++ drop 16384 store }
ended_by (accepted P) a rows store = record {
  answer = telling (replay_of P (question_of a) a.uid a.gid a.start rows);
  store = layout P ++ drop 16384 store;
}

-- 1, 2 and 4 to 6 change nothing.
abbrev pub ended_after : ℕ → List ℕ → Asked → List Step → List ℕ → Ended
ended_after zero text a rows store = ended_by (reading text) a rows store
ended_after (suc n) text a rows store = record { answer = refusing (suc n) 0; store = store }

-- What a replay comes to: there is no work area, so none is too short.
abbrev pub replaying : List ℕ → Asked → List Step → List ℕ → Ended
replaying text a rows store = ended_after (early (length text) (length store) 24576 a) text a rows store
