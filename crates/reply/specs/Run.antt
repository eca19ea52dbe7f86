-- A run that a search found, and its lines while they are written: what the functions that write it require and leave.
-- Assumes nothing.
use Rattle.std.specs.Prelude.{◌≡◌, true, false, List, ◌++◌, ℕ, suc, ◌+◌, ◌*◌, ◌≤◌, ◌<◌, length, get_or, take}
use Rattle.std.proofs.Math.Bool.{So}
use Rattle.gran.specs.Lists.{none}
use Rattle.gran.specs.Policy.{Policy}
use Rattle.gran.specs.Good.{Good}
use Rattle.gran.specs.Real
use Rattle.gran.specs.Real.{state_of}
use Rattle.gran.specs.Abstract.{Act, set_special, abstract, may, next, last, real_acts}
use Rattle.gran.specs.Reach.{Question}
use Rattle.gran.specs.Run.{Unreached}
use Rattle.gran.specs.declared.State.{State}
use Rattle.gran.specs.declared.Process.{Process}
use Rattle.fields.specs.Fields.{policy_in}
use Rattle.numbered.specs.Number.{state_number}
use Rattle.numbered.specs.Candidates.{label_of}
use Rattle.numbered.specs.declared.Sizes.{Sizes}
use Rattle.records.specs.Record.{records_of, step_lines}
use Rattle.records.proofs.Putting.{Putting}
use Rattle.walk.specs.Walk.{queued, labelled}
use Rattle.walk.specs.Needed.{walk_of}
use Rattle.walk.specs.Found.{Met}
use Rattle.walk.specs.declared.Progress.{Progress}
use Rattle.shown.specs.Shown.{Going}
use Rattle.ask.specs.Ask.{Asked, start_of, question_of}
use Rattle.reply.specs.declared.run.Searched.{Searched}
use Rattle.reply.specs.declared.run.Writing.{Writing}
use Rattle.reply.specs.Reply.{Ready}

-- The act at a place of a run.
unfoldable pub act_of : List Act → ℕ → Act
act_of acts k = get_or acts k (set_special none)

-- The real state after the first k steps that show a run.
unfoldable pub real_after : Policy → Real.State → List Act → ℕ → Real.State
real_after P σ acts k = Real.last σ (real_acts P σ (take k acts))

-- The abstract one.
unfoldable pub state_after : State → List Act → ℕ → State
state_after α acts k = last α (take k acts)

-- Place p of the queue holds the state that the act a leads to from α, and the label of a.
pub record Marked (P : Policy) (area : List ℕ) (α : State) (a : Act) (p : ℕ) : Type 0 where
  pub place : p < 8192
  pub within : 3 * p < length area
  pub may : So (may P α a)
  pub small : queued area p < 8192
  pub room : 3 * queued area p + 2 < length area
  pub state : queued area p ≡ state_number P (next α a)
  pub label : labelled area (queued area p) ≡ label_of P α a

-- The first n places of `out` are those of a run from α, the last step's first.
pub record Traced (P : Policy) (α : State) (acts : List Act) (area out : List ℕ) (n : ℕ) : Type 0 where
  pub size : n ≡ length acts
  pub few : n ≤ 8192
  pub within : n ≤ length out
  pub marked : (k i : ℕ) → suc (k + i) ≡ n → Marked P area (state_after α acts k) (act_of acts k) (get_or out i 0)

-- A run that lies in the work area, of some good policy.
pub record Lying (area out : List ℕ) (n : ℕ) : Type 0 where
  pub policy : Policy
  pub good : Good policy
  pub from : State
  pub acts : List Act
  pub traced : Traced policy from acts area out n

-- A run of a question about the store's policy, whose lines go behind `front` in a room that held `before`, and fit.
pub record Writable (s t area out : List ℕ) (n : ℕ) (z : Sizes) : Type 0 where
  pub question : Question
  pub ready : Ready question s t z
  pub begin : List ℕ
  pub real : Real.State
  pub from : State
  pub acts : List Act
  pub traced : Traced (policy_in s) from acts area out n
  pub front : List ℕ
  pub before : List ℕ
  pub fits : length (front ++ step_lines (records_of (policy_in s) real acts)) ≤ length before

-- Its first k lines are written: the process stands where they end.
pub record Wrote {s t area out : List ℕ} {n : ℕ} {z : Sizes} (g : Writable s t area out n z) (k : ℕ) (w : Writing) (room : List ℕ) : Type 0 where
  pub from : w.from ≡ state_number (policy_in s) (state_after g.from g.acts k)
  pub real : state_of (policy_in s) g.begin w.process ≡ real_after (policy_in s) g.real g.acts k
  pub going : Going (policy_in s) g.question t z g.begin w.process (state_after g.from g.acts k)
  pub putting : Putting g.front (records_of (policy_in s) g.real g.acts) g.before k w.at room

-- The search for an ask about the store's policy is over; `start` is the ask's process.
pub record Ended (s t area : List ℕ) (z : Sizes) (w : Progress) (start : Process) : Type 0 where
  pub asked : Asked
  pub ready : Ready (question_of asked) s t z
  pub starts : state_of (policy_in s) asked.start start ≡ start_of asked
  pub few : w.count ≤ 8192
  pub never : w.met ≡ false → Unreached (policy_in s) (question_of asked) (abstract (policy_in s) (start_of asked)) w.count
  pub met : w.met ≡ true → Met (policy_in s) (question_of asked) (abstract (policy_in s) (start_of asked)) (walk_of area w)

-- ---- of a search as the code holds it, and of the places of a run in its work area

abbrev pub Over : Searched → Type 0
Over a = Ended a.store.now a.tables.now a.area.now a.sizes a.end a.start

abbrev pub LyingIn : Searched → List ℕ → Type 0
LyingIn a places = Lying a.area.now places (length places)

abbrev pub WritableIn : Searched → List ℕ → Type 0
WritableIn a places = Writable a.store.now a.tables.now a.area.now places (length places) a.sizes
