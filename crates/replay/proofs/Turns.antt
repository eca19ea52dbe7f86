-- One turn of a replay, as laws of the definitions: the records that are left decide what the whole row says.
-- Assumes nothing.
use mathlib.Core.Path.{◌≡◌, ap, ◌∙◌}
use mathlib.Core.Bool.{cond}
use mathlib.Core.List.{List}
use Prim.Native.Nat.{ℕ, ◌+◌, ◌≤◌, ◌<◌}
use native.Mathlib.Numerals.{add-one}
use lib.ListN.{length, get_or, drop, drop_of_length-le}
use lib.Seq.{drop-cons}
use Rattle.gran.specs.Policy.{Policy}
use Rattle.gran.specs.Real.{access, state_of}
use Rattle.gran.specs.Reach.{Question}
use Rattle.gran.specs.declared.Process.{Process}
use Rattle.store.specs.Held.{Loaded}
use Rattle.records.specs.declared.Step.{Step}
use Rattle.replay.specs.declared.Verdict.TheVariants.{Holds, NoStep, Denied}
use Rattle.replay.specs.declared.Actor.{Actor}
use Rattle.replay.specs.Replay.{is_step, after, follow, replay_of, step_of}

abbrev pub blank : Step
blank = step_of 0 0 0 0 0 0

-- An actor under way over a row: what the records from number `at` on say of it, the whole row says.
pub record Under (store begin : List ℕ) (uid gid : ℕ) (rows : List Step) (actor : Actor) (at : ℕ) : Type 0 where
  pub same_store : actor.store.now ≡ store
  pub same_begin : actor.begin.now ≡ begin
  pub same : (P : Policy) (rest : List ℕ) → Loaded P rest store → (q : Question) → follow P q begin actor.process at (drop at rows) ≡ replay_of P q uid gid begin rows

module _ (P : Policy) (q : Question) (begin : List ℕ) (p : Process) (rows : List Step) (at : ℕ) where
  -- What is left begins with the record at hand.
  pub follow_here : at < length rows → follow P q begin p at (drop at rows)
      ≡ cond (is_step P (state_of P begin p) (get_or rows at blank)) (follow P q begin (after p (get_or rows at blank)) (at + 1) (drop (at + 1) rows)) (NoStep at)
  unfolding follow
  follow_here more = ap (follow P q begin p at) (drop-cons rows at blank more) ∙ rw add-one

  -- Where nothing is left, the access decides.
  pub follow_past : length rows ≤ at → follow P q begin p at (drop at rows) ≡ cond (access P q.kind q.target (state_of P begin p)) (Holds p.file) Denied
  unfolding follow
  follow_past past = ap (follow P q begin p at) (drop_of_length-le rows past)
