-- `run_length` meets its contract. The invariant: the length of the lines of as many steps at the end as places were passed.
use Rattle.std.proofs.Common.{◌≡◌, ◌-◌, length}
use Rattle.gran.specs.Real
use Rattle.reply.specs.Run.{LyingIn}
use Rattle.reply.proofs.Steps.{length_from}
use Rattle.reply.proofs.run.Searched.run_length.Given as goal

abbrev pub invariant-loop-place : goal.invariant-loop-place
invariant-loop-place l =
    (g : LyingIn l.self l.places) (σ : Real.State) → l.size ≡ length_from g.policy σ g.acts (length l.places - l.place-index)
