-- `write_run` meets its contract. The invariant: as many lines are written as places were passed.
use Rattle.std.proofs.Common.{length}
use Rattle.reply.specs.Run.{WritableIn, Wrote}
use Rattle.reply.proofs.run.Searched.write_run.Given as goal

abbrev pub invariant-loop-place : goal.invariant-loop-place
invariant-loop-place l =
    (g : WritableIn l.self l.places) → Wrote g 0 l.initial.writing l.initial.room → Wrote g (length l.yielded) l.writing l.room
