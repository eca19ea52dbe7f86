-- `input::fill`: what stands in front is what the input gave so far. It ends, since each read that goes on leaves less of the area.
use Rattle.std.specs.Prelude.{◌-◌, ◌≤◌, length, take}
use Rattle.std.specs.Io.KnownBytes.{Consumes}
use Rattle.input.proofs.fill.Given as goal

abbrev pub invariant-loop-done : goal.invariant-loop-done
invariant-loop-done g l = l.done ≤ length l.area × Consumes (g.R.Read.remaining l.initial.input) (g.R.Read.remaining l.input) (take l.done l.area)

abbrev pub decreases-loop-done : goal.decreases-loop-done
decreases-loop-done g l = length l.area - l.done
