-- `steps::offer_span` meets its contract, by the laws of a loop that visits steps.
use mathlib.Core.Path.{◌≡◌}
use Prim.Native.Nat.{◌+◌, ◌*◌}
use Rattle.numbered.specs.Candidates.{goal_at}
use Rattle.walk.specs.Needed.{walk_of}
use Rattle.walk.specs.Row.{row_step}
use Rattle.walk.proofs.Loops.{Left}
use Rattle.walk.proofs.steps.offer_span.Given as goal

abbrev pub invariant-loop-j : goal.invariant-loop-j
invariant-loop-j l =
    let s = l.span in
    Left l.given.sizes (goal_at l.given.tables.now l.given.sizes) l.given.place (row_step l.given.tables.now s.cells s.first s.stride s.label) s.count (walk_of l.initial.area l.initial.done) (walk_of l.area l.done) l.j
    × (l.n ≡ s.first + l.j * s.stride)
