-- `execs::exec_objects` meets its contract: the lists are made, and then by the laws of a loop that visits steps.
use mathlib.Core.Bool.{So}
use Rattle.numbered.specs.Candidates.{goal_at, object_step}
use Rattle.walk.specs.Needed.{walk_of, EntryDone}
use Rattle.walk.proofs.Loops.{Left}
use Rattle.walk.proofs.execs.exec_objects.Given as goal

abbrev pub invariant-loop-i : goal.invariant-loop-i
invariant-loop-i l =
    Left l.given.sizes (goal_at l.given.tables.now l.given.sizes) l.given.place (object_step l.given.store.now l.given.tables.now l.given.sizes l.d l.entry) l.count (walk_of l.initial.area l.initial.done) (walk_of l.area l.done) l.i
    × (So l.again → EntryDone l.given.store.now l.given.tables.now l.given.sizes l.entry l.d.special (walk_of l.area l.done))
