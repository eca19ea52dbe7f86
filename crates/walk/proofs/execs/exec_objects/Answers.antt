use mathlib.Core.Path.{ap}
use Rattle.numbered.specs.Candidates.{goal_at, flat, object_step, object_steps}
use Rattle.walk.specs.Needed.{walk_of}
use Rattle.walk.proofs.Walks.{visits_as}
use Rattle.walk.proofs.Loops.{turns, ends}
use Rattle.walk.proofs.Targets.{inside_object}
use Rattle.walk.proofs.Again.{entry_on}
use Rattle.walk.proofs.execs.exec_objects.Goals as goal

pub loop-i-preserved : goal.loop-i-preserved
loop-i-preserved c =
    let a = c.args in
    let l = c.loop-i in
    let inside = inside_object a.given.store.now a.given.tables.now c.requires.1.0 a.entry l.i in
    let is = c.exec_object-done.ensures in
    (turns l.invariant.0 c.loop-i-test.true inside is, λ again. entry_on l.invariant.0.going (goal_at a.given.tables.now a.given.sizes) (object_step a.given.store.now a.given.tables.now a.given.sizes a.d a.entry l.i) inside is (l.invariant.1 again))

pub returns : goal.returns
unfolding object_steps
returns c =
    let a = c.args in
    visits_as (goal_at a.given.tables.now a.given.sizes) a.given.place (walk_of a.area.now a.w) (ends c.loop-i.invariant.0 c.loop-i-test.false)
    (ap (flat (object_step a.given.store.now a.given.tables.now a.given.sizes a.d a.entry) 0) c.object_count-count.ensures)
