use native.Mathlib.Omega.{arith}
use native.Mathlib.Nat.{add-mul}
use Rattle.numbered.specs.Candidates.{goal_at}
use Rattle.walk.specs.Needed.{walk_of}
use Rattle.walk.specs.Row.{row_step}
use Rattle.walk.proofs.Walks.{visits_as}
use Rattle.walk.proofs.Loops.{turns, ends}
use Rattle.walk.proofs.Rows.{inside-row}
use Rattle.walk.proofs.steps.offer_span.Goals as goal

pub loop-j-preserved : goal.loop-j-preserved
unfolding row_step
loop-j-preserved c =
    let l = c.loop-j in
    let lt = c.loop-j-test.true in (
      turns l.invariant.0 lt (inside-row c.args.given.tables.now c.requires.1 c.args.span.label l.j lt) (rw (c.is_set-allowed.ensures, l.invariant.1) at c.offer-done.ensures),
      omega (arith, l.invariant.1, add-mul l.j 1 c.args.span.stride),
    )

pub returns : goal.returns
returns c =
    let a = c.args in
    visits_as (goal_at a.given.tables.now a.given.sizes) a.given.place (walk_of a.area.now a.w) (ends c.loop-j.invariant.0 c.loop-j-test.false) (rw c.if-not-leave.false)
