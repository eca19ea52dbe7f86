-- `replay_loaded` meets its contract: each turn takes one record more, and the actor at the end says what the whole row does.
use mathlib.Core.Path.{sym, ◌∙◌}
use Rattle.replay.proofs.Turns.{follow_here, follow_past}
use Rattle.replay.proofs.replay_loaded.Goals as goal

pub loop-at-preserved : goal.loop-at-preserved
loop-at-preserved c =
    let u = c.loop-at.invariant in
    record {
      same_store = u.same_store;
      same_begin = u.same_begin;
      same = λ P rest L q.
          let taken = rw u.same_begin at (c.is_step.ensures P rest (rw u.same_store L)) in
          rw c.done_by-actor.ensures (sym (follow_here P q _ _ _ _ c.loop-at-test.true ∙ rw (← taken, c.if-not-is_step.false)) ∙ u.same P rest L q);
    }

pub returns-then-not-is_step : goal.returns-then-not-is_step
returns-then-not-is_step c P rest L =
    let u = c.loop-at.invariant in
    let taken = rw u.same_begin at (c.is_step.ensures P rest (rw u.same_store L)) in
    sym (follow_here P _ _ _ _ _ c.loop-at-test.true ∙ rw (← taken, c.if-not-is_step.true)) ∙ u.same P rest L _

pub returns : goal.returns
returns c P rest L =
    let u = c.loop-at.invariant in
    rw u.same_begin at (c.end.ensures P rest (rw u.same_store L)) ∙ sym (follow_past P _ _ _ _ _ c.loop-at-test.false) ∙ u.same P rest L _
