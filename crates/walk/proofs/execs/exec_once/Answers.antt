-- `execs::exec_once` meets its contract: where the flag is set there is nothing new, and else it may be set.
use mathlib.Core.Path.{sym, ◌∙◌}
use native.Mathlib.Omega.{arith}
use Rattle.numbered.specs.Candidates.{goal_at}
use Rattle.walk.proofs.Again.{opened_more, opened-again}
use Rattle.walk.proofs.execs.exec_once.Goals as goal

pub returns-then-allows_kept : goal.returns-then-allows_kept
returns-then-allows_kept c =
    let a = c.args in (
      opened-again c.requires.1.1 c.requires.0 (goal_at a.given.tables.now a.given.sizes) a.d c.requires.1.0 a.entry (omega arith) (rw c.from.ensures at c.if-again.true) (sym c.allows_kept.ensures ∙ c.if-allows_kept.true),
      c.requires.1.1,
    )

pub returns : goal.returns
returns c =
    let a = c.args in
    let done = c.exec_objects.ensures in
    (done, rw c.from.ensures (opened_more c.requires.1.1 c.requires.0 (goal_at a.given.tables.now a.given.sizes) a.d c.requires.1.0 a.entry (omega arith) done))
