-- `Span::of_groups` meets its contract: the groups stand evenly apart.
use native.Mathlib.Omega.{arith}
use Rattle.tables.specs.Tables.{group_reach_cell}
use Rattle.numbered.specs.Candidates.{group_step}
use Rattle.walk.proofs.Rows.{groups_spaced, row_of, row-steps}
use Rattle.walk.proofs.steps.Span.of_groups.Goals as goal

pub returns : goal.returns
unfolding group_step
returns c =
    let so = groups_spaced c.requires.0 c.requires.1 in
    rw c.from.ensures (row_of so c.number.ensures (omega (arith, c.requires.0.groups.1)), λ t. row-steps so c.number.ensures t _ 98 (group_reach_cell c.args.entry) (λ j. omega arith))
