-- `Span::of_specials` meets its contract: the special roles stand evenly apart.
use native.Mathlib.Omega.{arith}
use Rattle.tables.specs.Tables.{take_cell}
use Rattle.numbered.specs.Candidates.{special_step, special_steps}
use Rattle.walk.proofs.Rows.{specials_spaced, row_of, row-steps}
use Rattle.walk.proofs.steps.Span.of_specials.Goals as goal

pub returns : goal.returns
unfolding special_step special_steps
returns c =
    let so = specials_spaced c.requires.0 c.requires.1 in
    rw c.from.ensures (row_of so c.number.ensures (omega (arith, c.requires.0.specials)), λ t. row-steps so c.number.ensures t _ 96 (take_cell c.args.role) (λ j. omega arith))
