-- `Span::of_users` meets its contract: the users stand evenly apart.
use native.Mathlib.Omega.{arith}
use Rattle.tables.specs.Tables.{user_reach_cell}
use Rattle.numbered.specs.Candidates.{user_step}
use Rattle.walk.proofs.Rows.{users_spaced, row_of, row-steps}
use Rattle.walk.proofs.steps.Span.of_users.Goals as goal

pub returns : goal.returns
unfolding user_step
returns c =
    let so = users_spaced c.requires.0 c.requires.1 in
    rw c.from.ensures (row_of so c.number.ensures (omega (arith, c.requires.0.users.1)), λ t. row-steps so c.number.ensures t _ 97 (user_reach_cell c.args.entry) (λ j. omega arith))
