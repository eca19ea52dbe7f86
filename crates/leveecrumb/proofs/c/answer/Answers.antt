-- `answer` meets its contract: the smaller area has room for few states, the other for those of every policy.
use native.Mathlib.Omega.{arith}
use Rattle.reply.proofs.Loads.{held_few}
use Rattle.leveecrumb.proofs.c.answer.Goals as goal

pub answer_on-requires-else-states-le-FEW-clause-long : goal.answer_on-requires-else-states-le-FEW-clause-long
answer_on-requires-else-states-le-FEW-clause-long c = omega (arith, held_few c.requires)
