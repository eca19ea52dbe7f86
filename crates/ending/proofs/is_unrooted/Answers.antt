-- `ending::is_unrooted` meets its contract: the three tests one after the other.
use native.Mathlib.Omega.{arith}
use Rattle.ending.proofs.Roots.{no_default, with_default}
use Rattle.ending.proofs.is_unrooted.Goals as goal

pub returns-then-lacks_entry : goal.returns-then-lacks_entry
returns-then-lacks_entry c P rest sound h e = grind (arith, no_default P _ h.defaults, with_default P _ h.defaults)

pub returns-else-lacks_entry : goal.returns-else-lacks_entry
returns-else-lacks_entry c P rest sound h e = grind (arith, no_default P _ h.defaults, with_default P _ h.defaults)
