-- `is_free` meets its contract: both tests, the second where the first passes.
use Rattle.ids.proofs.Read.{allowed-read}
use Rattle.ids.proofs.Allowed.is_free.Goals as goal

pub returns-then-allows : goal.returns-then-allows
returns-then-allows c P rest L known = let A = c.args.self in rw (c.role_of.ensures P rest L, ← allowed-read L A.kind A.entry known, ← c.allows.ensures, c.if-allows.true)

pub returns-else-allows : goal.returns-else-allows
returns-else-allows c P rest L known = let A = c.args.self in rw (← allowed-read L A.kind A.entry known, ← c.allows.ensures, c.if-allows.false)
