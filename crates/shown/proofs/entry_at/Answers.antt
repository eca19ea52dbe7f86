-- `shown::entry_at` meets its contract: the role in force by the tables, and its entry.
use Rattle.shown.proofs.Tabled.{force_is}
use Rattle.shown.proofs.entry_at.Goals as goal

pub returns : goal.returns
returns c P q α good tabled inside seen = rw (c.byte.ensures, c.from.ensures, c.from-2.ensures, c.role_in_force-role.ensures, c.byte-fallback.ensures, seen) (force_is P q _ good tabled α inside)
