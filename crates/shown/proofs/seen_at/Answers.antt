-- `shown::seen_at` meets its contract.
use Rattle.shown.proofs.Tabled.{seen_is}
use Rattle.shown.proofs.seen_at.Goals as goal

pub returns : goal.returns
returns c P q α good tabled inside ez en =
    rw (
      c.byte.ensures,
      c.byte-2.ensures,
      c.byte-3.ensures,
      c.byte-4.ensures,
      c.of-d.ensures,
    ) (seen_is P q _ good tabled α inside _ _ ez en)
