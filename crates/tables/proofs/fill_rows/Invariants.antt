-- `fill_rows` meets its contract: each subject that was passed has its rows.
use mathlib.Core.Path.{◌≡◌}
use lib.ListN.{length}
use Rattle.tables.specs.Regions.{RowsFilled}
use Rattle.tables.proofs.fill_rows.Given as goal

abbrev pub invariant-loop-k : goal.invariant-loop-k
invariant-loop-k l = (length l.part ≡ length l.initial.part) × RowsFilled l.store l.subjects l.k l.part
