-- `load_table::report_all` ends: each case moves the place on.
use Rattle.std.specs.Prelude.{◌-◌, length}
use Rattle.load_table.proofs.report_all.Given as goal

abbrev pub decreases-loop-from : goal.decreases-loop-from
decreases-loop-from g l = length l.input - l.at
