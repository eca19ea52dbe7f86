-- `fill_grants` meets its contract: each cell that was passed says whether its entry grants the access.
use Rattle.tables.specs.Regions.{Region, Grants}
use Rattle.tables.proofs.fill_grants.Given as goal

abbrev pub invariant-loop-e : goal.invariant-loop-e
invariant-loop-e l = Region l.store (Grants l.kind l.of) l.e l.part
