-- `fill_stands` meets its contract: each cell that was passed holds the place for its path.
use Rattle.tables.specs.Regions.{Region, Stands}
use Rattle.tables.proofs.fill_stands.Given as goal

abbrev pub invariant-loop-c : goal.invariant-loop-c
invariant-loop-c l = Region l.store (Stands l.subjects) l.c l.part
