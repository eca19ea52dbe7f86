-- `take` meets its contract: the cells that were passed are done, the others as before.
use Rattle.lookup.proofs.Taking.{Passing}
use Rattle.lookup.proofs.Tops.take.Given as goal

abbrev pub invariant-loop-k : goal.invariant-loop-k
invariant-loop-k g l = Passing l.cells l.grade l.initial.self.grades l.initial.self.noted l.self.grades l.self.noted l.k
