-- `walk::trace` meets its contract, by the laws of the loop that writes the places. The measure is the place in the queue.
use Rattle.walk.proofs.Back.{Back}
use Rattle.walk.proofs.trace.Given as goal

abbrev pub invariant-loop-at : goal.invariant-loop-at
invariant-loop-at l = Back l.area l.k l.initial.out l.out l.at l.n

abbrev pub decreases-loop-at : goal.decreases-loop-at
decreases-loop-at l = l.at
