-- `execs::exec_subjects` meets its contract, by the laws of a loop that visits steps.
use lib.ListN.{length}
use Rattle.numbered.specs.Candidates.{goal_at}
use Rattle.walk.specs.Needed.{walk_of}
use Rattle.walk.proofs.Loops.{Left}
use Rattle.walk.proofs.Images.{at, to_subject}
use Rattle.walk.proofs.execs.exec_subjects.Given as goal

abbrev pub invariant-loop-k : goal.invariant-loop-k
invariant-loop-k l = Left l.given.sizes (goal_at l.given.tables.now l.given.sizes) l.given.place (at (to_subject l.fn.x.place l.base) l.image) (length l.image) (walk_of l.initial.area l.initial.done) (walk_of l.area l.done) l.k-index
