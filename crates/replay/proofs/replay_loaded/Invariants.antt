-- `replay_loaded` meets its contract. The invariant: the actor is under way over the row.
use Rattle.replay.proofs.Turns.{Under}
use Rattle.replay.proofs.replay_loaded.Given as goal

abbrev pub invariant-loop-at : goal.invariant-loop-at
invariant-loop-at l = Under l.store l.fn.asked.start.now l.fn.asked.uid l.fn.asked.gid l.steps l.actor l.at
