use Rattle.paths.proofs.Rests.{none_contains}
use Rattle.paths.proofs.no_slash.Goals as goal

pub returns : goal.returns
returns c = rw c.contains.ensures.value (none_contains c.args.s.now)
