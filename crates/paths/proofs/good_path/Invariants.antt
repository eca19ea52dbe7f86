-- `paths::good_path` meets its contract. The invariant: the path is good exactly where what is left of it is.
use Rattle.std.proofs.Common.{◌≡◌, drop}
use Rattle.paths.specs.Path.{good_path}
use Rattle.paths.proofs.Rests.{good_rest}
use Rattle.paths.proofs.good_path.Given as goal

abbrev pub invariant-loop-b : goal.invariant-loop-b
invariant-loop-b l = good_path l.policy l.path ≡ good_rest l.policy l.inside (drop l.b-index l.rest)
