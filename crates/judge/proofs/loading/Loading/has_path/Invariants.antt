-- `Loading::has_path` meets its contract. The invariant: the paths from `i` on decide.
use Rattle.gran.specs.Policy.{Policy}
use Rattle.gran.specs.Lists.{any}
use Rattle.paths.specs.Path.{same}
use Rattle.judge.specs.Judge.{Answers}
use lib.ListN.{drop}
use mathlib.Core.Path.{◌≡◌}
use Rattle.judge.proofs.loading.Loading.has_path.Given as goal

abbrev pub invariant-loop-i : goal.invariant-loop-i
invariant-loop-i l = Answers l.self.tally l.self.bytes.now (λ (P : Policy). any (same l.path) P.paths ≡ any (same l.path) (drop l.i P.paths))
