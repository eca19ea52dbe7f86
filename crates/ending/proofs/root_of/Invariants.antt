-- `ending::root_of` meets its contract. The invariant: the paths from `i` on decide.
use mathlib.Core.Path.{◌≡◌}
use lib.ListN.{drop}
use Rattle.paths.specs.Path.{is_slash}
use Rattle.gran.specs.Policy.{Policy}
use Rattle.gran.specs.Lists.{place}
use Rattle.store.specs.Layout.{root_of}
use Rattle.judge.specs.Judge.{Answers}
use Rattle.ending.proofs.root_of.Given as goal

abbrev pub invariant-loop-i : goal.invariant-loop-i
invariant-loop-i l = Answers l.loading.tally l.loading.bytes.now (λ (P : Policy). root_of P ≡ place is_slash l.i (drop l.i P.paths))
