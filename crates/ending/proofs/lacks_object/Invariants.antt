-- `ending::lacks_object` meets its contract. The invariant: the entries from `i` on decide.
use mathlib.Core.Path.{◌≡◌}
use lib.ListN.{drop}
use Rattle.gran.specs.Policy.{Policy}
use Rattle.gran.specs.Lists.{any}
use Rattle.store.specs.Layout.{root_of}
use Rattle.policy.specs.Load.{lacks_object}
use Rattle.judge.specs.Judge.{Answers}
use Rattle.ending.proofs.lacks_object.Given as goal

abbrev pub invariant-loop-i : goal.invariant-loop-i
invariant-loop-i l = Answers l.loading.tally l.loading.bytes.now (λ (P : Policy). l.root ≡ root_of P → any (lacks_object P) P.entries ≡ any (lacks_object P) (drop l.i P.entries))
