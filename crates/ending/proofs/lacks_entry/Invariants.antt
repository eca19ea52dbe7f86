-- `ending::lacks_entry` meets its contract. The invariant: the roles from `i` on decide.
use mathlib.Core.Path.{◌≡◌}
use lib.ListN.{length}
use Prim.Native.Nat.{◌-◌}
use Rattle.gran.specs.Policy.{Policy}
use Rattle.gran.specs.Lists.{any, numbers}
use Rattle.store.specs.Layout.{root_of}
use Rattle.policy.specs.Load.{lacks_entry}
use Rattle.judge.specs.Judge.{Answers}
use Rattle.ending.proofs.lacks_entry.Given as goal

abbrev pub invariant-loop-i : goal.invariant-loop-i
invariant-loop-i l = Answers l.loading.tally l.loading.bytes.now (λ (P : Policy). l.root ≡ root_of P → any (lacks_entry P) (numbers 0 (length P.roles)) ≡ any (lacks_entry P) (numbers l.i (length P.roles - l.i)))
