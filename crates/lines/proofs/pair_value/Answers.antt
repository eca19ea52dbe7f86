-- `lines::pair_value` meets its contract: the sum of the two values says whether both are digits.
use Rattle.std.proofs.Common.{ℕ, ◌+◌, ◌*◌, ◌∙◌, ap₂, rules}
use Rattle.lines.proofs.Values.{pair_sum, byte_or_none}
use Rattle.lines.proofs.pair_value.Goals as goal

pub returns : goal.returns
returns c =
    c.ok.ensures.value ∙ byte_or_none _ _ c.try_from.ensures
    ∙ pair_sum c.args.a c.args.b _ (ap₂ (λ (x y : ℕ). x * 16 + y) (rw c.from.ensures (c.requires.is c.args.a (search rules))) (rw c.from-2.ensures (c.requires.is c.args.b (search rules))))
