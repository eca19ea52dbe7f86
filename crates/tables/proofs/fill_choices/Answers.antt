-- `fill_choices` meets its contract: none, and the roles that are of the kind among all.
use Rattle.std.proofs.Common.{rules, ℕ, arith}
use lib.Dec.{eqb}
use Rattle.fields.specs.Fields.{role_kind}
use Rattle.runs.specs.Steps.{choices}
use Rattle.tables.specs.Regions.{role_kind_of}
use Rattle.tables.proofs.Choices.{choices_begin}
use Rattle.tables.proofs.fill_choices.Goals as goal

pub returns : goal.returns
returns c P rest L room =
    let k = role_kind_of c.args.kind in
    c.fill_passing.ensures (λ (r : ℕ). eqb (role_kind c.args.store.now r) k) (choices P k) (λ i b h p. search rules) (omega (arith, c.fill_passing.auto.part))
    (rw (c.put.ensures, c.role_count-count.ensures) (choices_begin L k c.args.part.now (omega (arith, c.fill_passing.auto.part, c.put.auto.part)))) room
