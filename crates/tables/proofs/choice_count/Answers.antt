-- `choice_count` meets its contract: none stands before the roles of the kind.
use native.Mathlib.Omega.{arith}
use Rattle.tables.specs.Regions.{role_kind_of}
use Rattle.tables.proofs.Choices.{choices-length}
use Rattle.tables.proofs.choice_count.Goals as goal

pub returns : goal.returns
returns c = (omega arith, λ P rest L room. omega (arith, c.roles_of.ensures P rest L, choices-length P (role_kind_of c.args.kind)))
