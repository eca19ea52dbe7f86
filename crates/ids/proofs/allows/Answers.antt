-- `allows` meets its contract: what is read is the entry's.
use mathlib.Core.Path.{ap, ◌∙◌}
use Rattle.gran.specs.Policy.{Allowed}
use Rattle.gran.specs.Role.{allows}
use Rattle.ids.proofs.Read.{allowed-read}
use Rattle.ids.proofs.allows.Goals as goal

pub returns : goal.returns
returns c P rest L known = rw (← c.kind.ensures) (c.allows.ensures ∙ ap (λ (a : Allowed). allows a c.args.id) (allowed-read L _ _ known))
