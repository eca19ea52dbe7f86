-- `default_role` meets its contract: the default role's id is 0.
use mathlib.Core.Path.{◌∙◌}
use Rattle.ids.proofs.Read.{default_read}
use Rattle.ids.proofs.default_role.Goals as goal

pub returns : goal.returns
returns c P rest L = c.role_of.ensures P rest L ∙ default_read P L.good
