-- `grants_in` meets its contract: the modes at the object's place decide.
use mathlib.Core.Path.{◌∙◌}
use Rattle.tables.proofs.Grants.{granted}
use Rattle.tables.proofs.grants_in.Goals as goal

pub returns : goal.returns
returns c P rest f L graded h =
    c.grants.ensures ∙ rw c.object_modes.ensures (granted L c.args.kind c.args.e c.object_in-i.result h (c.object_in-i.ensures P rest f L graded h))
