-- `reach` meets its contract: none by the free id, a role by its own id.
use mathlib.Core.Path.{ap, ◌∙◌}
use Rattle.gran.specs.Role.{allows}
use Rattle.lookup.specs.Lookup.{entry_at}
use Rattle.ids.specs.Ids.{kind_of, allowed_of}
use Rattle.tables.proofs.Reaches.{named, own_id}
use Rattle.tables.proofs.reach.Goals as goal

pub returns : goal.returns
returns c P rest L h choice =
    let k = kind_of c.args.ids in
    let a = allowed_of k (entry_at P c.args.e) in
    c.allows.ensures P rest L h ∙ ap (allows a) c.role_id.ensures ∙ own_id L k (named c.args.ids) a c.args.choice c.if-choice-eq-NONE.false choice
