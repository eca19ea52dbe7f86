-- `role_of` meets its contract: the first role that is of the kind and has the id.
use Rattle.std.proofs.Common.{rules, tests, refl, ◌∙◌, ℕ, arith}
use Rattle.std.proofs.lemmas.Iterator.{YieldsList-from_range}
use Rattle.std.proofs.lemmas.Iterator.Search.{find_from_yields_List}
use Rattle.gran.specs.Role.{is_role}
use Rattle.fields.specs.Fields.{role_read}
use Rattle.ids.proofs.Read.{role-read}
use Rattle.ids.proofs.Rows.{place_found}
use Rattle.ids.proofs.role_of.Goals as goal

pub returns : goal.returns
returns c P rest L =
    let a = c.args in
    let found = find_from_yields_List (λ (i : ℕ). is_role a.kind a.id (role_read a.store.now i)) _ _ c.find.result c.find.ensures.ran (YieldsList-from_range 0 c.role_count.result c.role_count.result refl (omega arith)) (λ x b q k. search (rules, tests)) in
    c.unwrap_or.ensures ∙ place_found (role_read a.store.now) (is_role a.kind a.id) c.find.result _ found ∙ rw c.role_count.ensures (role-read L a.kind a.id)
