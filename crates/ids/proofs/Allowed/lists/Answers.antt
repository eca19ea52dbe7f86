-- `lists` meets its contract: the test of each place is that of the id that is read there.
use Rattle.std.proofs.Common.{rules, tests, refl, ◌∙◌, ℕ, arith}
use Rattle.std.proofs.lemmas.Iterator.{YieldsList-from_range}
use Rattle.std.proofs.lemmas.Iterator.Search.{any_from_yields_List}
use lib.Dec.{eqb}
use Rattle.ids.specs.Ids.{id_at}
use Rattle.ids.proofs.Rows.{any_row}
use Rattle.ids.proofs.Allowed.lists.Goals as goal

pub returns : goal.returns
returns c =
    let a = c.args in
    let at = id_at a.self.store.now a.self.kind a.self.entry in
    any_from_yields_List (λ (i : ℕ). eqb a.id (at i)) _ _ _ c.any.ensures.ran (YieldsList-from_range 0 c.count.result c.count.result refl (omega arith)) (λ x b q k. search (rules, tests))
    ∙ rw c.count.ensures (any_row at (eqb a.id) 0 _)
