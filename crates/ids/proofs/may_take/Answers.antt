-- `may_take` meets its contract: no special role, or some move is from the role to it.
use Rattle.std.proofs.Common.{rules, tests, refl, ◌∙◌, ℕ, arith}
use Rattle.std.proofs.lemmas.Iterator.{YieldsList-from_range}
use Rattle.std.proofs.lemmas.Iterator.Search.{any_from_yields_List}
use borrow.Author.Tests.{ne_eqb}
use Rattle.gran.specs.Role.{is_move}
use Rattle.fields.specs.Fields.{move_read}
use Rattle.ids.proofs.Read.{take_read}
use Rattle.ids.proofs.Rows.{any_row}
use Rattle.ids.proofs.may_take.Goals as goal

pub returns-else-special : goal.returns-else-special
returns-else-special c P rest L =
    let a = c.args in
    rw (← take_read L a.role a.special, ne_eqb _ _ c.if-special.false)
    (any_from_yields_List (λ (i : ℕ). is_move a.role a.special (move_read a.store.now i)) _ _ _ c.any.ensures.ran (YieldsList-from_range 0 c.move_count.result c.move_count.result refl (omega arith)) (λ x b q k. search (rules, tests))
    ∙ rw c.move_count.ensures (any_row (move_read a.store.now) (is_move a.role a.special) 0 _))
