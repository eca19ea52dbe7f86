-- `fill_lists` meets its contract: the four parts come back one behind the other.
use native.Mathlib.Omega.{arith}
use Rattle.tables.proofs.Parts.{parts_none, parts_more}
use Rattle.tables.proofs.Whole.{lists_of}
use Rattle.tables.proofs.fill_lists.Goals as goal

pub returns : goal.returns
returns c P rest L =
    let a = c.fill_choices in
    let b = c.fill_choices-2 in
    let d = c.fill_choices-3 in
    let e = c.fill_subjects in
    let one = parts_more 8 a.new.part (parts_none c.args.lists.now c.requires) (omega arith) a.auto.part in
    let two = parts_more 16 b.new.part one (omega arith) b.auto.part in
    let three = parts_more 8 d.new.part two (omega arith) d.auto.part in
    let four = parts_more 64 e.new.part three (omega arith) e.auto.part in
    lists_of _ _ _ _ _ four (a.ensures P rest L) (b.ensures P rest L) (d.ensures P rest L) (e.ensures P rest L)
