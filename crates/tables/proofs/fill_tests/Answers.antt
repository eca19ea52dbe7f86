-- `fill_tests` meets its contract: the five parts come back one behind the other.
use native.Mathlib.Omega.{arith}
use borrow.Rule.Slice.PartMut.{mid_of, put_mid}
use Rattle.tables.proofs.Parts.{parts_none, parts_more}
use Rattle.tables.proofs.Whole.{tests_of}
use Rattle.tables.proofs.fill_tests.Goals as goal

pub returns : goal.returns
returns c P rest L listed =
    let grades-for = c.grades_for-grades in
    let args = c.args in
    let a = c.fill_grants in
    let b = c.fill_offers in
    let d = c.put in
    let e = c.fill_offers-2 in
    let f = c.fill_offers-3 in
    let one = parts_more 64 a.new.part (parts_none args.part.now c.requires.part_len) (omega arith) a.auto.part in
    let two = parts_more 240 b.new.part one (omega arith) b.auto.part in
    let three = parts_more 16 d.new.part two (omega arith) d.auto.part in
    let four = parts_more 512 e.new.part three (omega arith) e.auto.part in
    let five = parts_more 1024 f.new.part four (omega arith) f.auto.part in
    let lent = mid_of 304 16 (put_mid 64 240 (put_mid 0 64 args.part.now a.new.part) b.new.part) in
    tests_of L args.lists.now c.requires.lists_len listed args.kind
    c.role_count-roles.result
    c.entry_count-entries.result
    c.default_role.result
    args.target.now grades-for.result.of _ _ lent _ _ _ _ five
    c.role_count-roles.ensures
    c.entry_count-entries.ensures
    (grades-for.ensures P rest L)
    (c.default_role.ensures P rest L)
    d.ensures a.ensures b.ensures e.ensures f.ensures
