-- `fill_from` meets its contract: the four parts come back one behind the other.
use mathlib.Core.Path.{◌≡◌, ap, ◌∙◌}
use Prim.Native.Nat.{ℕ, ◌+◌, ◌-◌}
use native.Mathlib.Omega.{arith}
use lib.ListN.{take, drop}
use Rattle.fields.specs.Fields.{subject_count}
use Rattle.fields.proofs.Header.{subject-count}
use Rattle.tables.proofs.Parts.{parts_none, parts_more}
use Rattle.tables.proofs.Whole.{few, subjects_are, tabled_of}
use Rattle.tables.proofs.fill_from.Goals as goal

pub returns : goal.returns
returns c P rest L listed =
    let args = c.args in
    let a = c.copy_from_slice in
    let b = c.fill_stands in
    let d = c.fill_tests in
    let e = c.fill_rows in
    let one = parts_more 96 a.new.self (parts_none args.t.now c.requires.t_len) (omega arith) a.auto.self in
    let two = parts_more 96 b.new.part one (omega arith) b.auto.part in
    let three = parts_more 1856 d.new.part two (omega arith) d.auto.part in
    let four = parts_more 6144 e.new.part three (omega arith) e.auto.part in
    let count : 32 + c.from-count.result - 32 ≡ subject_count args.store.now = omega (arith, c.from-count.ensures, c.min.ensures, c.subject_count.ensures, subject-count L, few L) in
    let own = ap (λ (n : ℕ). take n (drop 32 args.lists.now)) count ∙ subjects_are L args.lists.now c.requires.lists_len listed in
    tabled_of L args.lists.now c.requires.lists_len listed _ _ _ _ _ _ _ four a.ensures.after own b.ensures (d.ensures P rest L listed) e.ensures
