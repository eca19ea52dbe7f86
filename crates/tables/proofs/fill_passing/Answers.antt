use mathlib.Core.Path.{◌≡◌}
use Prim.Native.Nat.{◌-◌, ◌≤◌}
use native.Mathlib.Omega.{arith}
use lib.ListN.{length}
use Rattle.tables.proofs.Front.{written-end}
use Rattle.tables.proofs.Subjects.{passing_more}
use Rattle.tables.proofs.fill_passing.Goals as goal
use Rattle.tables.proofs.fill_passing.Goals.{then-passes, else-passes}

pub loop-i-preserved : goal.loop-i-preserved
loop-i-preserved g c =
    let l = c.loop-i in
    elim c.if-passes.branch [
      | then-passes w ↦ (
        omega arith,
        λ test whole told room begun.
            let more : length whole ≤ length l.part = omega (arith, c.put.auto.part) in
            rw (w.at-is, c.put.ensures) (rw w.if-passes.true at (passing_more test l.i c.args.count c.passes.result (omega arith) (told l.i c.passes.result (omega arith) c.passes.ensures) more (l.invariant.1 test whole told more begun))),
      )
      | else-passes w ↦ (
        omega arith,
        λ test whole told room begun.
            let more : length whole ≤ length l.part = omega (arith, c.put.auto.part) in
            rw (w.at-is, c.put.ensures) (rw w.if-passes.false at (passing_more test l.i c.args.count c.passes.result (omega arith) (told l.i c.passes.result (omega arith) c.passes.ensures) more (l.invariant.1 test whole told more begun))),
      )
    ]

pub returns : goal.returns
returns g c test whole told room begun =
    let l = c.loop-i in
    let past : c.args.count - l.i ≡ 0 = omega arith in
    written-end (rw past at (l.invariant.1 test whole told (omega (arith, l.auto.part)) begun))
