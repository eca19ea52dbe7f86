-- `reached` meets its contract: the places of the run, the length of its lines, and the lines where they fit.
use mathlib.Core.Path.{◌≡◌}
use Prim.Native.Nat.{◌≤◌}
use native.Mathlib.Omega.{arith}
use lib.ListN.{length}
use Rattle.fields.specs.Fields.{policy_in}
use Rattle.records.specs.Record.{records_of, step_lines}
use Rattle.ask.specs.Ask.{start_of}
use Rattle.reply.specs.Run.{Over}
use Rattle.reply.proofs.Ends.{told_short, told-whole, run_of, lines_after, traced, lying_of, run_few, lines-length, lines_right, writable_of, wrote_none}
use Rattle.reply.proofs.reached.Given.{Over as Facts}
use Rattle.reply.proofs.reached.Goals as goal
use Rattle.reply.proofs.reached.Goals.{After-run_length-size}

-- The length of the lines of the run.
run_is : (g : Facts) (c : After-run_length-size g) → (e : Over c.args.searched) →
    c.run_length-size.result ≡ length (step_lines (records_of (policy_in c.args.searched.store.now) (start_of e.asked) (run_of e c.requires.met)))
unfolding lying_of
run_is g c e = c.run_length-size.ensures (lying_of e c.requires.met c.trace-steps.ensures) (start_of e.asked)

pub shared_whole_as_front-run : goal.shared_whole_as_front-run
shared_whole_as_front-run g c =
    let few = (traced c.requires.ended c.requires.met c.trace-steps.ensures).within in
    (omega arith, omega (arith, c.requires.few))

pub run_length-size-requires : goal.run_length-size-requires
run_length-size-requires g c = lying_of c.requires.ended c.requires.met c.trace-steps.ensures

pub overflow_add-size : goal.overflow_add-size
overflow_add-size g c = omega (arith, run_few c.requires.ended c.requires.met c.trace-steps.ensures _ (run_is g (goal.at.overflow_add-size g c).After-run_length-size c.requires.ended))

pub returns-then-room-size : goal.returns-then-room-size
returns-then-room-size g c e =
    let m = c.requires.met in
    let x = c.trace-steps.ensures in
    let lines = lines_after e m c.trace-steps.result in
    record { lines = lines; right = lines_right e m x; told = told_short lines c.args.room.now _ (lines-length e m x _ (run_is g (goal.at.returns-then-room-size g c).After-run_length-size e)) c.if-room-size.true }

pub overflow_cast-steps : goal.overflow_cast-steps
overflow_cast-steps g c = omega (arith, (traced c.requires.ended c.requires.met c.trace-steps.ensures).few)

pub write_run-requires : goal.write_run-requires
write_run-requires g c =
    let e = c.requires.ended in
    let m = c.requires.met in
    let x = c.trace-steps.ensures in
    let at = goal.at.write_run-requires g c in
    let fit : length (lines_after e m c.trace-steps.result) ≤ length c.args.room.now = omega (arith, lines-length e m x _ (run_is g at.After-run_length-size e)) in
    (writable_of e m x c.args.room.now fit, rw c.from.ensures (wrote_none e m x c.args.room.now fit _ _ c.put_summary.ensures))

pub returns : goal.returns
unfolding writable_of
returns g c e =
    let m = c.requires.met in
    let x = c.trace-steps.ensures in
    let lines = lines_after e m c.trace-steps.result in
    let long = lines-length e m x _ (run_is g (goal.at.returns g c).After-run_length-size e) in
    let fit : length lines ≤ length c.args.room.now = omega (arith, long) in
    record {
      lines = lines;
      right = lines_right e m x;
      told = told-whole lines c.args.room.now _ long (omega arith) _
          (c.write_run.ensures (writable_of e m x c.args.room.now fit) (rw c.from.ensures (wrote_none e m x c.args.room.now fit _ _ c.put_summary.ensures)));
    }
