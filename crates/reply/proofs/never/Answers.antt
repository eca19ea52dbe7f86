-- `never` meets its contract: the first line alone.
use mathlib.Core.Path.{sym}
use native.Mathlib.Omega.{arith}
use Rattle.records.specs.Record.{summary}
use Rattle.records.proofs.Bytes.{summary-length}
use Rattle.reply.proofs.Ends.{told_short, told-whole, put_first}
use Rattle.reply.proofs.never.Goals as goal

pub returns-then-room-lt-SUMMARY : goal.returns-then-room-lt-SUMMARY
returns-then-room-lt-SUMMARY c = told_short (summary 0 c.args.opened 0) c.args.room.now 13 (sym (summary-length 0 c.args.opened 0)) c.if-room-lt-SUMMARY.true

pub returns : goal.returns
returns c =
    let p = put_first c.put_summary.ensures in
    told-whole (summary 0 c.args.opened 0) c.args.room.now _ p.0 (omega (arith, p.0, summary-length 0 c.args.opened 0, c.if-room-lt-SUMMARY.false)) _ p.1
