use Rattle.std.proofs.Common.{◌≡◌, ◌+◌, ◌*◌, length, arith}
use Rattle.lines.proofs.Encoding.{encoded_lacks, encoding_goes_on, encoding_ends}
use Rattle.lines.proofs.encode.Goals as goal

pub returns-then-room-size : goal.returns-then-room-size
returns-then-room-size c = encoded_lacks _ _ (omega arith)

pub loop-i-preserved : goal.loop-i-preserved
loop-i-preserved c =
    let next : 2 * (c.loop-i.i + 1) ≡ 2 * c.loop-i.i + 2 = omega arith in
    rw next (encoding_goes_on _ _ _ _ _ c.loop-i.invariant c.loop-i-test.true c.digit.ensures c.digit-in-loop-i.ensures)

pub returns : goal.returns
returns c =
    let all : c.loop-i.i ≡ length c.args.bytes.now = omega arith in
    rw all at (encoding_ends _ _ _ _ _ c.loop-i.invariant c.loop-i-test.false)
