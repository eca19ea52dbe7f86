-- `lines::encode` meets its contract. The invariant is `Encoding`: the digits written so far, in front of the room.
use Rattle.std.proofs.Common.{◌*◌}
use Rattle.lines.proofs.Encoding.{Encoding}
use Rattle.lines.proofs.encode.Given as goal

abbrev pub invariant-loop-i : goal.invariant-loop-i
invariant-loop-i l = Encoding l.bytes l.initial.room l.room l.i (2 * l.i)
