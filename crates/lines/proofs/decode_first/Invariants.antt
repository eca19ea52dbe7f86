-- `lines::decode_first` meets its contract. The invariant is `Decoding`: what was decoded so far, and what is left.
use Rattle.std.proofs.Common.{◌*◌}
use Rattle.lines.proofs.Decoding.{Decoding}
use Rattle.lines.proofs.decode_first.Given as goal

abbrev pub invariant-loop-i : goal.invariant-loop-i
invariant-loop-i l = Decoding l.text l.bytes l.i (2 * l.i)
