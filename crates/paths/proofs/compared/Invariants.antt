-- `paths::compared` meets its contract. The invariant: p is under q exactly where the bytes from i on say so.
use Rattle.std.proofs.Common.{◌≡◌}
use Rattle.paths.specs.Path as path
use Rattle.paths.proofs.Rests.{under_from}
use Rattle.paths.proofs.compared.Given as goal

abbrev pub invariant-loop-i : goal.invariant-loop-i
invariant-loop-i l = path.under l.p l.q ≡ under_from l.i l.p l.q
