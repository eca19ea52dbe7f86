-- `judge::noted::digest` meets its contract. The invariant: what was summed, and the bytes that are left.
use mathlib.Core.Path.{◌≡◌}
use Prim.Native.Nat.{◌+◌, ◌*◌, ◌≤◌}
use lib.ListN.{drop}
use Rattle.judge.specs.Noted.{weighed}
use Rattle.judge.proofs.noted.digest.Given as goal

abbrev pub invariant-loop-i : goal.invariant-loop-i
invariant-loop-i l = (l.sum ≤ l.i * 20480) × (weighed 1 l.path ≡ l.sum + weighed (l.i + 1) (drop l.i l.path))
