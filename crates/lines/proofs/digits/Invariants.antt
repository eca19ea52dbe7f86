-- `lines::digits` meets its contract: the digits below v are in the table.
use mathlib.Core.Path.{◌≡◌}
use Prim.Native.Nat.{ℕ, ◌-◌, ◌≤◌, ◌<◌}
use lib.ListN.{length, get_or}
use Rattle.lines.proofs.Values.{value_below}
use Rattle.lines.proofs.digits.Given as goal

abbrev pub invariant-loop-v : goal.invariant-loop-v
invariant-loop-v l = (l.v ≤ 16) × (length l.values ≡ 256) × ((b : ℕ) → b < 256 → get_or l.values b 0 ≡ value_below l.v b)

abbrev pub decreases-loop-v : goal.decreases-loop-v
decreases-loop-v l = 16 - l.v
