-- `index_entries` meets its contract: the entries that were passed are noted.
use mathlib.Core.Path.{◌≡◌}
use Prim.Native.Nat.{◌-◌, ◌≤◌}
use lib.ListN.{length}
use Rattle.lookup.specs.Index.{entries_noted}
use Rattle.lookup.proofs.index_entries.Given as goal

abbrev pub invariant-loop-e : goal.invariant-loop-e
invariant-loop-e l = (l.e ≤ l.count) × (length l.index ≡ length l.initial.index) × (l.index ≡ entries_noted l.store l.e l.initial.index)

abbrev pub decreases-loop-e : goal.decreases-loop-e
decreases-loop-e l = l.count - l.e
