-- `index_objects` meets its contract: the objects of the entries that were passed are noted.
use mathlib.Core.Path.{◌≡◌}
use Prim.Native.Nat.{◌-◌, ◌≤◌}
use lib.ListN.{length}
use Rattle.lookup.specs.Index.{all_noted}
use Rattle.lookup.proofs.index_objects.Given as goal

abbrev pub invariant-loop-e : goal.invariant-loop-e
invariant-loop-e l = (l.e ≤ l.count) × (length l.index ≡ length l.initial.index) × (l.index ≡ all_noted l.store l.e l.initial.index)

abbrev pub decreases-loop-e : goal.decreases-loop-e
decreases-loop-e l = l.count - l.e
