-- `note_objects` meets its contract: the objects that were passed are noted.
use mathlib.Core.Path.{◌≡◌}
use Prim.Native.Nat.{◌-◌, ◌≤◌}
use lib.ListN.{length}
use Rattle.lookup.specs.Index.{objects_noted}
use Rattle.lookup.proofs.note_objects.Given as goal

abbrev pub invariant-loop-i : goal.invariant-loop-i
invariant-loop-i l = (l.i ≤ l.count) × (length l.index ≡ length l.initial.index) × (l.index ≡ objects_noted l.store l.e l.i l.initial.index)

abbrev pub decreases-loop-i : goal.decreases-loop-i
decreases-loop-i l = l.count - l.i
