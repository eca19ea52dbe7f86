-- `walk::search` meets its contract. The loop's invariant: to sweep from place p, in the memory as it is, is the whole search,
-- and the flags that are set say what was found.
-- The measure is what is left of 8192 places.
use mathlib.Core.Path.{◌≡◌}
use Prim.Native.Nat.{◌≤◌, ◌-◌}
use Rattle.numbered.specs.Candidates.{goal_at, candidates}
use Rattle.walk.specs.Walk.{sweep}
use Rattle.walk.specs.Needed.{walk_of, Kept, Opened}
use Rattle.walk.proofs.search.Given as goal

abbrev pub invariant-loop-p : goal.invariant-loop-p
invariant-loop-p l =
    Kept l.fn.z (walk_of l.area l.w) × ((l.p ≤ 8192)
    × ((sweep (goal_at l.t l.fn.z) (candidates l.store l.t l.fn.z) (8192 - l.p) l.p (walk_of l.area l.w) ≡ sweep (goal_at l.t l.fn.z) (candidates l.store l.t l.fn.z) 8192 0 (walk_of l.initial.area l.initial.w))
    × Opened l.store l.t l.fn.z l.opened (walk_of l.area l.w)))
