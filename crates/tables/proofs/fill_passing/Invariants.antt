-- `fill_passing` meets its contract: what is written so far, and those that pass among the numbers still to come, are the whole.
use mathlib.Core.Path.{◌≡◌}
use mathlib.Core.Bool.{Bool}
use mathlib.Core.List.{List}
use Prim.Native.Nat.{ℕ, ◌+◌, ◌-◌, ◌≤◌, ◌<◌}
use lib.ListN.{length}
use Rattle.gran.specs.Lists.{only, numbers}
use Rattle.tables.specs.Regions.{Written}
use Rattle.tables.proofs.fill_passing.Given as goal

abbrev pub invariant-loop-i : goal.invariant-loop-i
invariant-loop-i g l =
    (l.at ≤ l.initial.at + l.i)
    × ((test : ℕ → Bool) (whole : List ℕ) → ((i : ℕ) (b : Bool) → i < l.count → goal.F-post g l.passes i b → b ≡ test i) → length whole ≤ length l.part
    → Written whole l.initial.at l.initial.part (only test (numbers 0 l.count)) → Written whole l.at l.part (only test (numbers l.i (l.count - l.i))))
