-- `best_place` meets its contract. The invariant: the best of the places passed.
use Rattle.std.proofs.Common.{◌≡◌, ℕ, ◌<◌}
use Rattle.lookup.specs.Best.{best_of}
use Rattle.lookup.proofs.best_place.Given as goal

abbrev pub invariant-loop-i : goal.invariant-loop-i
invariant-loop-i g l = (row : ℕ → ℕ) → ((i v : ℕ) → i < l.count → goal.F-post g l.grade i v → v ≡ row i) → l.best ≡ best_of row l.i
