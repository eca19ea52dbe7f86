-- `grades_for` meets its contract. The invariant: the places passed hold their grades.
use Rattle.std.proofs.Common.{◌≡◌, ℕ, ◌<◌, get_or, length}
use Rattle.lookup.specs.Best.{grade_in}
use Rattle.lookup.proofs.grades_for.Given as goal

abbrev pub invariant-loop-c : goal.invariant-loop-c
invariant-loop-c l = (length l.of ≡ 96) × ((k : ℕ) → k < l.c → get_or l.of k 0 ≡ grade_in l.store l.file k)
