-- `Few::push_where` meets its contract: of the numbers so far those that pass are listed, whatever test says which.
use Rattle.std.proofs.Common.{◌≡◌, Bool, ℕ, ◌+◌, ◌≤◌, ◌<◌, length}
use Rattle.walk.proofs.Images.{listed}
use Rattle.walk.proofs.few.Few.push_where.Given as goal

abbrev pub invariant-loop-k : goal.invariant-loop-k
invariant-loop-k g l =
    (length l.self ≤ length l.initial.self + l.k)
    × ((p : ℕ → Bool) → ((k : ℕ) → k < l.end → (b : Bool) → goal.F-post g l.test k b → b ≡ p k) → l.self ≡ listed l.initial.self p l.k)
