use Rattle.std.proofs.Common.{◌≢◌, ◌≤◌, ◌<◌, ◌-◌, ℕ, length, get_or, arith, rules}
use Rattle.std.proofs.iter.runs.Sources.{ranges}
use Rattle.paths.proofs.Rests.{under_parted}
use Rattle.paths.proofs.parts.Goals as goal

pub returns-then-p-n : goal.returns-then-p-n
returns-then-p-n c = λ e. under_parted _ _ (length c.args.q.now - 1) _ (omega arith) c.if-q-n-ne-SLASH.false (omega arith) (λ h. absurd (omega arith)) (omega arith)

pub returns-else-p-n : goal.returns-else-p-n
returns-else-p-n c = λ e.
    let found : (k : ℕ) × (1 ≤ k) × (k < length c.args.q.now) × (get_or c.args.p.now k 0 ≢ get_or c.args.q.now k 0) = search (rules, ranges) in
    under_parted _ _ found.0 _ (omega arith) c.if-q-n-ne-SLASH.false (omega arith) (λ h. found.3) (omega arith)
