use mathlib.Core.Path.{◌≡◌, ap, ◌∙◌}
use Prim.Native.Nat.{ℕ, ◌+◌, ◌%◌}
use native.Mathlib.Omega.{arith}
use Rattle.judge.specs.Noted.{weighed, digest_of}
use Rattle.judge.proofs.Noting.{weighed-next, weighed-end, product_most}
use Rattle.judge.proofs.noted.digest.Goals as goal

pub loop-i-preserved : goal.loop-i-preserved
loop-i-preserved c =
    let l = c.loop-i in
    (omega (arith, product_most (l.i + 1) c.from.result (omega arith) (omega arith)), l.invariant.1 ∙ weighed-next c.args.path.now l.i l.sum c.from.result c.loop-i-test.true c.from.ensures)

pub returns : goal.returns
unfolding digest_of
returns c =
    let all : c.loop-i.sum ≡ weighed 1 c.args.path.now = omega (arith, c.loop-i.invariant.1, weighed-end c.args.path.now c.loop-i.i c.loop-i-test.false) in
    (ap (λ (n : ℕ). n % 1024) all, omega arith)
