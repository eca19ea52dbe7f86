use mathlib.Core.Path.{◌≡◌, sym, ap, ◌∙◌}
use mathlib.Core.List.{List, ◌++◌}
use Prim.Native.Nat.{ℕ}
use lib.ListN.{length, drop}
use Rattle.walk.specs.Walk.{trail}
use Rattle.walk.proofs.Back.{goes_back, back_ends}
use Rattle.walk.proofs.trace.Goals as goal
use Rattle.walk.proofs.trace.Goals.{In-loop-at}

pub loop-at-preserved : goal.loop-at-preserved
loop-at-preserved c =
    let l = c.loop-at in
    rw (c.from-at.ensures, c.from-state.ensures) (goes_back c.args.area.now c.args.k c.requires.0 c.requires.1 l.invariant c.loop-at-test.true)

pub returns : goal.returns
returns c =
    let l = c.loop-at in
    let all : trail c.args.area.now 8192 c.args.k ≡ l.invariant.done = back_ends c.args.area.now c.args.k c.requires.0 c.requires.1 l.invariant c.loop-at-test.false in
    record { size = sym (ap length all ∙ l.invariant.size); kept = l.invariant.written ∙ ap (λ (x : List ℕ). x ++ drop l.n c.args.out.now) (sym all) }
