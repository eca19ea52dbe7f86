-- `Loading::is_good_move` meets its contract: where the second number names a role, the store has its kind.
use native.Mathlib.Omega.{arith}
use Rattle.policy.specs.Frames.{good_move}
use Rattle.judge.proofs.Found.{role-kind}
use Rattle.judge.proofs.loading.Loading.is_good_move.Goals as goal

pub returns-then-special-roles : goal.returns-then-special-roles
unfolding good_move
returns-then-special-roles c P rest sound h =
    let l = c.args.self in
    grind (arith, role-kind P rest l.tally l.bytes.now l.bounded h c.from-special.result (omega (arith, h.roles)))
