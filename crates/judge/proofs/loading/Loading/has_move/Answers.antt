-- `Loading::has_move` meets its contract: the rows that are searched are those of the policy.
use Rattle.judge.proofs.Found.{found-move}
use Prim.Native.Nat.{◌+◌, ◌-◌}
use native.Mathlib.Omega.{arith}
use mathlib.Core.Path.{◌∙◌}
use Rattle.judge.proofs.loading.Loading.has_move.Goals as goal

pub returns : goal.returns
returns c P rest sound h =
    let l = c.args.self in
    c.has_row.ensures ∙ found-move P rest l.tally l.bytes.now l.bounded h c.args.from c.args.special (16384 - (2948 + l.tally.bytes)) (omega (arith, l.bounded.pool))
