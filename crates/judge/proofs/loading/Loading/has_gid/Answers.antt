-- `Loading::has_gid` meets its contract: the ids that are searched are those of the last entry.
use native.Mathlib.Nat.{sub-zero}
use Rattle.judge.proofs.Found.{found_gid}
use native.Mathlib.Omega.{arith}
use mathlib.Core.Path.{◌∙◌}
use Rattle.judge.proofs.loading.Loading.has_gid.Goals as goal

pub returns : goal.returns
returns c P rest sound h =
    let l = c.args.self in
    rw sub-zero at c.has_id.ensures ∙ found_gid P rest l.tally l.bytes.now l.bounded h sound c.args.id (omega arith)
