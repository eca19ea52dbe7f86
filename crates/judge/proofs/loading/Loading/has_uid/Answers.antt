-- `Loading::has_uid` meets its contract: the ids that are searched are those of the last entry.
use Rattle.judge.proofs.Found.{found_uid}
use native.Mathlib.Omega.{arith}
use mathlib.Core.Path.{◌∙◌}
use Rattle.judge.proofs.loading.Loading.has_uid.Goals as goal

pub returns : goal.returns
returns c P rest sound h =
    let l = c.args.self in
    c.has_id.ensures ∙ found_uid P rest l.tally l.bytes.now l.bounded h sound c.args.id (omega arith)
