-- `Loading::has_entry` meets its contract: the rows that are searched are those of the policy.
use Rattle.judge.proofs.Found.{found-entry}
use mathlib.Core.Path.{◌∙◌}
use Rattle.judge.proofs.loading.Loading.has_entry.Goals as goal

pub returns : goal.returns
returns c P rest sound h =
    let l = c.args.self in
    c.has_row.ensures ∙ found-entry P rest l.tally l.bytes.now l.bounded h c.args.of c.args.subject
