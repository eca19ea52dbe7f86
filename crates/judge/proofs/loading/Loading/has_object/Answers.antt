-- `Loading::has_object` meets its contract: the rows that are searched are those of the last entry.
use Rattle.judge.proofs.Found.{found_object}
use Prim.Native.Nat.{◌+◌, ◌-◌, ◌*◌}
use native.Mathlib.Omega.{arith}
use mathlib.Core.Path.{◌∙◌}
use Rattle.judge.proofs.loading.Loading.has_object.Goals as goal

pub returns : goal.returns
returns c P rest sound h =
    let l = c.args.self in
    let t = l.tally in
    c.has_row.ensures ∙ found_object P rest t l.bytes.now l.bounded h c.args.path (2948 - (1924 + 2 * (t.objects - t.last.objects))) (omega (arith, l.bounded.objects, l.bounded.last_objects))
