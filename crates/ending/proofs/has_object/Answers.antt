-- `ending::has_object` meets its contract: the row says where the entry's objects are, and how many.
use mathlib.Core.Path.{◌∙◌}
use native.Mathlib.Omega.{arith}
use Prim.Native.Nat.{◌<◌}
use lib.ListN.{length}
use Rattle.ending.proofs.Stored.{object-count, object-first, object_room, found_object}
use Rattle.ending.proofs.has_object.Goals as goal

pub returns-then-loading-end : goal.returns-then-loading-end
returns-then-loading-end c P rest sound h =
    let l = c.args.loading in
    let n = c.args.number in
    let within : n < length P.entries = omega (arith, h.entries) in
    absurd (omega (
      arith,
      l.long,
      object-count P rest l.tally l.bytes.now l.bounded h n within,
      object-first P rest l.tally l.bytes.now l.bounded h n within,
      object_room P rest l.tally l.bytes.now l.bounded h n within,
    ))

pub returns : goal.returns
returns c P rest sound h =
    let l = c.args.loading in
    let n = c.args.number in
    let within : n < length P.entries = omega (arith, h.entries) in
    c.has_row.ensures
    ∙ found_object P rest l.tally l.bytes.now l.bounded h n within c.args.path _ _
    (omega (arith, object-first P rest l.tally l.bytes.now l.bounded h n within))
    (c.from-count.ensures ∙ object-count P rest l.tally l.bytes.now l.bounded h n within)
