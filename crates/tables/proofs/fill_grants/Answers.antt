use mathlib.Core.Path.{◌∙◌}
use Rattle.tables.specs.Regions.{Grants}
use Rattle.tables.proofs.Cells.{region_more, holds_flag}
use Rattle.tables.proofs.fill_grants.Goals as goal

pub loop-e-preserved : goal.loop-e-preserved
loop-e-preserved c =
    let l = c.loop-e in
    let test = c.grants_in-test in
    rw (c.put.ensures, c.from.ensures) (region_more c.args.store.now (Grants c.args.kind c.args.of.now) l.e _ l.part l.invariant
    (λ P rest L f graded h. rw c.from-in-loop-e.ensures (holds_flag test.result) ∙ test.ensures P rest f L graded h))
