use Rattle.std.proofs.Common.{◌∙◌, arith, ◌<◌}
use Rattle.fields.proofs.Header.{path-count}
use Rattle.lookup.proofs.Found.{grade_read}
use Rattle.lookup.proofs.grades_for.Goals as goal

pub returns : goal.returns
returns c P rest L k l =
    let passed : k < c.loop-c.c = grind (arith, c.path_count.ensures, path-count L, L.good.few_paths) in
    c.loop-c.invariant.1 k passed ∙ grade_read L _ k l
