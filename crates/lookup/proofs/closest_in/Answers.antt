-- `closest_in` meets its contract: the best place among the listed paths.
use Rattle.std.proofs.Common.{rules}
use Rattle.lookup.specs.Best.{grade_listed}
use Rattle.lookup.proofs.Listed.{listed-closest}
use Rattle.lookup.proofs.closest_in.Goals as goal

pub returns : goal.returns
returns c P rest L own =
    let args = c.args in
    rw (c.best_place.ensures (grade_listed args.store.now args.file.now args.list.now) (search rules), own) (listed-closest L args.file.now)
