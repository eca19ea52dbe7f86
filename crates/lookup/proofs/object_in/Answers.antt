-- `object_in` meets its contract: the best place among the entry's objects.
use Rattle.std.proofs.Common.{rules}
use Rattle.lookup.specs.Best.{object_grade}
use Rattle.lookup.proofs.Found.{object_found}
use Rattle.lookup.proofs.object_in.Goals as goal

pub returns : goal.returns
returns c P rest f L graded known =
    let args = c.args in
    rw (c.best_place.ensures (object_grade args.store.now args.of.now c.first_object-first.result) (search rules), c.object_count-count.ensures, c.first_object-first.ensures) (object_found L f _ graded _ known)
