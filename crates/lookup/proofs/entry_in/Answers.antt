-- `entry_in` meets its contract: the best place among the role's subjects.
use Rattle.std.proofs.Common.{rules}
use Rattle.lookup.specs.Best.{role_grade}
use Rattle.lookup.proofs.Found.{entry_found}
use Rattle.lookup.proofs.entry_in.Goals as goal

pub returns : goal.returns
returns c P rest f L graded known =
    let args = c.args in
    rw (c.best_place.ensures (role_grade args.store.now args.of.now args.role) (search rules), c.entry_count-count.ensures) (entry_found L f _ graded _ known)
