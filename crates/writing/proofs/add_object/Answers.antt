-- `writing::add_object` meets its contract: a row behind the objects, and a count in the last entry's row.
use borrow.Author.Rules.{rules}
use Rattle.writing.proofs.Promises.{object_added}
use Rattle.writing.proofs.add_object.Goals as goal

pub returns : goal.returns
returns c =
    object_added c.args.t c.args.store.now c.requires.entries_nonzero.0 (record { path = c.args.path; modes = c.args.modes }) c.requires.bounded
    c.with_object-next.ensures c.put_row.ensures c.put_count.ensures
    (search rules)
