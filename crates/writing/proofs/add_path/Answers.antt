-- `writing::add_path` meets its contract: a row behind the places, and the bytes behind the pool.
use borrow.Author.Rules.{rules}
use Rattle.writing.proofs.Promises.{path_added}
use Rattle.writing.proofs.add_path.Goals as goal

pub returns : goal.returns
returns c =
    path_added c.args.t c.args.store.now c.args.path.now c.requires.bounded c.with_path.ensures
    c.place_row-row.ensures c.put_row.ensures
    c.put_row-2.ensures (search rules)
