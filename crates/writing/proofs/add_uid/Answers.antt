-- `writing::add_uid` meets its contract: an id behind the pool, and a count in the last entry's row.
use borrow.Author.Rules.{rules}
use Rattle.writing.proofs.Promises.{uid_added}
use Rattle.writing.proofs.add_uid.Goals as goal

pub returns : goal.returns
returns c =
    uid_added c.args.t c.args.store.now c.requires.entries_nonzero.0 c.args.id c.requires.bounded c.with_uid-next.ensures c.put_id.ensures (search rules)
