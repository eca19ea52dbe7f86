-- `writing::add_move` meets its contract: a row behind the pool.
use borrow.Author.Rules.{rules}
use Rattle.writing.proofs.Promises.{move_added}
use Rattle.writing.proofs.add_move.Goals as goal

pub returns : goal.returns
returns c =
    move_added c.args.t c.args.store.now (record { role = c.args.role; special = c.args.special }) c.requires.bounded c.with_move.ensures c.put_row.ensures (search rules)
