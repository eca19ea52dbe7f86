-- `writing::add_entry` meets its contract: a row behind the entries.
use borrow.Author.Rules.{rules}
use Rattle.writing.proofs.Promises.{entry_added}
use Rattle.writing.proofs.add_entry.Goals as goal

pub returns : goal.returns
returns c =
    entry_added c.args.t c.args.store.now c.args.subject c.args.role c.args.caps c.args.users c.args.groups c.requires.bounded c.with_entry.ensures
    c.entry_row-row.ensures c.put_row.ensures (search rules)
