-- `writing::finish` meets its contract: the header over the first 16 bytes.
use borrow.Author.Rules.{rules}
use Rattle.writing.proofs.Header.{finished}
use Rattle.writing.proofs.finish.Goals as goal

pub returns : goal.returns
returns c =
    finished c.args.t c.args.root c.args.subjects c.args.store.now c.requires.bounded c.header_row-row.ensures c.put_row.ensures (search rules)
