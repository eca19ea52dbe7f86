-- `writing::add_role` meets its contract: a row behind the roles.
use borrow.Author.Rules.{rules}
use Rattle.writing.proofs.Promises.{role_added}
use Rattle.writing.proofs.add_role.Goals as goal

pub returns : goal.returns
returns c =
    role_added c.args.t c.args.store.now (record { kind = c.args.kind; id = c.args.id }) c.requires.bounded c.with_role.ensures c.role_row-row.ensures c.put_row.ensures (search rules)
