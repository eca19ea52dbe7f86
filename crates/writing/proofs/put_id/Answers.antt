-- `writing::put_id` meets its contract.
use Rattle.writing.proofs.Promises.{id-written}
use Rattle.writing.proofs.put_id.Goals as goal

pub returns : goal.returns
returns c =
    id-written c.args.t c.args.store.now c.args.id c.args.field c.args.count
    c.id_bytes.ensures c.put_row.ensures
    c.put_count.ensures
