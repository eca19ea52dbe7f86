use native.Mathlib.Omega.{arith}
use Rattle.lookup.specs.Index.{entry_index, object_index}
use Rattle.tables.proofs.Rows.{rows_more}
use Rattle.tables.proofs.fill_rows.Goals as goal

pub fill_row-requires : goal.fill_row-requires
unfolding entry_index object_index
fill_row-requires c = record { entries_value = (c.index_entries.ensures, c.index_objects.ensures); k_bound = omega arith; part_len = omega arith }

pub loop-k-preserved : goal.loop-k-preserved
loop-k-preserved c =
    let loop = c.loop-k in
    let row = c.fill_row in
    (omega (arith, row.auto.part), rows_more c.args.store.now c.args.subjects.now loop.k loop.part _ (omega arith) (omega arith) loop.invariant.1 row.ensures)
