-- `rows::has_row` meets its contract. The invariant: the rows that are left decide.
use Rattle.std.proofs.Common.{◌≡◌, ◌-◌, ◌*◌, ◌≤◌, length}
use Rattle.rows.specs.Rows.{rows_of, has_row}
use Rattle.rows.proofs.has_row.Given as goal

abbrev pub invariant-loop : goal.invariant-loop
invariant-loop l = record {
  room : (l.count - l.counter) * l.width ≤ length l.rest;
  decide : has_row l.key (rows_of l.width l.count l.table) ≡ has_row l.key (rows_of l.width (l.count - l.counter) l.rest);
}
