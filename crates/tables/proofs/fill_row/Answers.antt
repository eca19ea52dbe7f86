-- `fill_row` meets its contract: the two parts come back filled.
use Prim.Native.Nat.{◌+◌, ◌*◌, ◌-◌}
use native.Mathlib.Omega.{arith}
use Rattle.tables.proofs.Rows.{row-filled}
use Rattle.tables.proofs.fill_row.Goals as goal

pub returns : goal.returns
returns c =
    let args = c.args in
    let force = c.copy_from_slice in
    let places = c.copy_from_slice-2 in
    let at = 32 * args.k in
    let behind = 2048 + 64 * args.k in
    row-filled args.k (at + 32 - at) (behind + 64 - behind) args.part.now force.new.self places.new.self c.requires.k_bound c.requires.part_len (omega arith) (omega arith) force.auto.self places.auto.self
    args.c (λ P rest L named. rw (force.ensures.after, places.ensures.after) (c.rows_of-rows.ensures P rest L named))
