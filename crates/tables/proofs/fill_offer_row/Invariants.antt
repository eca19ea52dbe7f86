-- `fill_offer_row` meets its contract: each cell that was passed says whether the row has its choice.
use Prim.Native.Nat.{◌+◌}
use Rattle.tables.specs.Regions.{Region, Offers, role_kind_of}
use Rattle.tables.proofs.fill_offer_row.Given as goal

abbrev pub invariant-loop-j : goal.invariant-loop-j
invariant-loop-j l =
    Region l.store (Offers (role_kind_of l.kind) l.choices) l.first l.initial.part → Region l.store (Offers (role_kind_of l.kind) l.choices) (l.first + l.j) l.part
