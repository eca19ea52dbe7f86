-- `fill_offers` meets its contract: the cells of each row that was passed say what it has.
use Prim.Native.Nat.{◌*◌}
use lib.ListN.{length}
use Rattle.tables.specs.Regions.{Region, Offers, role_kind_of}
use Rattle.tables.proofs.fill_offers.Given as goal

abbrev pub invariant-loop-row : goal.invariant-loop-row
invariant-loop-row l = Region l.store (Offers (role_kind_of l.kind) l.choices) (l.row * length l.choices) l.part
