-- `place_in` meets its contract: the place of the first that is `c`.
use Rattle.std.proofs.Common.{rules, tests, Some, None, sym}
use Rattle.std.proofs.lemmas.Iterator.{YieldsList-from_slice}
use Rattle.std.proofs.lemmas.Iterator.Search.{position_from_yields_List}
use lib.Dec.{eqb}
use Rattle.tables.proofs.Front.{place_position}
use Rattle.tables.proofs.place_in.Goals as goal

pub returns-in-Some : goal.returns-in-Some
returns-in-Some c =
    sym (place_position (eqb c.args.c) c.args.list.now (Some c.in-Some.i)
    (position_from_yields_List (eqb c.args.c) _ _ (Some c.in-Some.i) c.in-Some.ensures.ran (YieldsList-from_slice c.args.list.now (cc)) (λ x b q k. search (rules, tests))))

pub returns-in-None : goal.returns-in-None
returns-in-None c =
    sym (place_position (eqb c.args.c) c.args.list.now None
    (position_from_yields_List (eqb c.args.c) _ _ None c.in-None.ensures.ran (YieldsList-from_slice c.args.list.now (cc)) (λ x b q k. search (rules, tests))))
