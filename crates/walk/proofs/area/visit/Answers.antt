-- `area::visit` meets its contract: that the memory is kept bounds the count.
use native.Mathlib.Omega.{arith}
use Rattle.walk.proofs.Keeping.{kept_below}
use Rattle.walk.proofs.area.visit.Goals as goal

pub bounds-area-w : goal.bounds-area-w
bounds-area-w c =
    let g = c.requires.0 in
    omega (arith, kept_below c.args.given.sizes g.sized.few g.kept c.args.n c.requires.1 c.if-found.false, g.kept.long)
