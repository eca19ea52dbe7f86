-- `execs::followers` meets its contract: the kept choice, and behind it those of the others that are allowed.
use Rattle.std.proofs.Common.{length, ap, arith, rules}
use Rattle.walk.specs.Image.{is_another, followers_of}
use Rattle.walk.proofs.execs.followers.Goals as goal

pub push_where-requires : goal.push_where-requires
push_where-requires g c =
    let empty = c.requires.1.1.1.1 in
    let e = rw empty at c.push.ensures in
    (search rules, ((omega (arith, ap length e), omega arith), λ k lt. search rules))

pub returns : goal.returns
unfolding followers_of
returns g c =
    let a = c.args in
    let empty = c.requires.1.1.1.1 in
    let e = rw empty at c.push.ensures in
    rw e at (c.push_where.ensures (is_another a.t.now a.cells a.kept) (λ k lt b q. search rules))
