use mathlib.Core.Path.{◌≡◌, refl, ap, ◌∙◌}
use Prim.Native.Nat.{ℕ, ◌+◌, ◌*◌, ◌<◌}
use native.Mathlib.Omega.{arith}
use lib.ListN.{length}
use lib.Seq.{get_or-take, length-take-le}
use Rattle.tables.specs.Regions.{Offers, role_kind_of}
use Rattle.tables.proofs.Cells.{region_more, region_past, holds_flag}
use Rattle.tables.proofs.Offers.{offers_at, offers_past}
use Rattle.tables.proofs.fill_offer_row.Goals as goal

pub loop-j-preserved : goal.loop-j-preserved
loop-j-preserved c before =
    let args = c.args in
    let loop = c.loop-j in
    let cs = args.choices.now in
    let k = role_kind_of args.kind in
    let first = c.from.result * length cs in
    let begins : first ≡ args.row * length cs = ap (λ (n : ℕ). n * length cs) c.from.ensures in
    let listed = length-take-le args.count cs c.requires.1 in
    let inside : loop.j < args.count = omega arith in
    let next : first + (loop.j + 1) ≡ first + loop.j + 1 = omega arith in
    rw (next, c.put.ensures, c.from-in-loop-j.ensures) (region_more args.store.now (Offers k cs) (first + loop.j) _ loop.part (loop.invariant before)
    (λ P rest L. offers_at P k cs args.row first begins loop.j _ (omega arith)
    (λ h choice. holds_flag c.offered-test.result ∙ (rw (get_or-take args.count cs loop.j 0 inside) at (c.offered-test.ensures P rest L)) h choice)))

pub returns : goal.returns
returns c counted before =
    let args = c.args in
    let cs = args.choices.now in
    let first = args.row * length cs in
    let end : c.loop-j.j ≡ args.count = omega (arith, length-take-le args.count cs c.requires.1) in
    region_past args.store.now (Offers (role_kind_of args.kind) cs) (first + args.count) (first + length cs) c.loop-j.part
    (rw (c.from.ensures, end) at (c.loop-j.invariant (rw c.from.ensures before)))
    (λ P rest L i v. offers_past P (role_kind_of args.kind) cs args.row first refl args.count i v (counted P rest L))
