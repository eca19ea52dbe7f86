use mathlib.Core.Path.{◌∙◌, refl, sym}
use mathlib.Core.List.{[]}
use mathlib.Core.Bool.{true, false}
use native.Mathlib.Omega.{arith}
use Prim.Native.Nat.{◌<◌}
use lib.ListN.{length}
use borrow.Author.Tests.{eq-eqb, ne_eqb}
use Rattle.paths.specs.Path.{is_slash}
use Rattle.store.specs.Layout.{root_of}
use Rattle.ending.proofs.Roots.{place-next}
use Rattle.ending.proofs.Stored.{slash_read}
use Rattle.ending.proofs.root_of.Goals as goal

pub loop-i-init : goal.loop-i-init
unfolding root_of
loop-i-init c P rest sound h = refl

pub returns-then-loading-i-eq1 : goal.returns-then-loading-i-eq1
returns-then-loading-i-eq1 c P rest sound h =
    let l = c.args.loading in
    let i = c.loop-i.i in
    let within : i < length P.paths = omega (arith, h.paths) in
    sym (c.loop-i.invariant P rest sound h ∙ place-next is_slash P.paths [] i within true (sym (slash_read P rest l.tally l.bytes.now l.bounded h sound i within ∙ eq-eqb _ _ c.if-loading-i-eq1.true)))

pub loop-i-preserved : goal.loop-i-preserved
loop-i-preserved c P rest sound h =
    let l = c.args.loading in
    let i = c.loop-i.i in
    let within : i < length P.paths = omega (arith, h.paths) in
    c.loop-i.invariant P rest sound h ∙ place-next is_slash P.paths [] i within false (sym (slash_read P rest l.tally l.bytes.now l.bounded h sound i within ∙ ne_eqb _ _ c.if-loading-i-eq1.false))
