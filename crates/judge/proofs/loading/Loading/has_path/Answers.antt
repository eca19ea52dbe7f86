use mathlib.Core.Bool.{true, false}
use mathlib.Core.List.{[]}
use Rattle.gran.proofs.Lists.{any_next, any-end}
use Rattle.paths.specs.Path.{same}
use native.Mathlib.Omega.{arith}
use mathlib.Core.Path.{◌∙◌, sym}
use Rattle.judge.proofs.loading.Loading.has_path.Goals as goal

pub returns-then-is_path : goal.returns-then-is_path
returns-then-is_path c P rest sound h =
    let l = c.args.self in
    let is = c.is_path.ensures P rest l.tally l.bounded h (omega (arith, h.paths)) in
    sym (c.loop-i.invariant P rest sound h ∙ any_next (same c.args.path.now) P.paths c.loop-i.i [] (omega (arith, h.paths)) true (sym c.if-is_path.true ∙ is))

pub loop-i-preserved : goal.loop-i-preserved
loop-i-preserved c P rest sound h =
    let l = c.args.self in
    let is = c.is_path.ensures P rest l.tally l.bounded h (omega (arith, h.paths)) in
    c.loop-i.invariant P rest sound h ∙ any_next (same c.args.path.now) P.paths c.loop-i.i [] (omega (arith, h.paths)) false (sym c.if-is_path.false ∙ is)

pub returns : goal.returns
returns c P rest sound h = sym (c.loop-i.invariant P rest sound h ∙ any-end (same c.args.path.now) P.paths c.loop-i.i (omega (arith, h.paths)))
