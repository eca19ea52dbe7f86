use mathlib.Core.Path.{ap, ◌∙◌, sym}
use mathlib.Core.Bool.{not, true, false}
use native.Mathlib.Omega.{arith}
use Prim.Native.Nat.{◌<◌}
use lib.ListN.{length}
use Rattle.gran.specs.Match.{no_entry}
use Rattle.gran.proofs.Lists.{any_next}
use Rattle.policy.specs.Load.{lacks_object}
use Rattle.ending.proofs.Roots.{lacks-object}
use Rattle.ending.proofs.lacks_object.Goals as goal

pub returns-then-not-has_object : goal.returns-then-not-has_object
returns-then-not-has_object c P rest sound h e =
    let i = c.loop-i.i in
    let within : i < length P.entries = omega (arith, h.entries) in
    let lacks = lacks-object P sound i within c.args.root _ e (c.has_object.ensures P rest sound h) in
    sym (c.loop-i.invariant P rest sound h e ∙ any_next (lacks_object P) P.entries i no_entry within true (sym (ap not c.if-not-has_object.true) ∙ lacks))

pub loop-i-preserved : goal.loop-i-preserved
loop-i-preserved c P rest sound h e =
    let i = c.loop-i.i in
    let within : i < length P.entries = omega (arith, h.entries) in
    let lacks = lacks-object P sound i within c.args.root _ e (c.has_object.ensures P rest sound h) in
    c.loop-i.invariant P rest sound h e ∙ any_next (lacks_object P) P.entries i no_entry within false (sym (ap not c.if-not-has_object.false) ∙ lacks)
