use mathlib.Core.Path.{ap, ◌∙◌, sym}
use mathlib.Core.Bool.{not, true, false}
use native.Mathlib.Omega.{arith}
use lib.ListN.{length}
use Rattle.policy.specs.Load.{lacks_entry}
use Rattle.ending.proofs.Roots.{number-next, lacks-entry}
use Rattle.ending.proofs.lacks_entry.Goals as goal

pub returns-then-not-has_entry : goal.returns-then-not-has_entry
returns-then-not-has_entry c P rest sound h e =
    let i = c.loop-i.i in
    let lacks = lacks-entry P sound i c.args.root _ e (c.has_entry.ensures P rest sound h) in
    sym (c.loop-i.invariant P rest sound h e ∙ number-next (lacks_entry P) (length P.roles) i (omega (arith, h.roles, c.roles-i-end.ensures)) true (sym (ap not c.if-not-has_entry.true) ∙ lacks))

pub loop-i-preserved : goal.loop-i-preserved
loop-i-preserved c P rest sound h e =
    let i = c.loop-i.i in
    let lacks = lacks-entry P sound i c.args.root _ e (c.has_entry.ensures P rest sound h) in
    c.loop-i.invariant P rest sound h e ∙ number-next (lacks_entry P) (length P.roles) i (omega (arith, h.roles, c.roles-i-end.ensures)) false (sym (ap not c.if-not-has_entry.false) ∙ lacks)
