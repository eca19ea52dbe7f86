use mathlib.Core.Path.{◌∙◌}
use native.Mathlib.Omega.{arith}
use lib.ListN.{length-set}
use mathlib.Core.Bool.{true}
use Rattle.gran.specs.Match.{subjects}
use Rattle.ending.proofs.Marks.{marks_begin, marks-next, marks-end}
use Rattle.ending.proofs.Stored.{subjects_long, subject_at}
use Rattle.ending.proofs.subject_marks.Goals as goal

pub loop-i-init : goal.loop-i-init
loop-i-init c = (omega arith, λ P rest sound h. marks_begin (subjects P) 256)

pub loop-i-preserved : goal.loop-i-preserved
loop-i-preserved c =
    let l = c.args.loading in
    let i = c.loop-i.i in
    let subject = c.from-subject in (
      length-set c.loop-i.marks subject.result true ∙ c.loop-i.invariant.0,
      λ P rest sound h.
          marks-next (subjects P) c.loop-i.marks i (c.loop-i.invariant.1 P rest sound h)
          (omega (arith, subjects_long P rest l.tally l.bytes.now l.bounded h))
          subject.result
          (subject.ensures ∙ subject_at P rest l.tally l.bytes.now l.bounded h i (omega (arith, h.entries)))
          (omega (arith, c.loop-i.invariant.0)),
    )

pub returns : goal.returns
returns c P rest sound h =
    let l = c.args.loading in
    marks-end (subjects P) c.loop-i.marks c.loop-i.i (c.loop-i.invariant.1 P rest sound h) (omega (arith, subjects_long P rest l.tally l.bytes.now l.bounded h))
