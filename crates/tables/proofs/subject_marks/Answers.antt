use mathlib.Core.Path.{◌∙◌}
use mathlib.Core.Bool.{Bool}
use native.Mathlib.Omega.{arith}
use lib.ListN.{length-set}
use Rattle.gran.specs.Match.{subjects}
use Rattle.tables.proofs.Subjects.{marks_begin, marks-next, marks-end, subjects_long, subject_at}
use Rattle.tables.proofs.subject_marks.Goals as goal

pub loop-e-init : goal.loop-e-init
loop-e-init c = (omega arith, λ P rest L. marks_begin (subjects P) 256)

pub loop-e-preserved : goal.loop-e-preserved
loop-e-preserved c =
    let loop = c.loop-e in
    let count = c.entry_count-e-end.ensures in
    let subject = c.entry_subject-c in (
      length-set {A = Bool} loop.marks _ _ ∙ loop.invariant.0,
      λ P rest L.
          rw c.from.ensures (marks-next (subjects P) loop.marks loop.e (loop.invariant.1 P rest L) (omega (arith, subjects_long L, count)) subject.result (subject.ensures ∙ subject_at L loop.e (omega (arith, count)))
          (omega (arith, loop.invariant.0))),
    )

pub returns : goal.returns
returns c P rest L =
    let loop = c.loop-e in
    marks-end (subjects P) loop.marks loop.e (loop.invariant.1 P rest L) (omega (arith, subjects_long L, c.entry_count-e-end.ensures))
