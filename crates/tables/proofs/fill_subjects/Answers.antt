-- `fill_subjects` meets its contract: the paths that are marked among all.
use Rattle.std.proofs.Common.{rules, arith, sym, ◌∙◌, ◌≡◌, get_or, false}
use Rattle.gran.specs.Match.{is_subject, paths_of_s}
use Rattle.tables.proofs.Subjects.{subjects_begin}
use Rattle.tables.proofs.fill_subjects.Goals as goal

pub returns : goal.returns
returns c P rest L room =
    c.fill_passing.ensures (is_subject P) (paths_of_s P)
    (λ i b h p. let marked : b ≡ get_or c.subject_marks-marks.result i false = search rules in marked ∙ sym (c.subject_marks-marks.ensures P rest L i))
    (omega (arith, c.fill_passing.auto.part)) (rw c.path_count.ensures (subjects_begin L c.args.part.now)) room
