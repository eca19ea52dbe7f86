-- `ending::subjects_in` meets its contract: the marks that are set are the paths of S.
use mathlib.Core.Path.{◌≡◌, ◌∙◌}
use native.Mathlib.Omega.{arith}
use lib.ListN.{take}
use Rattle.std.proofs.Common.{rules}
use Rattle.std.specs.List.{count_by}
use Rattle.gran.specs.Match.{is_subject, paths_of_s}
use Rattle.ending.proofs.Marks.{marks-counted}
use Rattle.ending.proofs.subjects_in.Goals as goal

pub returns : goal.returns
unfolding paths_of_s
returns c P rest sound h =
    let marks = c.subject_marks-marks in
    let paths = c.args.loading.tally.paths in
    let counted : c.count.result ≡ count_by (λ mark. mark) (take paths marks.result) = search rules in
    counted ∙ rw (← h.paths) (marks-counted (is_subject P) marks.result paths (marks.ensures P rest sound h) (omega arith))
