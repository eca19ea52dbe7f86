-- `ending::subject_marks` meets its contract. The invariant: the subjects of the entries before `i` are marked.
use mathlib.Core.Path.{◌≡◌}
use lib.ListN.{length}
use Rattle.gran.specs.Policy.{Policy}
use Rattle.gran.specs.Match.{subjects}
use Rattle.judge.specs.Judge.{Answers}
use Rattle.ending.proofs.Marks.{Marked}
use Rattle.ending.proofs.subject_marks.Given as goal

abbrev pub invariant-loop-i : goal.invariant-loop-i
invariant-loop-i l = (length l.marks ≡ 256) × Answers l.loading.tally l.loading.bytes.now (λ (P : Policy). Marked (subjects P) l.marks l.i)
