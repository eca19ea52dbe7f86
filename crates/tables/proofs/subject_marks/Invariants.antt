-- `subject_marks` meets its contract: the subjects of the entries that were passed are marked.
use mathlib.Core.Path.{◌≡◌}
use mathlib.Core.List.{List}
use Prim.Native.Nat.{ℕ}
use lib.ListN.{length}
use Rattle.gran.specs.Policy.{Policy}
use Rattle.gran.specs.Match.{subjects}
use Rattle.store.specs.Held.{Loaded}
use Rattle.tables.proofs.Subjects.{Marked}
use Rattle.tables.proofs.subject_marks.Given as goal

abbrev pub invariant-loop-e : goal.invariant-loop-e
invariant-loop-e l = (length l.marks ≡ 256) × ((P : Policy) (rest : List ℕ) → Loaded P rest l.store → Marked (subjects P) l.marks l.e)
