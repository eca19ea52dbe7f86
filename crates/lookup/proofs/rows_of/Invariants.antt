-- `rows_of` meets its contract. The invariant: the best of the paths passed, for each role and each entry.
use mathlib.Core.Path.{◌≡◌}
use mathlib.Core.List.{List}
use Prim.Native.Nat.{ℕ, ◌<◌}
use lib.ListN.{length}
use Rattle.gran.specs.Policy.{Policy}
use Rattle.store.specs.Held.{Loaded}
use Rattle.lookup.specs.Lookup.{grade_of}
use Rattle.lookup.proofs.Taking.{Tops}
use Rattle.lookup.proofs.rows_of.Given as goal

abbrev pub invariant-loop-q : goal.invariant-loop-q
invariant-loop-q l =
    (length l.entries ≡ 3072) × (length l.objects ≡ 6144)
    × ((P : Policy) (rest : List ℕ) → Loaded P rest l.store → l.c < length P.paths
    → Tops 32 l.entries (grade_of P l.file) l.q l.force.grades l.force.noted × Tops 64 l.objects (grade_of P l.file) l.q l.places.grades l.places.noted)
