-- `stand` meets its contract: a path of S stands for itself, and else for the closest of S.
use mathlib.Core.Path.{ap, ◌∙◌}
use mathlib.Core.List.{List}
use Prim.Native.Nat.{ℕ}
use lib.Dec.{eqb}
use Rattle.gran.specs.Lists.{place}
use Rattle.gran.specs.Match.{paths_of_s, subject_of}
use Rattle.fields.proofs.Paths.{path_read}
use Rattle.tables.proofs.Own.{stands_own}
use Rattle.tables.proofs.stand.Goals as goal

pub returns-then-own : goal.returns-then-own
returns-then-own c P rest L own =
    stands_own P L.good _ _ (c.place_in-own.ensures ∙ ap (place (eqb c.args.c) 0) own) c.if-own.true

pub returns : goal.returns
returns c P rest L own =
    c.closest_in.ensures P rest L own ∙ ap (λ (f : List ℕ). place (eqb (subject_of P f)) 0 (paths_of_s P)) (c.path.ensures.bytes ∙ path_read L _)
