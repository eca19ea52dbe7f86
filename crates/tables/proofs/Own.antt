-- A path of S stands for itself.
-- Assumes nothing.
use mathlib.Core.Path.{◌≡◌, sym, ap, ◌∙◌}
use mathlib.Core.Logic.{◌⊎◌, inl, inr}
use mathlib.Core.Bool.{So}
use Prim.Native.Nat.{ℕ, ◌+◌, ◌<◌}
use lib.Dec.{eqb}
use lib.ListN.{length, get_or}
use Rattle.paths.proofs.Bools.{eqb-to}
use Rattle.gran.specs.Lists.{none, place}
use Rattle.gran.specs.Policy.{Policy}
use Rattle.gran.specs.Match.{path_at, is_subject, paths_of_s, subject_of}
use Rattle.gran.specs.Good.{Good}
use Rattle.gran.proofs.Lists.{place_is}
use Rattle.gran.proofs.Policies.{path_subject, subject_of_self}

module _ (P : Policy) (good : Good P) (c v : ℕ) (at : v ≡ place (eqb c) 0 (paths_of_s P)) (found : v ≡ none → ⊥) where
  pub stands_own : v ≡ place (eqb (subject_of P (path_at P.paths c))) 0 (paths_of_s P)
  stands_own = go (place_is (eqb c) none 0 (paths_of_s P))
    where
      go : (place (eqb c) 0 (paths_of_s P) ≡ none) ⊎ ((j : ℕ) × (place (eqb c) 0 (paths_of_s P) ≡ 0 + j) × (j < length (paths_of_s P)) × So (eqb c (get_or (paths_of_s P) j none)))
          → v ≡ place (eqb (subject_of P (path_at P.paths c))) 0 (paths_of_s P)
      go (inl z) = absurd (found (at ∙ z))
      go (inr (j, p, h, t)) =
          let own : So (is_subject P c) = rw (eqb-to c (get_or (paths_of_s P) j none) t) (path_subject P j h) in
          at ∙ ap (λ (x : ℕ). place (eqb x) 0 (paths_of_s P)) (sym (subject_of_self P good c own))
