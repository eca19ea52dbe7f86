-- Reached, never, and the fewest steps, over real runs and over abstract ones.
-- Assumes nothing.
use Rattle.std.specs.Prelude.{◌≡◌, List, ℕ, ◌<◌, length}
use Rattle.std.proofs.Math.Bool.{So}
use Rattle.gran.specs.Policy.{Policy}
use Rattle.gran.specs.Real
use Rattle.gran.specs.Abstract
use Rattle.gran.specs.declared.State.{State}

-- A question: a kind of access, 0 read or 1 write, and a target file.
pub record Question : Type 0 where
  pub kind : ℕ
  pub target : List ℕ

-- A real run of n steps over the file systems fs, to a state that has the access.
pub record Reached (P : Policy) (q : Question) (σ : Real.State) (fs : Real.Files) (n : ℕ) : Type 0 where
  pub acts : List Real.Act
  pub steps : length acts ≡ n
  pub runs : So (Real.run P σ acts)
  pub there : Real.On fs acts
  pub granted : So (Real.access P q.kind q.target (Real.last σ acts))

-- The same on some file systems.
abbrev pub Reachable : Policy → Question → Real.State → ℕ → Type 1
Reachable P q σ n = (fs : Real.Files) × Reached P q σ fs n

-- The acts are an abstract run to a state that has the access.
pub record Granted (P : Policy) (q : Question) (α : State) (acts : List Abstract.Act) : Type 0 where
  pub runs : So (Abstract.run P α acts)
  pub granted : So (Abstract.access P q.kind q.target (Abstract.last α acts))

-- An abstract run of n steps, to a state that has the access.
abbrev pub Found : Policy → Question → State → ℕ → Type 0
Found P q α n = (acts : List Abstract.Act) × (length acts ≡ n) × Granted P q α acts

module _ {ℓ} (Q : ℕ → Type ℓ) where
  -- No number of steps is enough.
  abbrev pub Never : Type ℓ
  Never = (n : ℕ) → Q n → ⊥

  -- n steps are enough, and no fewer.
  abbrev pub Fewest : ℕ → Type ℓ
  Fewest n = Q n × ((m : ℕ) → m < n → Q m → ⊥)
