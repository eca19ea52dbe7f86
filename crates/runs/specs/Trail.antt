-- Runs as a search makes them: the places of their steps in `steps`, the last step first.
-- Assumes nothing.
use Rattle.std.specs.Prelude.{◌≡◌, ◌⊎◌, List, [], ◌∷◌, ◌++◌, ℕ, ◌<◌, length, get_or}
use Rattle.gran.specs.Lists.{none}
use Rattle.gran.specs.Policy.{Policy}
use Rattle.gran.specs.Abstract.{Act, set_special, next}
use Rattle.gran.specs.declared.State.{State}
use Rattle.runs.specs.Steps.{steps}

abbrev pub Trail : Type 0
Trail = List ℕ

-- ---- the order

-- The shorter before the longer; of two as long, the one with the earlier step where they first differ.
abbrev pub Ahead : Trail → Trail → Type 0
Ahead r [] = ⊥
Ahead [] (j ∷ q) = Unit
Ahead (i ∷ r) (j ∷ q) = Ahead r q ⊎ ((r ≡ q) × (i < j))

-- r is q, or comes before it.
abbrev pub NoLater : Trail → Trail → Type 0
NoLater r q = (r ≡ q) ⊎ Ahead r q

-- ---- where a trail leads

-- How many steps a state has.
abbrev pub width : Policy → State → ℕ
width P β = length (steps P β)

-- The step at a place.
unfoldable pub step_at : Policy → State → ℕ → Act
step_at P β i = get_or (steps P β) i (set_special none)

-- a is the step of β at place i.
pub record IsStep (P : Policy) (β : State) (i : ℕ) (a : Act) : Type 0 where
  pub within : i < width P β
  pub is : step_at P β i ≡ a

-- The state that the step at a place leads to.
unfoldable pub to : Policy → State → ℕ → State
to P β i = next β (step_at P β i)

module _ (P : Policy) (α : State) where
  -- Where the trail ends that begins in α.
  abbrev pub end : Trail → State
  end [] = α
  end (i ∷ r) = to P (end r) i

  -- Each place of the trail is one of a step.
  abbrev pub Fits : Trail → Type 0
  Fits [] = Unit
  Fits (i ∷ r) = Fits r × (i < width P (end r))

  -- The trail leads from α to β.
  abbrev pub Arrives : Trail → State → Type 0
  Arrives r β = Fits r × (end r ≡ β)

  -- Its acts, the first act first.
  abbrev pub acts_of : Trail → List Act
  acts_of [] = []
  acts_of (i ∷ r) = acts_of r ++ (step_at P (end r) i ∷ [])
