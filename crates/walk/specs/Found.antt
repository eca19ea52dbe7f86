-- What the memory of a search says in the model's terms.
-- Assumes nothing.
use Rattle.std.specs.Prelude.{◌≡◌, List, [], ◌∷◌, ◌++◌, ℕ, suc, ◌-◌, ◌<◌, length}
use Rattle.std.proofs.Math.Bool.{So}
use Rattle.gran.specs.Policy.{Policy}
use Rattle.gran.specs.Abstract.{Act, may, next}
use Rattle.gran.specs.Reach.{Question}
use Rattle.gran.specs.Run.{Shown}
use Rattle.gran.specs.declared.State.{State}
use Rattle.runs.specs.Search.{Queued, state_at, parent_at, act_at}
use Rattle.numbered.specs.Number.{Inside, state_number}
use Rattle.numbered.specs.Candidates.{label_of}
use Rattle.walk.specs.Walk.{Walk, queued, mark, labelled, trail}
use Rattle.walk.specs.Needed.{Rooted}

-- The memory records what was found: the state of each place, the place that it was found from, and the act's label.
pub record Recorded (P : Policy) (w : Walk) (found : List Queued) : Type 0 where
  pub count : w.count ≡ length found
  pub states : (k : ℕ) → k < length found → queued w.area k ≡ state_number P (state_at found k)
  pub parents : (k : ℕ) → k < length found → mark w.area (state_number P (state_at found k)) ≡ suc (parent_at found k)
  pub labels : (k : ℕ) → 0 < k → k < length found → labelled w.area (state_number P (state_at found k)) ≡ label_of P (state_at found (parent_at found k)) (act_at found k)

-- The state of place k comes from that of an earlier place, by an act that may be done there.
pub record Linking (P : Policy) (found : List Queued) (k : ℕ) : Type 0 where
  pub earlier : parent_at found k < k
  pub may : So (may P (state_at found (parent_at found k)) (act_at found k))
  pub leads : next (state_at found (parent_at found k)) (act_at found k) ≡ state_at found k

-- The states found from α.
pub record Linked (P : Policy) (α : State) (found : List Queued) : Type 0 where
  pub starts : state_at found 0 ≡ α
  pub inside : (k : ℕ) → k < length found → Inside P (state_at found k)
  pub steps : (k : ℕ) → 0 < k → k < length found → Linking P found k

-- The places lead from place k back to the start, by the parents, the start's own left out.
abbrev pub Chain : List Queued → ℕ → List ℕ → Type 0
Chain found k [] = k ≡ 0
Chain found k (j ∷ js) = (k ≡ j) × (0 < j) × (j < length found) × Chain found (parent_at found j) js

-- The acts of such places: the run from the start.
abbrev pub acts_along : List Queued → List ℕ → List Act
acts_along found [] = []
acts_along found (k ∷ ks) = acts_along found ks ++ act_at found k ∷ []

-- The search met the access at its last place: the trail from there is the run that is shown.
pub record Met (P : Policy) (q : Question) (α : State) (w : Walk) : Type 0 where
  pub found : List Queued
  pub some : 0 < w.count
  pub recorded : Recorded P w found
  pub linked : Linked P α found
  pub rooted : Rooted w.area (w.count - 1)
  pub chain : Chain found (w.count - 1) (trail w.area 8192 (w.count - 1))
  pub shown : Shown P q α (acts_along found (trail w.area 8192 (w.count - 1))) (w.count - 1)
