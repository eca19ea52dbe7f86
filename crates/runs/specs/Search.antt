-- What a breadth-first search has found, as a list in the order of finding, and what is known while it goes on.
-- Assumes nothing.
use Rattle.std.specs.Prelude.{◌≡◌, ◌⊎◌, cond, List, [], ◌∷◌, ◌++◌, ℕ, zero, suc, ◌<◌, eqb, length, get_or}
use Rattle.gran.specs.Lists.{none}
use Rattle.gran.specs.Policy.{Policy}
use Rattle.gran.specs.Abstract.{Act, set_special, begun}
use Rattle.gran.specs.declared.State.{State}
use Rattle.runs.specs.Trail.{Trail, Ahead, NoLater, width, step_at, to, Arrives}

-- A state that was found: from which place of the queue, by which act, and by which trail.
pub record Queued : Type 0 where
  pub state : State
  pub parent : ℕ
  pub act : Act
  pub trail : Trail

-- The start, which no act leads to.
abbrev pub first : State → Queued
first α = record { state = α; parent = 0; act = set_special none; trail = [] }

-- The queue at a place.
unfoldable pub queued : List Queued → ℕ → Queued
queued found k = get_or found k (first (begun none none none))

unfoldable pub state_at : List Queued → ℕ → State
state_at found k = (queued found k).state

unfoldable pub parent_at : List Queued → ℕ → ℕ
parent_at found k = (queued found k).parent

unfoldable pub act_at : List Queued → ℕ → Act
act_at found k = (queued found k).act

unfoldable pub trail_at : List Queued → ℕ → Trail
trail_at found k = (queued found k).trail

-- The acts from the start to place k, by the parents; `fuel` is at least k.
abbrev pub acts_back : List Queued → ℕ → ℕ → List Act
acts_back found zero k = []
acts_back found (suc fuel) k = cond (eqb k 0) [] (acts_back found fuel (parent_at found k) ++ (act_at found k ∷ []))

unfoldable pub acts_to : List Queued → ℕ → List Act
acts_to found k = acts_back found k k

-- β was found, by a trail no later than r.
abbrev pub Known : List Queued → Trail → State → Type 0
Known found r β = (k : ℕ) × (k < length found) × (state_at found k ≡ β) × NoLater (trail_at found k) r

-- Step l of place j has been tried, when place p is at its step i.
abbrev pub Tried : ℕ → ℕ → ℕ → ℕ → Type 0
Tried p i j l = (j < p) ⊎ ((j ≡ p) × (l < i))

-- Place k was found from an earlier place, by the act at the end of its trail.
pub record Child (P : Policy) (found : List Queued) (k : ℕ) : Type 0 where
  pub step : ℕ
  pub earlier : parent_at found k < k
  pub trail : trail_at found k ≡ step ∷ trail_at found (parent_at found k)
  pub act : step_at P (state_at found (parent_at found k)) step ≡ act_at found k

-- A search from α stands at place p of the queue and has tried the first i steps of that state.
pub record Searched (P : Policy) (α : State) (found : List Queued) (p i : ℕ) : Type 0 where
  pub some : 0 < length found
  pub starts : (state_at found 0 ≡ α) × (trail_at found 0 ≡ [])
  pub arrives : (k : ℕ) → k < length found → Arrives P α (trail_at found k) (state_at found k)
  pub sorted : (j k : ℕ) → j < k → k < length found → Ahead (trail_at found j) (trail_at found k)
  pub least : (k : ℕ) → k < length found → (r : Trail) → Arrives P α r (state_at found k) → NoLater (trail_at found k) r
  pub children : (k : ℕ) → 0 < k → k < length found → Child P found k
  pub within : p < length found → (k : ℕ) → k < length found → Ahead (trail_at found k) (i ∷ trail_at found p)
  pub closed : (j l : ℕ) → j < length found → Tried p i j l → l < width P (state_at found j) → Known found (l ∷ trail_at found j) (to P (state_at found j) l)
