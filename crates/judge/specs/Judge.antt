-- What a test of a frame answers: what its definition says of the policy that lies in the store.
-- Assumes nothing.
use Rattle.std.specs.Prelude.{List, ℕ}
use Rattle.gran.specs.Policy.{Policy, Role}
use Rattle.store.specs.declared.Tally.{Tally}
use Rattle.store.specs.Held.{Holds}
use Rattle.policy.specs.Load.{Load}
use Rattle.policy.specs.Sound.{SoundPolicy}

-- It holds of any sound policy so far that the tallies and the bytes hold.
abbrev pub Answers : Tally → List ℕ → (Policy → Type 0) → Type 0
Answers t bytes Holding = (P : Policy) (rest : List ℕ) → SoundPolicy P → Holds P rest t bytes → Holding P

abbrev pub role : ℕ → ℕ → Role
role kind id = record { kind = kind; id = id }

-- A load, by its policy.
abbrev pub load_of : ℕ → ℕ → Policy → Load
load_of last lines P = record { policy = P; last = last; lines = lines }
