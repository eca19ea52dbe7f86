-- What the tests after the last line answer: of the policy that lies in the store.
-- Assumes nothing.
use Rattle.std.specs.Prelude.{◌≡◌, cond, List, ◌++◌, ℕ, ltb, length}
use Rattle.gran.specs.Policy.{Policy}
use Rattle.gran.specs.Good.{states_of}
use Rattle.store.specs.Layout.{layout}
use Rattle.store.specs.Held.{Holds}
use Rattle.store.specs.declared.Tally.{Tally}
use Rattle.policy.specs.Load.{unrooted}
use Rattle.policy.specs.Sound.{SoundPolicy}
use Rattle.judge.specs.Judge.{Answers}

-- After the last line: 15, 16 too many states, or 0.
unfoldable pub end_refusal : Policy → ℕ
end_refusal P = cond (unrooted P) 15 (cond (ltb 8192 (states_of P)) 16 0)

-- The refusal; under 0 the policy's layout in front, under another number the bytes as they were.
pub record Settled (t : Tally) (before : List ℕ) (number : ℕ) (after : List ℕ) : Type 0 where
  pub kept : length after ≡ length before
  pub lowest : Answers t before (λ (P : Policy). number ≡ end_refusal P)
  pub stored : number ≡ 0 → (P : Policy) (rest : List ℕ) → SoundPolicy P → Holds P rest t before → after ≡ layout P ++ rest
  pub same : (number ≡ 0 → ⊥) → after ≡ before
