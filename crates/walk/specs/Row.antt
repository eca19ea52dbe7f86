-- A row of states, evenly apart, as the loop for 81 to 83 goes through it.
-- Assumes nothing.
use Rattle.std.specs.Prelude.{List, ℕ, ◌+◌, ◌*◌, ◌≤◌, ◌<◌}
use Rattle.tables.specs.Tables.{is_set}
use Rattle.numbered.specs.Number.{all_states}
use Rattle.numbered.specs.Candidates.{Step, offered, flat}
use Rattle.numbered.specs.declared.Sizes.{Sizes}
use Rattle.walk.specs.declared.steps.Span.{Span}

-- A step to state j of the row, where cell j of those from `cells` on is set.
unfoldable pub row_step : List ℕ → ℕ → ℕ → ℕ → ℕ → ℕ → List Step
row_step t cells first stride label j = offered (is_set t (cells + j)) label (first + j * stride)

-- The steps to the states of a row, in order.
abbrev pub row_steps : List ℕ → Span → List Step
row_steps t row = flat (row_step t row.cells row.first row.stride row.label) 0 row.count

-- The cells and the stride are small, and each number of the row is a state's.
pub record Row (z : Sizes) (cells count first stride : ℕ) : Type 0 where
  pub room : cells + count ≤ 8192
  pub near : stride ≤ 8192
  pub states : (j : ℕ) → j < count → first + j * stride < all_states z
