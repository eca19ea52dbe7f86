-- What comes before a policy is asked about.
-- Assumes nothing.
use Rattle.std.specs.Prelude.{◌≡◌, List, ℕ, zero, suc, length}
use Rattle.policy.specs.Load.{Outcome, outcome, unchanged}
use Rattle.ask.specs.Ask.{Asked, early}

-- 1 to 6 change nothing; else the text is loaded.
abbrev pub opened_after : ℕ → List ℕ → List ℕ → Outcome
opened_after zero text store = outcome text store
opened_after (suc n) text store = unchanged (suc n) store

abbrev pub opened : List ℕ → Asked → ℕ → List ℕ → Outcome
opened text a work store = opened_after (early (length text) (length store) work a) text store

-- The refusals 1 to 6 and the load, for a work area of this length, answer a number and a line, and leave these bytes in the store.
pub record LoadsAs (text : List ℕ) (a : Asked) (work : ℕ) (store : List ℕ) (number line : ℕ) (left : List ℕ) : Type 0 where
  pub refusal : number ≡ (opened text a work store).number
  pub place : line ≡ (opened text a work store).line
  pub bytes : left ≡ (opened text a work store).bytes
