-- The cells of one row of offers: cell `at + j` says whether the row has choice j.
-- Assumes nothing.
use mathlib.Core.Path.{◌≡◌, ap, ◌∙◌}
use mathlib.Core.List.{List}
use Prim.Native.Nat.{ℕ, ◌+◌, ◌*◌, ◌-◌, ◌%◌, ◌≤◌, ◌<◌}
use native.Mathlib.Omega.{arith}
use lib.Arith.{digits_div, digits_mod}
use lib.ListN.{length}
use Rattle.gran.specs.Policy.{Policy}
use Rattle.runs.specs.Steps.{choices}
use Rattle.tables.specs.Tables.{cell}
use Rattle.tables.specs.Regions.{holds, Choice, Offers, offers, rows_for}
use Rattle.tables.proofs.Front.{front_at}
use Rattle.tables.proofs.Choices.{choice_is}

module _ (P : Policy) (k : ℕ) (cs : List ℕ) (row at : ℕ) (begins : at ≡ row * length cs) where
  pub offers_at : (j v : ℕ) → j < length cs → (row < rows_for P k → Choice P k (cell cs j) → holds v ≡ offers P k row (cell cs j)) → Offers k cs P (at + j) v
  offers_at j v inside here = rw (begins, digits_div row inside, digits_mod row inside) (λ room front h l.
      let e = front_at (choices P k) cs j front room l in here h (rw e (choice_is P k j l)) ∙ ap (offers P k row) e)

  -- Cells behind the choices say nothing.
  pub offers_past : (count i v : ℕ) → (length (choices P k) ≤ length cs → length (choices P k) ≤ count) → at + count ≤ i → i < at + length cs → Offers k cs P i v
  offers_past count i v counted h l room front row_is choice =
      let here : i ≡ row * length cs + (i - at) = omega arith in
      let inside : i - at < length cs = omega arith in
      let place : i % length cs ≡ i - at = ap (λ (n : ℕ). n % length cs) here ∙ digits_mod row inside in
      absurd (omega (arith, counted room, place, choice))
