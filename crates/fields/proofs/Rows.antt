-- A row of readings as a list: what stands at a place of it, how long it is, and which list it is.
-- Assumes nothing.
use mathlib.Core.Path.{◌≡◌, refl, ap, ◌∙◌}
use mathlib.Core.List.{List}
use Prim.Native.Nat.{ℕ, zero, suc, ◌+◌, ◌<◌}
use native.Mathlib.Nat.{not-suc-le-zero, le_of_suc-le-suc, add-zero, zero-add}
use native.Mathlib.Omega.{arith}
use lib.ListN.{length, get_or}
use lib.Seq.{ext_get_or}
use Rattle.fields.specs.Fields.{row}

pub row_at : {A : Type 0} (f : ℕ → A) (d : A) (n i : ℕ) → i < n → get_or (row f 0 n) i d ≡ f i
unfolding row
row_at {A} f d n i l = go 0 n i l ∙ rw (zero-add i)
  where
    go : (k n i : ℕ) → i < n → get_or (row f k n) i d ≡ f (k + i)
    go k zero i l = absurd (not-suc-le-zero l)
    go k (suc n) zero l = rw (add-zero k)
    go k (suc n) (suc i) l = let e : suc k + i ≡ k + suc i = omega arith in go (suc k) n i (le_of_suc-le-suc l) ∙ rw e

pub row-length : {A : Type 0} (f : ℕ → A) (n : ℕ) → length (row f 0 n) ≡ n
unfolding row
row-length f n = go 0 n
  where
    go : (k n : ℕ) → length (row f k n) ≡ n
    go k zero = refl
    go k (suc n) = ap suc (go (suc k) n)

-- it is the list, where their number is its length and each reading is its element
pub row_is : {A : Type 0} (f : ℕ → A) (n : ℕ) (xs : List A) (d : A) → n ≡ length xs → ((j : ℕ) → j < length xs → f j ≡ get_or xs j d) → row f 0 n ≡ xs
row_is f n xs d e same = ext_get_or d (row f 0 n) xs (row-length f n ∙ e) (λ j h. let l : j < n = omega (arith, row-length f n) in row_at f d n j l ∙ same j (omega arith))
