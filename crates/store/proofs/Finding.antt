-- Rows that are found by how they begin: the same as a test of what the rows stand for.
-- Assumes nothing.
use mathlib.Core.Path.{◌≡◌, refl}
use mathlib.Core.Bool.{Bool}
use mathlib.Core.List.{List, [], ◌∷◌, map}
use Prim.Native.Nat.{ℕ}
use Rattle.rows.specs.Rows.{begins_with, has_row}
use Rattle.gran.specs.Lists.{any, All}

pub has-row-any : {A : Type 0} (row : A → List ℕ) (test : A → Bool) (key : List ℕ) (xs : List A) → All (λ (x : A). begins_with key (row x) ≡ test x) xs → has_row key (map row xs) ≡ any test xs
unfolding has_row
has-row-any row test key [] h = refl
has-row-any row test key (x ∷ xs) h = rw (h.0, has-row-any row test key xs h.1)
