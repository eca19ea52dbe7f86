-- The best place of a row of grades, as a loop finds it.
-- Assumes nothing.
use Rattle.std.specs.Prelude.{cond, ◌&&◌, List, ℕ, zero, suc, ◌+◌, eqb, leb, ltb, length}
use Rattle.paths.specs.Path.{under}
use Rattle.gran.specs.Lists.{none}
use Rattle.fields.specs.Fields.{byte_at, path_in, entry_subject, entry_role, path_from}
use Rattle.lookup.specs.declared.Best.{Best}

abbrev pub no_best : Best
no_best = record { place = none; grade = 0 }

-- The better of what was found and a place of a grade; of equals the earlier.
abbrev pub or_else : Best → ℕ → ℕ → Best
or_else b place grade = cond (ltb b.grade grade) (record { place = place; grade = grade }) b

-- The best of the first n places of a row of grades; none where all are 0.
abbrev pub best_of : (ℕ → ℕ) → ℕ → Best
best_of a zero = no_best
best_of a (suc n) = or_else (best_of a n) n (a n)

-- The grade of the store's path c for file f; of one that is too long to be good 0.
unfoldable pub grade_in : List ℕ → List ℕ → ℕ → ℕ
grade_in s f c = cond (leb (length (path_in s c)) 64 && under f (path_in s c)) (length (path_in s c) + 1) 0

-- The grade of the path at a place of a list.
abbrev pub grade_listed : List ℕ → List ℕ → List ℕ → ℕ → ℕ
grade_listed s f list i = grade_in s f (byte_at list i)

-- The grade of an entry's subject where that is of the role, and that of an object, from the grades of the paths.
unfoldable pub role_grade : List ℕ → List ℕ → ℕ → ℕ → ℕ
role_grade s of r i = cond (eqb (entry_role s i) r) (byte_at of (entry_subject s i)) 0

unfoldable pub object_grade : List ℕ → List ℕ → ℕ → ℕ → ℕ
object_grade s of n i = byte_at of (path_from s n i)
