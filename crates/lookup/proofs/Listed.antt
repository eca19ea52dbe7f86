-- The best place in a list of the paths of S is that of the one that a file stands for.
-- Assumes nothing.
use mathlib.Core.Path.{◌≡◌, sym, ◌∙◌}
use mathlib.Core.Bool.{So}
use mathlib.Core.List.Memᴰ
use mathlib.Core.List.{List}
use Prim.Native.Nat.{ℕ, ◌<◌}
use native.Mathlib.Nat.{zero-add}
use native.Mathlib.Omega.{arith}
use lib.Dec.{eqb}
use lib.ListN.{length, get_or}
use Rattle.paths.proofs.Bools.{eqb_of, eqb-to}
use Rattle.gran.specs.Lists.{place, numbers, Distinct}
use Rattle.gran.specs.Policy.{Policy}
use Rattle.gran.specs.Match.{MostSpecific, subjects, is_subject, paths_of_s, subject_of}
use Rattle.gran.proofs.Lists.{distinct_at}
use Rattle.gran.proofs.Members.{mem_at, at_mem, only-has, only_of, numbers-has}
use Rattle.gran.proofs.Counting.{only_distinct, numbers_distinct}
use Rattle.gran.proofs.Policies.{table, subjects-named, S_rooted, S_most}
use Rattle.store.specs.Held.{Loaded}
use Rattle.lookup.specs.Best.{best_of, grade_listed}
use Rattle.lookup.specs.Lookup.{grade_of}
use Rattle.lookup.proofs.Search.{place_at}
use Rattle.lookup.proofs.Greatest.{Greatest, greatest, grade-under, greatest-closest}
use Rattle.lookup.proofs.Found.{grade_read}

module _ {P : Policy} {rest s : List ℕ} (L : Loaded P rest s) (f : List ℕ) where
  abbrev S : List ℕ
  S = paths_of_s P

  abbrev a : ℕ → ℕ
  a = grade_listed s f S

  -- a subject is at a place of S, and what is there is a subject
  has : (c : ℕ) → So (is_subject P c) → (j : ℕ) × (j < length S) × (get_or S j 0 ≡ c)
  unfolding paths_of_s
  has c t = mem_at 0 S (only-has (is_subject P) (numbers 0 (length P.paths)) (Memᴰ.cast (sym (zero-add c)) (numbers-has 0 (length P.paths) c (subjects-named P L.good c t))) t)

  is-subject : (j : ℕ) → j < length S → So (is_subject P (get_or S j 0))
  unfolding paths_of_s
  is-subject j h = (only_of (is_subject P) (numbers 0 (length P.paths)) (at_mem 0 S j h)).1

  once : Distinct S
  unfolding paths_of_s
  once = only_distinct (is_subject P) (numbers 0 (length P.paths)) (numbers_distinct 0 (length P.paths))

  graded : (j : ℕ) → j < length S → a j ≡ grade_of P f (get_or S j 0)
  graded j h = grade_read L f (get_or S j 0) (subjects-named P L.good (get_or S j 0) (is-subject j h))

  pub listed-closest : (best_of (grade_listed s f (paths_of_s P)) (length (paths_of_s P))).place ≡ place (eqb (subject_of P f)) 0 (paths_of_s P)
  unfolding subject_of
  listed-closest = sym (place_at (eqb (subject_of P f)) 0 0 S i (record {
    inside = G.inside;
    passes = eqb_of is;
    none_before = λ j l t. omega (arith, distinct_at S 0 once j i (omega (arith, G.inside)) G.inside (sym (eqb-to (subject_of P f) (get_or S j 0) t) ∙ is));
  }) ∙ zero-add i)
    where
      i : ℕ
      i = (best_of a (length S)).place

      C : MostSpecific P.paths (subjects P) f (subject_of P f)
      C = S_most P L.good f

      -- something has a grade: the most specific path
      G : Greatest a (length S) i
      G = let (j, l, e) = has (subject_of P f) C.inside in greatest a (length S) j l (rw (graded j l, e, grade-under P f (subject_of P f) C.above) (omega arith))

      is : subject_of P f ≡ get_or S i 0
      is = greatest-closest P (table P L.good) f (subjects P) (S_rooted P L.good) (get_or S i 0) (is-subject i G.inside) (rw (graded i G.inside) at G.some)
          (λ d m. let (j, l, e) = has d m in rw (← e, ← graded j l, ← graded i G.inside) (G.most j l))
