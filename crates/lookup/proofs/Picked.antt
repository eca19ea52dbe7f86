-- The best place of a row: of the subjects of a role's entries, of the objects of an entry.
-- Assumes nothing.
use mathlib.Core.Path.{◌≡◌, refl, sym, ap, ◌∙◌}
use mathlib.Core.Bool.{Bool, true, false, cond, So}
use mathlib.Core.List.{List, map}
use Prim.Native.Nat.{ℕ, ◌<◌}
use native.Mathlib.Omega.{arith}
use lib.ListN.{length, get_or}
use Rattle.gran.specs.Lists.{none, only, member}
use Rattle.gran.specs.Policy.{Policy}
use Rattle.gran.specs.Match.{closest, MostSpecific}
use Rattle.gran.specs.Good.{Good}
use Rattle.gran.proofs.Match.{Rooted, closest_most}
use Rattle.gran.proofs.Policies.{table}
use Rattle.lookup.specs.Best.{best_of}
use Rattle.lookup.specs.Lookup.{grade_of}
use Rattle.lookup.proofs.Search.{listed-place, place_listed}
use Rattle.lookup.proofs.Greatest.{Greatest, greatest, grade-under, greatest-closest}

-- Place i of a row of things, of which some count, each with a path: its path is the most specific.
pub record Picked (P : Policy) (f : List ℕ) {A : Type 0} (test : A → Bool) (path : A → ℕ) (d : A) (xs : List A) (i : ℕ) : Type 0 where
  pub inside : i < length xs
  pub counts : So (test (get_or xs i d))
  pub is : closest P.paths f none (map path (only test xs)) ≡ path (get_or xs i d)

module _ (P : Policy) (good : Good P) (f : List ℕ) {A : Type 0} (test : A → Bool) (path : A → ℕ) (d : A) (xs : List A)
    (rooted : Rooted P.paths (map path (only test xs))) (a : ℕ → ℕ) (grades : (j : ℕ) → j < length xs → a j ≡ cond (test (get_or xs j d)) (grade_of P f (path (get_or xs j d))) 0)
  where
    abbrev cs : List ℕ
    cs = map path (only test xs)

    -- what counts has its grade
    graded : (c : ℕ) → So (member c cs) → (j : ℕ) × (j < length xs) × (a j ≡ grade_of P f c)
    graded c m = let r = listed-place test path d xs c m in (r.0, r.1, grades r.0 r.1 ∙ rw r.2 (ap (grade_of P f) (sym r.3)))

    -- what has a grade counts
    counted : (j : ℕ) → j < length xs → 0 < a j → So (test (get_or xs j d)) × (a j ≡ grade_of P f (path (get_or xs j d)))
    counted j l h = go (test (get_or xs j d)) (grades j l)
      where
        go : (b : Bool) → a j ≡ cond b (grade_of P f (path (get_or xs j d))) 0 → So b × (a j ≡ grade_of P f (path (get_or xs j d)))
        go true e = (refl, e)
        go false e = absurd (omega arith)

    -- something has a grade: the most specific path
    top : (j : ℕ) × (j < length xs) × (0 < a j)
    top =
        let C₀ : MostSpecific P.paths cs f (closest P.paths f none cs) = closest_most (table P good) rooted f in
        let (j, l, e) = graded _ C₀.inside in (j, l, omega (arith, e, grade-under P f _ C₀.above))

    pub picked : Picked P f test path d xs (best_of a (length xs)).place
    picked = record {
      inside = G.inside;
      counts = C.0;
      is = greatest-closest P (table P good) f cs rooted (path x) (place_listed test path d xs i G.inside C.0) (rw C.1 at G.some)
          (λ c m. let r = graded c m in omega (arith, G.most r.0 r.1, r.2, C.1));
    }
      where
        i : ℕ
        i = (best_of a (length xs)).place

        x : A
        x = get_or xs i d

        G : Greatest a (length xs) i
        G = greatest a (length xs) top.0 top.1 top.2

        C : So (test x) × (a i ≡ grade_of P f (path x))
        C = counted i G.inside G.some
