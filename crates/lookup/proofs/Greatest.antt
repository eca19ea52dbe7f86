-- The best place by grade is that of the most specific path.
-- Assumes nothing.
use mathlib.Core.Path.{◌≡◌, refl, sym, ◌∙◌}
use mathlib.Core.Logic.{⊎_elim}
use mathlib.Core.Bool.{Bool, true, false, cond, So, false≢true}
use mathlib.Core.List.{List, [], ◌∷◌}
use Prim.Native.Nat.{ℕ, zero, suc, ◌+◌, ◌≤◌, ◌<◌}
use native.Mathlib.Nat.{not-suc-le-zero, eq-or-lt_of_le, le_of_suc-le-suc}
use native.Mathlib.Omega.{arith}
use borrow.Author.Tests.{ltb-true, ltb-false}
use lib.Dec.{eqb, ltb}
use lib.ListN.{length}
use Rattle.paths.specs.Path.{is_path, under, begins}
use Rattle.paths.proofs.Bools.{left, right, eqb-to}
use Rattle.paths.proofs.Paths.{under-refl, under_chain, under_bytes}
use Rattle.gran.specs.Lists.{none, member}
use Rattle.gran.specs.Policy.{Policy}
use Rattle.gran.specs.Match.{path_at, closest}
use Rattle.gran.proofs.Match.{Table, Rooted, closest_is}
use Rattle.lookup.specs.Best.{best_of}
use Rattle.lookup.specs.Lookup.{grade_of}
use Rattle.lookup.specs.declared.Best.{Best}

-- ---- the greatest of a row of grades

module _ (a : ℕ → ℕ) where
  -- What is known of the best of the first n.
  record Top (n : ℕ) (b : Best) : Type 0 where
    most : (j : ℕ) → j < n → a j ≤ b.grade
    place : 0 < b.grade → (b.place < n) × (a b.place ≡ b.grade)

  top : (n : ℕ) → Top n (best_of a n)
  top zero = record { most = λ j l. absurd (not-suc-le-zero l); place = λ h. absurd (not-suc-le-zero h) }
  top (suc n) = go (ltb (best_of a n).grade (a n)) refl (top n)
    where
      b : Best
      b = best_of a n

      go : (x : Bool) → ltb b.grade (a n) ≡ x → Top n b → Top (suc n) (cond x (record { place = n; grade = a n }) b)
      go true e t = record {
        most = λ j l. ⊎_elim (λ d. rw d (omega arith)) (λ k. omega (arith, t.most j k, ltb-true b.grade (a n) e)) (eq-or-lt_of_le (le_of_suc-le-suc l));
        place = λ h. (omega arith, refl);
      }
      go false e t = record {
        most = λ j l. ⊎_elim (λ d. rw d (omega (arith, ltb-false b.grade (a n) e))) (λ k. t.most j k) (eq-or-lt_of_le (le_of_suc-le-suc l));
        place = λ h. (omega (arith, (t.place h).0), (t.place h).1);
      }

  -- The best has at least the grade of each.
  pub at_least : (n j : ℕ) → j < n → a j ≤ (best_of a n).grade
  at_least n j l = (top n).most j l

  -- Where one of the row has a grade, the best has the greatest.
  pub record Greatest (n i : ℕ) : Type 0 where
    pub inside : i < n
    pub some : 0 < a i
    pub most : (j : ℕ) → j < n → a j ≤ a i

  pub greatest : (n j : ℕ) → j < n → 0 < a j → Greatest n (best_of a n).place
  greatest n j l h = record { inside = p.0; some = rw p.1 pos; most = λ k m. rw p.1 ((top n).most k m) }
    where
      pos : 0 < (best_of a n).grade
      pos = omega (arith, (top n).most j l)

      p : ((best_of a n).place < n) × (a (best_of a n).place ≡ (best_of a n).grade)
      p = (top n).place pos

-- ---- longer is more specific

begins-whole : (q p : List ℕ) → So (begins q p) → length p ≤ length q → q ≡ p
begins-whole [] [] t l = refl
begins-whole [] (c ∷ p) t l = absurd (not-suc-le-zero l)
begins-whole (b ∷ q) [] t l = absurd (false≢true t)
begins-whole (b ∷ q) (c ∷ p) t l =
    let e : b ≡ c = eqb-to b c (left (eqb b c) _ t) in
    let r : q ≡ p = begins-whole q p (right (eqb b c) _ t) (le_of_suc-le-suc l) in
    cc

-- Of two paths that a file is under, the one that is no shorter is under the other.
longer-under : (f p q : List ℕ) → So (is_path p) → So (is_path q) → So (under f p) → So (under f q) → length q ≤ length p → So (under p q)
longer-under f p q good-p good-q u v l = ⊎_elim (λ t. t) (λ t. rw (begins-whole p q (sym (under_bytes q p good-q good-p) ∙ t) l) (under-refl q)) (under_chain f p q u v)

module _ (P : Policy) (f : List ℕ) (c : ℕ) where
  pub grade-under : So (under f (path_at P.paths c)) → grade_of P f c ≡ length (path_at P.paths c) + 1
  unfolding grade_of
  grade-under u = rw u

  pub grade-some : 0 < grade_of P f c → So (under f (path_at P.paths c))
  unfolding grade_of
  grade-some h = go (under f (path_at P.paths c)) h
    where
      go : (x : Bool) → 0 < cond x (length (path_at P.paths c) + 1) 0 → So x
      go true h = refl
      go false h = absurd (not-suc-le-zero h)

-- Of two paths the one that is not shorter has no grade for the other.
pub grade-beside : (P : Policy) → Table P.paths → (c q : ℕ) → c < length P.paths → q < length P.paths → (q ≡ c → ⊥) → length (path_at P.paths c) ≤ length (path_at P.paths q)
    → grade_of P (path_at P.paths c) q ≡ 0
unfolding grade_of
grade-beside P table c q named-c named-q apart long = go (under (path_at P.paths c) (path_at P.paths q)) refl
  where
    go : (x : Bool) → under (path_at P.paths c) (path_at P.paths q) ≡ x → cond x (length (path_at P.paths q) + 1) 0 ≡ 0
    go true u =
        let prefix : So (begins (path_at P.paths q) (path_at P.paths c)) = sym (under_bytes (path_at P.paths c) (path_at P.paths q) (table.good c named-c) (table.good q named-q)) ∙ u in
        absurd (apart (table.distinct q c named-q named-c (begins-whole (path_at P.paths q) (path_at P.paths c) prefix long)))
    go false u = refl

module _ (P : Policy) (table : Table P.paths) (f : List ℕ) (cs : List ℕ) (rooted : Rooted P.paths cs) where
  -- A path of the list with the greatest grade is the most specific.
  pub greatest-closest : (c : ℕ) → So (member c cs) → 0 < grade_of P f c → ((d : ℕ) → So (member d cs) → grade_of P f d ≤ grade_of P f c) → closest P.paths f none cs ≡ c
  greatest-closest c m h most = closest_is table rooted f (record { inside = m; above = u; least = least })
    where
      u : So (under f (path_at P.paths c))
      u = grade-some P f c h

      least : (d : ℕ) → So (member d cs) → So (under f (path_at P.paths d)) → So (under (path_at P.paths c) (path_at P.paths d))
      least d n v =
          longer-under f (path_at P.paths c) (path_at P.paths d) (table.good c (rooted.named c m)) (table.good d (rooted.named d n)) u v
          (omega (arith, most d n, grade-under P f c u, grade-under P f d v))
