-- The loop that marks the numbers of a list: each number is marked, or still to come; and how many marks there are.
-- Assumes nothing.
use mathlib.Core.Path.{◌≡◌, ◌∙◌, refl, ap, sym}
use mathlib.Core.Bool.{Bool, true, false, cond, ◌||◌, or-true, or-false}
use mathlib.Core.List.{List, ◌∷◌}
use Prim.Native.Nat.{ℕ, zero, suc, ◌+◌, ◌≤◌, ◌<◌}
use native.Mathlib.Decide.{ℕ_discrete}
use borrow.Author.Tests.{eq-eqb, ne_eqb}
use lib.Dec.{eqb}
use lib.ListN.{length, get_or, drop, take, set, replicate}
use native.Mathlib.Omega.{arith}
use lib.Seq.{get_or-set_same, get_or-set_other}
use lib.Seq.{drop-cons}
use Rattle.std.specs.List.{count_by, filter}
use Rattle.std.proofs.lemmas.List.Sums.{length-filter}
use Rattle.gran.specs.Lists.{member, only, numbers}
use Rattle.gran.proofs.Lists.{any_next, any-end}

-- The numbers of xs up to place i are marked.
abbrev pub Marked : List ℕ → List Bool → ℕ → Type 0
Marked xs marks i = (s : ℕ) → member s xs ≡ (get_or marks s false || member s (drop i xs))

none_yet : (n s : ℕ) → get_or (replicate n false) s false ≡ false
none_yet zero s = refl
none_yet (suc n) zero = refl
none_yet (suc n) (suc s) = none_yet n s

pub marks_begin : (xs : List ℕ) (n : ℕ) → Marked xs (replicate n false) 0
marks_begin xs n s = rw (none_yet n s)

module _ (xs : List ℕ) (marks : List Bool) (i : ℕ) (marked : Marked xs marks i) where
  pub marks-next : i < length xs → (x : ℕ) → x ≡ get_or xs i 0 → x < length marks → Marked xs (set marks x true) (i + 1)
  marks-next h x e l s = go (ℕ_discrete s x)
    where
      go : Dec (s ≡ x) → member s xs ≡ (get_or (set marks x true) s false || member s (drop (i + 1) xs))
      go (yes p) = marked s ∙ rw (p, get_or-set_same marks x true false l, any_next (eqb x) xs i 0 h true (sym (eq-eqb x _ e))) (or-true (get_or marks x false))
      go (no d) = marked s ∙ rw (get_or-set_other marks x s true false d, any_next (eqb s) xs i 0 h false (sym (ne_eqb s _ (λ p. d (p ∙ sym e)))))

  pub marks-end : length xs ≤ i → (s : ℕ) → member s xs ≡ get_or marks s false
  marks-end h s = marked s ∙ rw (any-end (eqb s) xs i h) (or-false _)

-- as many of n marks are set as there are numbers that pass
set_marks : (test : ℕ → Bool) (marks : List Bool) → ((s : ℕ) → test s ≡ get_or marks s false) → (n i : ℕ) → i + n ≤ length marks → length (filter (λ mark. mark) (take n (drop i marks))) ≡ length (only test (numbers i n))
set_marks test marks same zero i room = refl
set_marks test marks same (suc n) i room = rw (drop-cons marks i false (omega arith), ← same i) (go (test i) (set_marks test marks same n (suc i) (omega arith)))
  where
    go : (b : Bool) → length (filter (λ mark. mark) (take n (drop (suc i) marks))) ≡ length (only test (numbers (suc i) n)) →
        length (filter (λ mark. mark) (b ∷ take n (drop (suc i) marks))) ≡ length (cond b (i ∷ only test (numbers (suc i) n)) (only test (numbers (suc i) n)))
    go true e = ap suc e
    go false e = e

pub marks-counted : (test : ℕ → Bool) (marks : List Bool) (n : ℕ) → ((s : ℕ) → test s ≡ get_or marks s false) → n ≤ length marks → count_by (λ mark. mark) (take n marks) ≡ length (only test (numbers 0 n))
marks-counted test marks n same room = sym (length-filter (λ mark. mark) (take n marks)) ∙ set_marks test marks same n 0 (omega arith)
