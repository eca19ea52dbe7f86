-- The loop that marks the numbers of a list: each number is marked, or still to come.
-- Assumes nothing.
use mathlib.Core.Path.{◌≡◌, ◌∙◌, sym}
use mathlib.Core.Bool.{true, false, ◌||◌, or-true, or-false}
use mathlib.Core.List.{List}
use Prim.Native.Nat.{ℕ, ◌+◌, ◌≤◌, ◌<◌}
use native.Mathlib.Decide.{ℕ_discrete}
use borrow.Author.Tests.{eq-eqb, ne_eqb}
use lib.Dec.{eqb}
use lib.ListN.{length, get_or, drop, set}
use lib.Seq.{get_or-set_same, get_or-set_other}
use Rattle.lines.specs.Line.{zeros}
use Rattle.lines.proofs.Rooms.{get_or-zeros}
use Rattle.gran.specs.Lists.{member}
use Rattle.gran.proofs.Lists.{any_next, any-end}

-- The numbers of xs up to place i are marked.
abbrev pub Marked : List ℕ → List ℕ → ℕ → Type 0
Marked xs marks i = (s : ℕ) → member s xs ≡ (eqb (get_or marks s 0) 1 || member s (drop i xs))

pub marks_begin : (xs : List ℕ) (n : ℕ) → Marked xs (zeros n) 0
marks_begin xs n s = rw (get_or-zeros n s)

module _ (xs marks : List ℕ) (i : ℕ) (marked : Marked xs marks i) where
  pub marks-next : i < length xs → (x : ℕ) → x ≡ get_or xs i 0 → x < length marks → Marked xs (set marks x 1) (i + 1)
  marks-next h x e l s = go (ℕ_discrete s x)
    where
      go : Dec (s ≡ x) → member s xs ≡ (eqb (get_or (set marks x 1) s 0) 1 || member s (drop (i + 1) xs))
      go (yes p) = marked s ∙ rw (p, get_or-set_same marks x 1 0 l, any_next (eqb x) xs i 0 h true (sym (eq-eqb x _ e))) (or-true (eqb (get_or marks x 0) 1))
      go (no d) = marked s ∙ rw (get_or-set_other marks x s 1 0 d, any_next (eqb s) xs i 0 h false (sym (ne_eqb s _ (λ p. d (p ∙ sym e)))))

  pub marks-end : length xs ≤ i → (s : ℕ) → member s xs ≡ eqb (get_or marks s 0) 1
  marks-end h s = marked s ∙ rw (any-end (eqb s) xs i h) (or-false _)
