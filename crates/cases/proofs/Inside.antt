-- A case lies inside its input, behind its length.
-- Assumes nothing.
use Rattle.std.proofs.Common.{◌≡◌, refl, ap, Bool, true, false, cond, List, ℕ, ◌+◌, ◌≤◌, length, leb, Option, Some, None, arith}
use borrow.Author.Tests.{leb-true}
use Rattle.cases.specs.Case.{size_at, next_case}

pub record Inside (input : List ℕ) (at from end : ℕ) : Type 0 where
  pub begins : from ≡ at + 4
  pub order : from ≤ end
  pub within : end ≤ length input

pub case_inside : (input : List ℕ) (at : ℕ) {found : Option (ℕ × ℕ)} {from end : ℕ} → found ≡ next_case input at → found ≡ Some (from, end) → Inside input at from end
unfolding next_case
case_inside input at {found} {from} {end} e is = go (leb (at + 4) (length input)) (leb (at + 4 + size_at input at) (length input)) refl e
  where
    go : (x y : Bool) → leb (at + 4 + size_at input at) (length input) ≡ y → found ≡ cond x (cond y (Some (at + 4, at + 4 + size_at input at)) None) None → Inside input at from end
    go true true q e =
        let both : ◌≡◌ {A = ℕ × ℕ} (from, end) (at + 4, at + 4 + size_at input at) = cc in
        let begins : from ≡ at + 4 = ap (λ (p : ℕ × ℕ). p.0) both in
        let ends : end ≡ at + 4 + size_at input at = ap (λ (p : ℕ × ℕ). p.1) both in
        record { begins = begins; order = omega arith; within = omega (arith, leb-true (at + 4 + size_at input at) (length input) q) }
    go true false q e = let z : ◌≡◌ {A = ℕ} 0 1 = cc in absurd (omega arith)
    go false y q e = let z : ◌≡◌ {A = ℕ} 0 1 = cc in absurd (omega arith)
