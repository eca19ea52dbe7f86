-- The invariant of every loop that visits steps: number k of a range gives the steps f k, and `end` is the range's end.
-- Assumes nothing.
use mathlib.Core.Path.{◌≡◌, sym, ap, subst, ◌∙◌}
use mathlib.Core.Bool.{Bool}
use mathlib.Core.List.{List}
use Prim.Native.Nat.{ℕ, ◌+◌, ◌-◌, ◌≤◌, ◌<◌}
use native.Mathlib.Omega.{arith}
use native.Mathlib.Nat.{sub-zero}
use Rattle.numbered.specs.Candidates.{Step, flat}
use Rattle.numbered.specs.declared.Sizes.{Sizes}
use Rattle.walk.specs.Walk.{Walk, visits}
use Rattle.walk.specs.Needed.{Kept, Going}
use Rattle.walk.proofs.Walks.{flat_more, flat-end}
use Rattle.walk.proofs.Keeping.{Inside, kept-visits}

-- To visit what is left, from the memory as it is, is to visit all, from the memory as it was.
pub record Left (z : Sizes) (goal : ℕ → Bool) (p : ℕ) (f : ℕ → List Step) (end : ℕ) (was is : Walk) (k : ℕ) : Type 0 where
  pub going : Going z p is
  pub within : k ≤ end
  pub left : visits goal p (flat f k (end - k)) is ≡ visits goal p (flat f 0 end) was

-- The search goes on after the steps of a list.
pub going_on : {z : Sizes} {p : ℕ} {is : Walk} (goal : ℕ → Bool) → Going z p is → (xs : List Step) → Inside z xs → {then : Walk} → then ≡ visits goal p xs is → Going z p then
going_on {z} {p} goal going xs inside e = record {
  kept = subst (Kept z) (sym e) (kept-visits z going.sized.few goal p xs inside going.kept);
  place = going.place;
  sized = going.sized;
}

module _ {z : Sizes} {goal : ℕ → Bool} {p : ℕ} {f : ℕ → List Step} {end : ℕ} where
  pub begins : {w : Walk} → Going z p w → Left z goal p f end w w 0
  begins going = record { going = going; within = omega arith; left = rw sub-zero }

  module _ {was is : Walk} {k : ℕ} (l : Left z goal p f end was is k) where
    pub turns : k < end → Inside z (f k) → {then : Walk} → then ≡ visits goal p (f k) is → Left z goal p f end was then (k + 1)
    turns h inside e = record {
      going = going_on goal l.going (f k) inside e;
      within = omega arith;
      left = ap (visits goal p (flat f (k + 1) (end - (k + 1)))) e ∙ sym (flat_more goal p f k end is h) ∙ l.left;
    }

    pub ends : end ≤ k → is ≡ visits goal p (flat f 0 end) was
    ends h = sym (flat-end goal p f k end is h) ∙ l.left
