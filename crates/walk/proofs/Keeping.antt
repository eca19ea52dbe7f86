-- A search keeps its memory: there is room for each state that was not found yet, and what stands in the queue is a state.
-- Assumes nothing.
use mathlib.Core.Path.{◌≡◌, refl, sym, ap, ◌∙◌}
use mathlib.Core.Bool.{Bool, true, false, cond}
use mathlib.Core.List.{List, [], ◌∷◌}
use Prim.Native.Nat.{ℕ, zero, suc, ◌+◌, ◌*◌, ◌≤◌, ◌<◌}
use native.Mathlib.Omega.{arith}
use native.Mathlib.Decide.{ℕ_discrete}
use lib.Dec.{eqb}
use borrow.Author.Tests.{eq-eqb, ne_eqb}
use Rattle.lines.specs.Line.{zeros}
use Rattle.lines.proofs.Rooms.{length-zeros, get_or-zeros}
use Rattle.numbered.specs.Candidates.{Step}
use Rattle.numbered.specs.declared.Sizes.{Sizes}
use Rattle.walk.specs.Walk.{Walk, queued, mark, Cleared, empty, enter, visit, visits}
use Rattle.numbered.specs.Number.{all_states}
use Rattle.walk.specs.Needed.{unmarked, Kept}
use Rattle.walk.proofs.Each.{Each}
use Rattle.walk.proofs.Walks.{visit_met, visit_new, visit_old}
use Rattle.walk.proofs.Entering.{entered-length, queue-stays, queue_new, mark-stays, mark_new}

-- ---- how many have no mark

unmarked_all : (area : List ℕ) (n : ℕ) → ((m : ℕ) → m < n → mark area m ≡ 0) → unmarked area n ≡ n
unfolding unmarked
unmarked_all area zero h = refl
unmarked_all area (suc n) h = rw (eq-eqb (mark area n) 0 (h n (omega arith)), unmarked_all area n (λ m lt. h m (omega arith))) (omega arith)

unmarked-some : (area : List ℕ) (n m : ℕ) → m < n → mark area m ≡ 0 → 0 < unmarked area n
unfolding unmarked
unmarked-some area zero m h z = absurd (omega arith)
unmarked-some area (suc n) m h z = go (ℕ_discrete m n) (λ lt. unmarked-some area n m lt z)
  where
    go : Dec (m ≡ n) → (m < n → 0 < unmarked area n) → 0 < cond (eqb (mark area n) 0) 1 0 + unmarked area n
    go (yes e) below = rw (eq-eqb (mark area n) 0 (ap (mark area) (sym e) ∙ z)) (omega arith)
    go (no ne) below = let s : 0 < unmarked area n = below (omega arith) in omega arith

unmarked-same : (a b : List ℕ) (n : ℕ) → ((m : ℕ) → m < n → mark b m ≡ mark a m) → unmarked b n ≡ unmarked a n
unfolding unmarked
unmarked-same a b zero h = refl
unmarked-same a b (suc n) h = rw (h n (omega arith), unmarked-same a b n (λ m lt. h m (omega arith)))

-- Where no number from m on has a mark, each of these counts.
unmarked-from : (area : List ℕ) (m end : ℕ) → m ≤ end → ((n : ℕ) → m ≤ n → n < end → mark area n ≡ 0) → unmarked area end + m ≡ unmarked area m + end
unfolding unmarked
unmarked-from area m zero h none = let z : m ≡ 0 = omega arith in rw z
unmarked-from area m (suc end) h none = go (ℕ_discrete m (suc end)) (λ le. unmarked-from area m end le (λ n l b. none n l (omega arith)))
  where
    go : Dec (m ≡ suc end) → (m ≤ end → unmarked area end + m ≡ unmarked area m + end) → cond (eqb (mark area end) 0) 1 0 + unmarked area end + m ≡ unmarked area m + suc end
    go (yes e) below = rw e
    go (no ne) below = rw (eq-eqb (mark area end) 0 (none end (omega arith) (omega arith))) (omega (arith, below (omega arith)))

-- A mark more is one less without.
module _ (a b : List ℕ) (n : ℕ) (was : mark a n ≡ 0) (is : mark b n ≡ 0 → ⊥) where
  unmarked_less : (end : ℕ) → n < end → ((m : ℕ) → m < end → (m ≡ n → ⊥) → mark b m ≡ mark a m) → suc (unmarked b end) ≡ unmarked a end
  unfolding unmarked
  unmarked_less zero h others = absurd (omega arith)
  unmarked_less (suc end) h others = go (ℕ_discrete n end) (λ lt. unmarked_less end lt (λ m l. others m (omega arith)))
    where
      go : Dec (n ≡ end) → (n < end → suc (unmarked b end) ≡ unmarked a end) → suc (cond (eqb (mark b end) 0) 1 0 + unmarked b end) ≡ cond (eqb (mark a end) 0) 1 0 + unmarked a end
      go (yes e) below =
          let ea : mark a end ≡ 0 = ap (mark a) (sym e) ∙ was in
          let eb : mark b end ≡ 0 → ⊥ = λ z. is (ap (mark b) e ∙ z) in
          rw (eq-eqb (mark a end) 0 ea, ne_eqb (mark b end) 0 eb, unmarked-same a b end (λ m lt. others m (omega arith) (omega arith))) (omega arith)
      go (no ne) below = rw (others end (omega arith) (λ e. ne (sym e))) (omega (arith, below (omega arith)))

-- ---- the memory

module _ (z : Sizes) where
  pub kept-empty : (area : List ℕ) → Cleared (all_states z) area → Kept z (empty area)
  kept-empty area clear = record {
    long = clear.long;
    states = λ k h. absurd (omega arith);
    each = omega (arith, unmarked_all area 8192 clear.unmarked);
    beyond = λ n le. clear.unmarked n;
  }

  pub kept_count : {w : Walk} → Kept z w → w.count ≤ 8192
  kept_count kept = omega (arith, kept.each)

  -- No more were found than there are.
  pub kept_most : (few : all_states z ≤ 8192) {w : Walk} → Kept z w → w.count ≤ all_states z
  kept_most few {w} kept = omega (arith, kept.each, unmarked-from w.area (all_states z) 8192 few kept.beyond)

  -- While a state has no mark, fewer were found than there are: there is room for it.
  pub kept_below : (few : all_states z ≤ 8192) {w : Walk} → Kept z w → (n : ℕ) → n < all_states z → mark w.area n ≡ 0 → w.count < all_states z
  kept_below few {w} kept n state m = omega (arith, kept.each, unmarked-from w.area (all_states z) 8192 few kept.beyond, unmarked-some w.area (all_states z) n state m)

  -- Where as many were found as there are states, each state is marked.
  pub kept_full : (few : all_states z ≤ 8192) {w : Walk} → Kept z w → w.count ≡ all_states z → (n : ℕ) → n < all_states z → mark w.area n ≡ 0 → ⊥
  kept_full few kept all n state m = omega (arith, kept_below few kept n state m)

  module _ (few : all_states z ≤ 8192) (goal : ℕ → Bool) (p c n : ℕ) (state : n < all_states z) {w : Walk} (kept : Kept z w) where
    pub kept-enter : mark w.area n ≡ 0 → Kept z (enter goal p c n w)
    kept-enter m =
        let room : w.count < all_states z = kept_below few kept n state m in
        record {
          long = rw (entered-length w.area w.count p c n) kept.long;
          states = states₁ room;
          each =
              let less : suc (unmarked (enter goal p c n w).area 8192) ≡ unmarked w.area 8192 =
              unmarked_less w.area (enter goal p c n w).area n m (λ e. omega (arith, mark_new w.area w.count p c n (omega (arith, kept.long, state)))) 8192 (omega (arith, few, state))
              (λ m lt. mark-stays w.area w.count p c n m) in
              omega (arith, kept.each, less);
          beyond = λ m le lt. mark-stays w.area w.count p c n m (omega (arith, state)) ∙ kept.beyond m le lt;
        }
      where
        states₁ : w.count < all_states z → (k : ℕ) → k < w.count + 1 → queued (enter goal p c n w).area k < all_states z
        states₁ room k h = elim (ℕ_discrete k w.count) [
          | yes e ↦ rw (e, queue_new w.area w.count p c n (omega (arith, kept.long))) state
          | no ne ↦ rw (queue-stays w.area w.count p c n k (omega arith)) (kept.states k (omega arith))
        ]

    pub kept-visit : Kept z (visit goal p c n w)
    kept-visit = go w.met refl (ℕ_discrete (mark w.area n) 0)
      where
        go : (b : Bool) → w.met ≡ b → Dec (mark w.area n ≡ 0) → Kept z (visit goal p c n w)
        go true e d = rw (visit_met goal p c n w e) kept
        go false e (yes m) = rw (visit_new goal p c n w e m) (kept-enter m)
        go false e (no ne) = rw (visit_old goal p c n w e ne) kept

-- Every step leads to a state.
abbrev pub IsState : Sizes → ℕ → Type 0
IsState z n = n < all_states z

abbrev pub Inside : Sizes → List Step → Type 0
Inside z xs = Each (IsState z) xs

pub kept-visits : (z : Sizes) (few : all_states z ≤ 8192) (goal : ℕ → Bool) (p : ℕ) (xs : List Step) → Inside z xs → {w : Walk} → Kept z w → Kept z (visits goal p xs w)
unfolding visits
kept-visits z few goal p [] inside kept = kept
kept-visits z few goal p (x ∷ xs) inside kept = kept-visits z few goal p xs inside.1 (kept-visit z few goal p x.label x.target inside.0 kept)

pub zeros-cleared : {all size : ℕ} → 3 * all ≤ size → Cleared all (zeros size)
zeros-cleared {all} {size} h = record { long = rw (length-zeros size) h; unmarked = λ n lt. get_or-zeros size (3 * n + 1) }
