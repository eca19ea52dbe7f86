-- Marks stay. A step to a state with a mark changes nothing, and after the steps of a list each of their targets has a mark.
-- Assumes nothing.
use mathlib.Core.Path.{◌≡◌, refl, sym, ap, ◌∙◌}
use mathlib.Core.Bool.{Bool, true, false}
use mathlib.Core.List.{List, [], ◌∷◌}
use Prim.Native.Nat.{ℕ, ◌≤◌}
use native.Mathlib.Omega.{arith}
use native.Mathlib.Decide.{ℕ_discrete}
use Rattle.numbered.specs.Number.{all_states}
use Rattle.numbered.specs.Candidates.{Step}
use Rattle.numbered.specs.declared.Sizes.{Sizes}
use Rattle.walk.specs.Walk.{Walk, mark, visit, visits}
use Rattle.walk.specs.Needed.{Kept, Marked}
use Rattle.walk.proofs.Walks.{visit_met, visit_new, visit_old, visits_met}
use Rattle.walk.proofs.Entering.{mark-stays, mark_new}
use Rattle.walk.proofs.Each.{Each}
use Rattle.walk.proofs.Keeping.{IsState, Inside, kept-visit}

module _ (goal : ℕ → Bool) (w : Walk) where
  visit_marked : (p c n : ℕ) → Marked w.area n → visit goal p c n w ≡ w
  visit_marked p c n m = go w.met refl
    where
      go : (b : Bool) → w.met ≡ b → visit goal p c n w ≡ w
      go true e = visit_met goal p c n w e
      go false e = visit_old goal p c n w e m

  pub visits_marked : (p : ℕ) (xs : List Step) → Each (Marked w.area) xs → visits goal p xs w ≡ w
  unfolding visits
  visits_marked p [] all = refl
  visits_marked p (x ∷ xs) all = ap (visits goal p xs) (visit_marked p x.label x.target all.0) ∙ visits_marked p xs all.1

  -- Where each target has a mark, or the search is over, there is nothing new.
  pub visits-done : (p : ℕ) (xs : List Step) → (w.met ≡ false → Each (Marked w.area) xs) → visits goal p xs w ≡ w
  visits-done p xs all = go w.met refl
    where
      go : (b : Bool) → w.met ≡ b → visits goal p xs w ≡ w
      go true over = visits_met goal p xs w over
      go false unmet = visits_marked p xs (all unmet)

  -- A search that is not over was not over before.
  pub open_before : (p : ℕ) (xs : List Step) → (visits goal p xs w).met ≡ false → w.met ≡ false
  open_before p xs h = go w.met refl
    where
      go : (b : Bool) → w.met ≡ b → w.met ≡ false
      go true e = ap (λ (v : Walk). v.met) (sym (visits_met goal p xs w e)) ∙ h
      go false e = e

module _ (z : Sizes) (few : all_states z ≤ 8192) (goal : ℕ → Bool) (p : ℕ) where
  module _ (c n : ℕ) (state : IsState z n) {w : Walk} (kept : Kept z w) where
    mark-visit : (m : ℕ) → IsState z m → Marked w.area m → Marked (visit goal p c n w).area m
    mark-visit m below marked = go w.met refl (ℕ_discrete (mark w.area n) 0)
      where
        go : (b : Bool) → w.met ≡ b → Dec (mark w.area n ≡ 0) → Marked (visit goal p c n w).area m
        go true e d = rw (visit_met goal p c n w e) marked
        go false e (yes new) =
            let same = mark-stays w.area w.count p c n m (λ (at : m ≡ n). marked (ap (mark w.area) at ∙ new)) in
            rw (visit_new goal p c n w e new) (λ none. marked (sym same ∙ none))
        go false e (no old) = rw (visit_old goal p c n w e old) marked

    mark_target : w.met ≡ false → Marked (visit goal p c n w).area n
    mark_target e = go (ℕ_discrete (mark w.area n) 0)
      where
        go : Dec (mark w.area n ≡ 0) → Marked (visit goal p c n w).area n
        go (yes new) = rw (visit_new goal p c n w e new) (λ none. omega (arith, none, mark_new w.area w.count p c n (omega (arith, kept.long, state))))
        go (no old) = rw (visit_old goal p c n w e old) old

  pub marks_stay : (xs : List Step) → Inside z xs → {w : Walk} → Kept z w → (m : ℕ) → IsState z m → Marked w.area m → Marked (visits goal p xs w).area m
  unfolding visits
  marks_stay [] inside kept m below marked = marked
  marks_stay (x ∷ xs) inside kept m below marked =
      marks_stay xs inside.1 (kept-visit z few goal p x.label x.target inside.0 kept) m below (mark-visit x.label x.target inside.0 kept m below marked)

  pub targets_marked : (xs : List Step) → Inside z xs → {w : Walk} → Kept z w → (visits goal p xs w).met ≡ false → Each (Marked (visits goal p xs w).area) xs
  unfolding visits
  targets_marked [] inside kept unmet = tt
  targets_marked (x ∷ xs) inside {w} kept unmet =
      let next = kept-visit z few goal p x.label x.target inside.0 kept in
      (marks_stay xs inside.1 next x.target inside.0 (mark_target x.label x.target inside.0 kept (open_before goal w p (x ∷ xs) unmet)), targets_marked xs inside.1 next unmet)
