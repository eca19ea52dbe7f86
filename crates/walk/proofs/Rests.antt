-- A search sets numbers of states alone: their marks and labels, and as many places of the queue as there are states, at most.
-- Once these are zero again, all of a work area is.
-- Assumes nothing.
use mathlib.Core.Path.{◌≡◌, refl, sym, ap, ◌∙◌}
use mathlib.Core.Bool.{Bool, true, false}
use mathlib.Core.List.{List, [], ◌∷◌, ◌++◌}
use Prim.Native.Nat.{ℕ, ◌+◌, ◌*◌, ◌-◌, ◌≤◌, ◌<◌}
use native.Mathlib.Omega.{arith}
use native.Mathlib.Decide.{ℕ_discrete, dec_lt}
use lib.ListN.{length, get_or, drop, length-append, length-drop, get_or-append}
use lib.Seq.{get_or-append-add, get_or-drop, ext_get_or}
use Rattle.lines.specs.Line.{zeros}
use Rattle.lines.proofs.Rooms.{length-zeros, get_or-zeros}
use Rattle.numbered.specs.Number.{all_states, Sized}
use Rattle.numbered.specs.Candidates.{Step, candidates}
use Rattle.numbered.specs.declared.Sizes.{Sizes}
use Rattle.walk.specs.Walk.{Walk, queued, mark, Cleared, empty, visit, visits, search}
use Rattle.walk.specs.Needed.{Kept, Rest}
use Rattle.walk.proofs.Walks.{visit_met, visit_new, visit_old}
use Rattle.walk.proofs.Entering.{entered_other}
use Rattle.walk.proofs.Keeping.{Inside, kept-empty, kept_below, kept-visit, kept-visits, zeros-cleared}
use Rattle.walk.proofs.Targets.{inside-candidates, sweep_keeps, search_kept}

-- Where the numbers of the states are zero again, all is.
pub rest-none : {all : ℕ} {area : List ℕ} → Rest all area → zeros (3 * all) ++ drop (3 * all) area ≡ zeros (length area)
rest-none {all} {area} r =
    let size : length (zeros (3 * all) ++ drop (3 * all) area) ≡ length area = simp (length-append, length-zeros, length-drop) (omega (arith, r.long)) in
    ext_get_or 0 (zeros (3 * all) ++ drop (3 * all) area) (zeros (length area)) (size ∙ sym (length-zeros (length area))) (λ i h. go i (dec_lt i (3 * all)) ∙ sym (get_or-zeros (length area) i))
  where
    go : (i : ℕ) → Dec (i < 3 * all) → get_or (zeros (3 * all) ++ drop (3 * all) area) i 0 ≡ 0
    go i (yes lt) = get_or-append (zeros (3 * all)) (drop (3 * all) area) 0 i (rw length-zeros lt) ∙ get_or-zeros (3 * all) i
    go i (no ge) =
        let at : i ≡ length (zeros (3 * all)) + (i - 3 * all) = rw length-zeros (omega arith) in
        ap (λ (k : ℕ). get_or (zeros (3 * all) ++ drop (3 * all) area) k 0) at
        ∙ get_or-append-add (zeros (3 * all)) (drop (3 * all) area) (i - 3 * all) 0
        ∙ get_or-drop (3 * all) area (i - 3 * all) 0
        ∙ r.zero (3 * all + (i - 3 * all)) (omega arith)

-- ---- what a search does not set

module _ {z : Sizes} (sized : Sized z) (goal : ℕ → Bool) (i : ℕ) (behind : 3 * all_states z ≤ i) where
  visit-behind : (p c n : ℕ) → n < all_states z → {w : Walk} → Kept z w → get_or (visit goal p c n w).area i 0 ≡ get_or w.area i 0
  visit-behind p c n state {w} kept = go w.met refl (ℕ_discrete (mark w.area n) 0)
    where
      go : (b : Bool) → w.met ≡ b → Dec (mark w.area n ≡ 0) → get_or (visit goal p c n w).area i 0 ≡ get_or w.area i 0
      go true e d = rw (visit_met goal p c n w e)
      go false e (yes m) = rw (visit_new goal p c n w e m) (
          let room : w.count < all_states z = kept_below z sized.few kept n state m in
          entered_other w.area w.count p c n i (omega (arith, behind)) (omega (arith, behind, state)) (omega (arith, behind, state)))
      go false e (no ne) = rw (visit_old goal p c n w e ne)

  visits-behind : (p : ℕ) (xs : List Step) → Inside z xs → {w : Walk} → Kept z w → get_or (visits goal p xs w).area i 0 ≡ get_or w.area i 0
  unfolding visits
  visits-behind p [] inside kept = refl
  visits-behind p (x ∷ xs) inside kept = visits-behind p xs inside.1 (kept-visit z sized.few goal p x.label x.target inside.0 kept) ∙ visit-behind p x.label x.target inside.0 kept

  -- The memory is kept, and place i holds zero.
  abbrev Still : Walk → Type 0
  Still w = Kept z w × (get_or w.area i 0 ≡ 0)

  search-behind : (s t : List ℕ) (start : ℕ) (area : List ℕ) → start < all_states z → Cleared (all_states z) area → get_or area i 0 ≡ 0 → get_or (search goal (candidates s t z) start area).area i 0 ≡ 0
  unfolding search
  search-behind s t start area h clear e =
      let first : Kept z (empty area) = kept-empty z area clear in
      (sweep_keeps goal (candidates s t z) Still turn 8192 0 (visit goal 0 0 start (empty area)) (kept-visit z sized.few goal 0 0 start h first, visit-behind 0 0 start h first ∙ e)).1
    where
      turn : (p : ℕ) (w : Walk) → p < w.count → Still w → Still (visits goal p (candidates s t z (queued w.area p)) w)
      turn p w lt k =
          let inside = inside-candidates s t sized (queued w.area p) (k.0.states p lt) in
          (kept-visits z sized.few goal p (candidates s t z (queued w.area p)) inside k.0, visits-behind p (candidates s t z (queued w.area p)) inside k.0 ∙ k.1)

pub search_rest : {z : Sizes} (sized : Sized z) (s t : List ℕ) (goal : ℕ → Bool) (start : ℕ) → start < all_states z → (size : ℕ) → 3 * all_states z ≤ size → Rest (all_states z) (search goal (candidates s t z) start (zeros size)).area
search_rest sized s t goal start h size long = record {
  long = (search_kept sized s t goal start (zeros size) h (zeros-cleared long)).long;
  zero = λ i behind. search-behind sized goal i behind s t start (zeros size) h (zeros-cleared long) (get_or-zeros size i);
}
