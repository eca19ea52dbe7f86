-- Once every state is found, no step changes the memory: the rest of a sweep does nothing.
-- Assumes nothing.
use mathlib.Core.Path.{◌≡◌, refl, ap, ◌∙◌}
use mathlib.Core.Bool.{Bool, true, false}
use mathlib.Core.List.{List}
use Prim.Native.Nat.{ℕ, zero, suc, ◌+◌, ◌≤◌, ◌<◌}
use native.Mathlib.Omega.{arith}
use native.Mathlib.Decide.{dec_lt}
use Rattle.numbered.specs.Number.{all_states}
use Rattle.numbered.specs.Candidates.{Step}
use Rattle.numbered.specs.declared.Sizes.{Sizes}
use Rattle.walk.specs.Walk.{Walk, queued, visits, sweep}
use Rattle.walk.specs.Needed.{Kept, Marked}
use Rattle.walk.proofs.Walks.{sweep_met, sweep_more, sweep-done}
use Rattle.walk.proofs.Each.{each_map}
use Rattle.walk.proofs.Keeping.{IsState, Inside, kept_full}
use Rattle.walk.proofs.Marks.{visits_marked}

module _ (z : Sizes) (few : all_states z ≤ 8192) (goal : ℕ → Bool) (w : Walk) (kept : Kept z w) (all : w.count ≡ all_states z) where
  visits_full : (p : ℕ) (xs : List Step) → Inside z xs → visits goal p xs w ≡ w
  visits_full p xs inside = visits_marked goal w p xs (each_map (IsState z) (Marked w.area) (kept_full z few kept all) xs inside)

  pub sweep_full : (steps : ℕ → List Step) → ((n : ℕ) → n < all_states z → Inside z (steps n)) → (fuel p : ℕ) → sweep goal steps fuel p w ≡ w
  unfolding sweep
  sweep_full steps inside zero p = refl
  sweep_full steps inside (suc fuel) p = go w.met refl (dec_lt p w.count) (sweep_full steps inside fuel (p + 1))
    where
      go : (b : Bool) → w.met ≡ b → Dec (p < w.count) → sweep goal steps fuel (p + 1) w ≡ w → sweep goal steps (suc fuel) p w ≡ w
      go true e here on = sweep_met goal steps (suc fuel) p w e
      go false e (yes lt) on =
          sweep_more goal steps fuel p w e lt
          ∙ ap (sweep goal steps fuel (p + 1)) (visits_full p (steps (queued w.area p)) (inside (queued w.area p) (kept.states p lt))) ∙ on
      go false e (no ge) on = sweep-done goal steps (suc fuel) p w (omega arith)
