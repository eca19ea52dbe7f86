-- A state that enters is recorded, and what was recorded stays.
-- Assumes nothing.
use mathlib.Core.Path.{◌≡◌, sym, ap, ◌∙◌}
use mathlib.Core.Logic.{◌⊎◌, inl, inr}
use mathlib.Core.Bool.{Bool}
use mathlib.Core.List.{List, [], ◌∷◌, ◌++◌}
use Prim.Native.Nat.{ℕ, suc, ◌*◌, ◌≤◌, ◌<◌}
use native.Mathlib.Omega.{arith}
use native.Mathlib.Decide.{ℕ_discrete}
use native.Mathlib.Numerals.{add-one}
use lib.ListN.{length}
use Rattle.gran.specs.Policy.{Policy}
use Rattle.runs.specs.Search.{Queued, state_at, parent_at, act_at}
use Rattle.gran.proofs.Lists.{length_more}
use Rattle.runs.proofs.Search.{state_old, state_new, parent_old, parent_new, act_old, act_new, each-place}
use Rattle.numbered.specs.Number.{all_states, sizes_of, state_number}
use Rattle.numbered.specs.Candidates.{label_of}
use Rattle.walk.specs.Walk.{Walk, queued, mark, labelled, Cleared, empty, enter}
use Rattle.walk.specs.Needed.{Kept}
use Rattle.walk.specs.Found.{Recorded}
use Rattle.walk.proofs.Entering.{queue-stays, queue_new, mark-stays, mark_new, label-stays, label_new}
use Rattle.walk.proofs.Keeping.{kept-empty, kept_below, kept-enter}

-- State n was found.
abbrev pub Known : Policy → List Queued → ℕ → Type 0
Known P found n = (k : ℕ) × (k < length found) × (state_number P (state_at found k) ≡ n)

-- What is recorded is all that is marked.
pub record Stored (P : Policy) (w : Walk) (found : List Queued) : Type 0 where
  pub kept : Kept (sizes_of P) w
  pub recorded : Recorded P w found
  pub seen : (n : ℕ) → n < 8192 → (mark w.area n ≡ 0) ⊎ Known P found n

pub stored-none : (P : Policy) (area : List ℕ) → Cleared (all_states (sizes_of P)) area → Stored P (empty area) []
stored-none P area clear = record {
  kept = kept-empty (sizes_of P) area clear;
  recorded = record {
    count = omega arith;
    states = λ k h. absurd (omega arith);
    parents = λ k h. absurd (omega arith);
    labels = λ k pos h. absurd (omega arith);
  };
  seen = λ n h. inl (clear.unmarked n h);
}

module _ (P : Policy) (few : all_states (sizes_of P) ≤ 8192) (goal : ℕ → Bool) (w : Walk) (found : List Queued) (m : Stored P w found) (e : Queued) (c : ℕ)
    (state : state_number P e.state < all_states (sizes_of P)) (unmarked : mark w.area (state_number P e.state) ≡ 0) where
  n : ℕ
  n = state_number P e.state

  p : ℕ
  p = e.parent

  room : w.count < all_states (sizes_of P)
  unfolding n
  room = kept_below (sizes_of P) few m.kept n state unmarked

  -- A state that has no mark was not found.
  pub other : (k : ℕ) → k < length found → state_number P (state_at found k) ≡ state_number P e.state → ⊥
  other k h eq = omega (arith, m.recorded.parents k h, ap (mark w.area) eq, unmarked)

  found₁ : List Queued
  found₁ = found ++ e ∷ []

  w₁ : Walk
  w₁ = enter goal e.parent c (state_number P e.state) w

  pub enter_stored : ((k : ℕ) → 0 < k → k < length found → parent_at found k < k)
      → (0 < length found → (e.parent < length found) × (c ≡ label_of P (state_at found e.parent) e.act))
      → Stored P (enter goal e.parent c (state_number P e.state) w) (found ++ e ∷ [])
  unfolding n p room found₁ w₁
  enter_stored earlier named = record {
    kept = kept-enter (sizes_of P) few goal p c n state m.kept unmarked;
    recorded = record {
      count = rw (rec.count, length_more found e) (add-one (length found));
      states = each-place found e (λ k. queued w₁.area k ≡ state_number P (state_at found₁ k))
          (λ k h. rw (state_old found e k h) (queue-stays w.area w.count p c n k (omega (arith, rec.count)) ∙ rec.states k h))
          (rw (state_new found e, ← rec.count) (queue_new w.area w.count p c n (omega (arith, long, room))));
      parents = each-place found e (λ k. mark w₁.area (state_number P (state_at found₁ k)) ≡ suc (parent_at found₁ k))
          (λ k h. rw (state_old found e k h, parent_old found e k h) (mark-stays w.area w.count p c n (state_number P (state_at found k)) (other k h) ∙ rec.parents k h))
          (rw (state_new found e, parent_new found e) (mark_new w.area w.count p c n (omega (arith, long, state))));
      labels = λ k pos h. each-place found e (λ k. 0 < k → labelled w₁.area (state_number P (state_at found₁ k)) ≡ label_of P (state_at found₁ (parent_at found₁ k)) (act_at found₁ k)) old_label new_label k h pos;
    };
    seen = λ u lt. elim (ℕ_discrete u n) [ yes eq ↦ inr (length found, rw (length_more found e) (omega arith), ap (state_number P) (state_new found e) ∙ sym eq) | no ne ↦ seen₁ u lt ne (m.seen u lt) ];
  }
    where
      rec : Recorded P w found
      rec = m.recorded

      long : 3 * all_states (sizes_of P) ≤ length w.area
      long = m.kept.long

      old_label : (k : ℕ) → k < length found → 0 < k → labelled w₁.area (state_number P (state_at found₁ k)) ≡ label_of P (state_at found₁ (parent_at found₁ k)) (act_at found₁ k)
      old_label k h pos =
          let up : parent_at found k < length found = omega (arith, earlier k pos h) in
          rw (state_old found e k h, parent_old found e k h, act_old found e k h, state_old found e (parent_at found k) up)
          (label-stays w.area w.count p c n (state_number P (state_at found k)) (other k h) ∙ rec.labels k pos h)

      new_label : 0 < length found → labelled w₁.area (state_number P (state_at found₁ (length found))) ≡ label_of P (state_at found₁ (parent_at found₁ (length found))) (act_at found₁ (length found))
      new_label pos =
          rw (state_new found e, parent_new found e, act_new found e, state_old found e e.parent (named pos).0)
          (label_new w.area w.count p c n (omega (arith, long, state)) ∙ (named pos).1)

      seen₁ : (u : ℕ) → u < 8192 → (u ≡ n → ⊥) → (mark w.area u ≡ 0) ⊎ Known P found u → (mark w₁.area u ≡ 0) ⊎ Known P found₁ u
      seen₁ u lt ne (inl z) = inl (mark-stays w.area w.count p c n u ne ∙ z)
      seen₁ u lt ne (inr (k, h, eq)) = inr (k, rw (length_more found e) (omega arith), ap (state_number P) (state_old found e k h) ∙ eq)
