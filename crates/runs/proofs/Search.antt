-- A breadth-first search finds the states in the order of their first runs: it begins, meets a state again, finds one, turns to the next place, ends.
-- Assumes nothing.
use mathlib.Core.Path.{◌≡◌, refl, sym, ap, ◌∙◌}
use mathlib.Core.Logic.{◌⊎◌, inl, inr, ⊎_elim}
use mathlib.Core.List.{List, [], ◌∷◌, ◌++◌}
use Prim.Native.Nat.{ℕ, zero, suc, ◌<◌}
use native.Mathlib.Omega.{arith}
use lib.ListN.{length, length-append, get_or-append}
use lib.Seq.{get_or-append_seam}
use Rattle.gran.specs.Policy.{Policy}
use Rattle.gran.specs.Lists.{none}
use Rattle.gran.specs.Abstract.{Act, set_special, next}
use Rattle.gran.specs.declared.State.{State}
use Rattle.gran.proofs.Lists.{length_more}
use Rattle.runs.specs.Steps.{steps}
use Rattle.runs.specs.Trail.{Trail, Ahead, NoLater, width, step_at, to, IsStep, end, Arrives}
use Rattle.runs.specs.Search.{Queued, first, queued, state_at, parent_at, act_at, trail_at, Known, Tried, Child, Searched}
use Rattle.runs.proofs.Order.{irrefl, trans, asym, order, total, grows, nolater_ahead, ahead_nolater, nolater_trans, nolater-step, later, deeper}

-- ---- a longer queue

module _ (found : List Queued) (e : Queued) where
  queued_old : (k : ℕ) → k < length found → queued (found ++ e ∷ []) k ≡ queued found k
  unfolding queued
  queued_old k h = get_or-append found (e ∷ []) _ k h

  queued_new : queued (found ++ e ∷ []) (length found) ≡ e
  unfolding queued
  queued_new = get_or-append_seam found e [] _

  module _ (k : ℕ) (h : k < length found) where
    pub state_old : state_at (found ++ e ∷ []) k ≡ state_at found k
    unfolding state_at
    state_old = ap (λ (x : Queued). x.state) (queued_old k h)

    pub parent_old : parent_at (found ++ e ∷ []) k ≡ parent_at found k
    unfolding parent_at
    parent_old = ap (λ (x : Queued). x.parent) (queued_old k h)

    pub act_old : act_at (found ++ e ∷ []) k ≡ act_at found k
    unfolding act_at
    act_old = ap (λ (x : Queued). x.act) (queued_old k h)

    pub trail_old : trail_at (found ++ e ∷ []) k ≡ trail_at found k
    unfolding trail_at
    trail_old = ap (λ (x : Queued). x.trail) (queued_old k h)

  pub state_new : state_at (found ++ e ∷ []) (length found) ≡ e.state
  unfolding state_at
  state_new = ap (λ (x : Queued). x.state) queued_new

  pub parent_new : parent_at (found ++ e ∷ []) (length found) ≡ e.parent
  unfolding parent_at
  parent_new = ap (λ (x : Queued). x.parent) queued_new

  pub act_new : act_at (found ++ e ∷ []) (length found) ≡ e.act
  unfolding act_at
  act_new = ap (λ (x : Queued). x.act) queued_new

  pub trail_new : trail_at (found ++ e ∷ []) (length found) ≡ e.trail
  unfolding trail_at
  trail_new = ap (λ (x : Queued). x.trail) queued_new

  -- What holds at each place, and at the new one, holds at each place of the longer queue.
  pub each-place : (Q : ℕ → Type 0) → ((k : ℕ) → k < length found → Q k) → Q (length found) → (k : ℕ) → k < length (found ++ e ∷ []) → Q k
  each-place Q old new k h = go (order k (length found))
    where
      go : (k < length found) ⊎ ((k ≡ length found) ⊎ (length found < k)) → Q k
      go (inl lt) = old k lt
      go (inr (inl eq)) = rw eq new
      go (inr (inr gt)) = absurd (omega (arith, length_more found e))

module _ (P : Policy) (α : State) where
  -- The search begins at the start.
  pub begin : Searched P α (first α ∷ []) 0 0
  unfolding queued state_at parent_at trail_at
  begin = record {
    some = omega arith;
    starts = (refl, refl);
    arrives = arrives₀;
    sorted = λ j k a b. absurd (omega arith);
    least = least₀;
    children = λ k a b. absurd (omega arith);
    within = λ _. within₀;
    closed = λ j l h t. absurd (⊎_elim (λ a. omega arith) (λ a. omega arith) t);
  }
    where
      alone : List Queued
      alone = first α ∷ []

      arrives₀ : (k : ℕ) → k < 1 → Arrives P α (trail_at alone k) (state_at alone k)
      arrives₀ zero h = (tt, refl)
      arrives₀ (suc k) h = absurd (omega arith)

      least₀ : (k : ℕ) → k < 1 → (r : Trail) → Arrives P α r (state_at alone k) → NoLater (trail_at alone k) r
      least₀ zero h [] l = inl refl
      least₀ zero h (x ∷ r) l = inr tt
      least₀ (suc k) h r l = absurd (omega arith)

      within₀ : (k : ℕ) → k < 1 → Ahead (trail_at alone k) (0 ∷ [])
      within₀ zero h = tt
      within₀ (suc k) h = absurd (omega arith)

  module _ (found : List Queued) (p i : ℕ) (g : Searched P α found p i) where
    -- The start is known by the trail with no step.
    known_start : (β : State) → Arrives P α [] β → Known found [] β
    known_start β h = (0, g.some, g.starts.0 ∙ h.1, inl g.starts.1)

    -- What is known goes on by a step that was tried.
    known_step : (x : ℕ) (r : Trail) (β : State) → Arrives P α (x ∷ r) β → (k : ℕ) → k < length found → state_at found k ≡ end P α r → NoLater (trail_at found k) r
        → Tried p i k x → Known found (x ∷ r) β
    known_step x r β a k h es n t =
        let (k₂, h₂, es₂, n₂) = g.closed k x h t (rw es a.0.1) in
        (k₂, h₂, es₂ ∙ ap (λ (s : State). to P s x) es ∙ a.1, nolater_trans _ _ _ n₂ (nolater-step x (trail_at found k) r n))

  module _ (found : List Queued) (p i : ℕ) (g : Searched P α found p i) (here : p < length found) where
    -- Every trail that comes before the step that is tried next leads to a state that was found, by a trail no later.
    pub reach : (r : Trail) (β : State) → Arrives P α r β → Ahead r (i ∷ trail_at found p) → Known found r β
    reach [] β a b = known_start found p i g β a
    reach (x ∷ r) β a b = on (reach r (end P α r) (a.0.0, refl) b₁)
      where
        b₁ : Ahead r (i ∷ trail_at found p)
        b₁ = ⊎_elim (λ h. trans r (trail_at found p) (i ∷ trail_at found p) h (grows i (trail_at found p))) (λ h. rw h.0 (grows i (trail_at found p))) b

        tried : (k : ℕ) → k < length found → NoLater (trail_at found k) r → (k < p) ⊎ ((k ≡ p) ⊎ (p < k)) → Ahead r (trail_at found p) ⊎ ((r ≡ trail_at found p) × (x < i)) → Tried p i k x
        tried k h n (inl lt) c = inl lt
        tried k h n (inr (inl eq)) (inl c) = absurd (irrefl (trail_at found k) (nolater_ahead (trail_at found k) r (trail_at found k) n (rw eq c)))
        tried k h n (inr (inl eq)) (inr c) = inr (eq, c.1)
        tried k h n (inr (inr gt)) (inl c) = absurd (asym (trail_at found p) (trail_at found k) (g.sorted p k gt h) (nolater_ahead (trail_at found k) r (trail_at found p) n c))
        tried k h n (inr (inr gt)) (inr c) = absurd (irrefl (trail_at found p) (ahead_nolater (trail_at found p) (trail_at found k) (trail_at found p) (g.sorted p k gt h) (rw c.0 at n)))

        on : Known found r (end P α r) → Known found (x ∷ r) β
        on (k, h, es, n) = known_step found p i g x r β a k h es n (tried k h n (order k p) b)

    module _ (a : Act) (step : IsStep P (state_at found p) i a) where
      -- What is known of the steps before step i, and of step i, is known of all steps up to it.
      up_to : (queue : List Queued) → ((j l : ℕ) → j < length found → Tried p i j l → l < width P (state_at found j) → Known queue (l ∷ trail_at found j) (to P (state_at found j) l))
          → Known queue (i ∷ trail_at found p) (next (state_at found p) a)
          → (j l : ℕ) → j < length found → Tried p (suc i) j l → l < width P (state_at found j) → Known queue (l ∷ trail_at found j) (to P (state_at found j) l)
      unfolding to
      up_to queue old now j l hj (inl lt) hl = old j l hj (inl lt) hl
      up_to queue old now j l hj (inr c) hl = go (order l i)
        where
          go : (l < i) ⊎ ((l ≡ i) ⊎ (i < l)) → Known queue (l ∷ trail_at found j) (to P (state_at found j) l)
          go (inl lt) = old j l hj (inr (c.0, lt)) hl
          go (inr (inl el)) = rw (c.0, el, step.is) now
          go (inr (inr gt)) = absurd (omega (arith, c.1))

      -- Step i leads to a state that was found before.
      pub seen : (k : ℕ) → k < length found → state_at found k ≡ next (state_at found p) a → Searched P α found p (suc i)
      seen k h e = record {
        some = g.some;
        starts = g.starts;
        arrives = g.arrives;
        sorted = g.sorted;
        least = g.least;
        children = g.children;
        within = λ _ k h. later (trail_at found k) (trail_at found p) i (g.within here k h);
        closed = up_to found g.closed (k, h, e, inr (g.within here k h));
      }

      -- Step i leads to a state that was not found yet.
      pub fresh : (t : State) → next (state_at found p) a ≡ t → ((k : ℕ) → k < length found → state_at found k ≡ t → ⊥)
          → Searched P α (found ++ record { state = t; parent = p; act = a; trail = i ∷ trail_at found p } ∷ []) p (suc i)
      unfolding to
      fresh t leads new = record {
        some = rw more (omega arith);
        starts = (rw (state_old found e 0 g.some) g.starts.0, rw (trail_old found e 0 g.some) g.starts.1);
        arrives = each-place found e (λ k. Arrives P α (trail_at found₁ k) (state_at found₁ k))
            (λ k h. rw (trail_old found e k h, state_old found e k h) (g.arrives k h))
            (rw (trail_new found e, state_new found e) arrived);
        sorted = λ j k lt h. each-place found e (λ k. (j : ℕ) → j < k → Ahead (trail_at found₁ j) (trail_at found₁ k))
            (λ k h j lt. rw (trail_old found e j (omega arith), trail_old found e k h) (g.sorted j k lt h))
            (λ j lt. rw (trail_old found e j lt, trail_new found e) (g.within here j lt)) k h j lt;
        least = each-place found e (λ k. (r : Trail) → Arrives P α r (state_at found₁ k) → NoLater (trail_at found₁ k) r)
            (λ k h r l. rw (trail_old found e k h) (g.least k h r (rw (state_old found e k h) at l)))
            (λ r l. rw (trail_new found e) (newest r (rw (state_new found e) at l)));
        children = λ k pos h. each-place found e (λ k. 0 < k → Child P found₁ k) old_child (λ pos. new_child) k h pos;
        within = λ _. each-place found e (λ k. Ahead (trail_at found₁ k) (suc i ∷ trail_at found₁ p))
            (λ k h. rw (trail_old found e k h, trail_old found e p here) (later (trail_at found k) (trail_at found p) i (g.within here k h)))
            (rw (trail_new found e, trail_old found e p here) (inr (refl, omega arith)));
        closed = closed₁;
      }
        where
          e : Queued
          e = record { state = t; parent = p; act = a; trail = i ∷ trail_at found p }

          found₁ : List Queued
          found₁ = found ++ e ∷ []

          more : length found₁ ≡ suc (length found)
          more = length_more found e

          there : end P α (trail_at found p) ≡ state_at found p
          there = (g.arrives p here).1

          arrived : Arrives P α (i ∷ trail_at found p) t
          arrived = (((g.arrives p here).0, rw there step.within), rw (there, step.is) leads)

          newest : (r : Trail) → Arrives P α r t → NoLater (i ∷ trail_at found p) r
          newest r l = ⊎_elim (λ b. let (k, h, es, n) = reach r t l b in absurd (new k h es)) (λ n. n) (total r (i ∷ trail_at found p))

          old_child : (k : ℕ) → k < length found → 0 < k → Child P found₁ k
          old_child k h pos =
              let c : Child P found k = g.children k pos h in
              let up : parent_at found k < length found = omega (arith, c.earlier) in
              record {
                step = c.step;
                earlier = rw (parent_old found e k h) c.earlier;
                trail = rw (parent_old found e k h, trail_old found e k h, trail_old found e (parent_at found k) up) c.trail;
                act = rw (parent_old found e k h, act_old found e k h, state_old found e (parent_at found k) up) c.act;
              }

          new_child : Child P found₁ (length found)
          new_child = record {
            step = i;
            earlier = rw (parent_new found e) here;
            trail = rw (parent_new found e, trail_new found e, trail_old found e p here);
            act = rw (parent_new found e, act_new found e, state_old found e p here) step.is;
          }

          keep : (r : Trail) (β : State) → Known found r β → Known found₁ r β
          keep r β (k, h, es, n) = (k, rw more (omega arith), rw (state_old found e k h) es, rw (trail_old found e k h) n)

          closed₁ : (j l : ℕ) → j < length found₁ → Tried p (suc i) j l → l < width P (state_at found₁ j) → Known found₁ (l ∷ trail_at found₁ j) (to P (state_at found₁ j) l)
          closed₁ j l hj tr hl =
              let h : j < length found = ⊎_elim (λ c. omega arith) (λ c. omega (arith, c.0)) tr in
              rw (state_old found e j h, trail_old found e j h)
              (up_to found₁ (λ j l h tr hl. keep _ _ (g.closed j l h tr hl)) (length found, rw more (omega arith), state_new found e ∙ sym leads, inl (trail_new found e))
              j l h tr (rw (state_old found e j h) at hl))

  -- All steps of place p were tried: the search goes on at the next place.
  pub turn : (found : List Queued) (p i : ℕ) → Searched P α found p i → p < length found → i ≡ length (steps P (state_at found p)) → Searched P α found (suc p) 0
  turn found p i g here done = record {
    some = g.some;
    starts = g.starts;
    arrives = g.arrives;
    sorted = g.sorted;
    least = g.least;
    children = g.children;
    within = λ more k h. deeper (trail_at found k) (trail_at found p) (trail_at found (suc p)) i 0 (g.within here k h) (g.sorted p (suc p) (omega arith) more);
    closed = λ j l h t hl. g.closed j l h (tried j l t hl (order j p)) hl;
  }
    where
      tried : (j l : ℕ) → Tried (suc p) 0 j l → l < width P (state_at found j) → (j < p) ⊎ ((j ≡ p) ⊎ (p < j)) → Tried p i j l
      tried j l t hl (inl lt) = inl lt
      tried j l t hl (inr (inl eq)) = inr (eq, omega (arith, done, ap (λ (k : ℕ). width P (state_at found k)) eq))
      tried j l t hl (inr (inr gt)) = absurd (⊎_elim (λ c. omega arith) (λ c. omega arith) t)

  -- The queue has no further place: every trail leads to a state that was found.
  pub exhausted : (found : List Queued) → Searched P α found (length found) 0 → (r : Trail) (β : State) → Arrives P α r β → Known found r β
  exhausted found g [] β a = known_start found (length found) 0 g β a
  exhausted found g (x ∷ r) β a =
      let (k, h, es, n) = exhausted found g r (end P α r) (a.0.0, refl) in
      known_step found (length found) 0 g x r β a k h es n (inl h)

  -- No state is found twice.
  pub apart : (found : List Queued) (p i : ℕ) → Searched P α found p i → (j k : ℕ) → j < k → k < length found → state_at found j ≡ state_at found k → ⊥
  apart found p i g j k lt h e =
      irrefl (trail_at found j) (ahead_nolater (trail_at found j) (trail_at found k) (trail_at found j) (g.sorted j k lt h)
      (g.least k h (trail_at found j) (rw e at (g.arrives j (omega arith)))))

-- The step after those that were done.
pub split_step : (P : Policy) (β : State) (done : List Act) (a : Act) (rest : List Act) → steps P β ≡ done ++ a ∷ rest → IsStep P β (length done) a
unfolding step_at
split_step P β done a rest e = record {
  within = rw (e, length-append done (a ∷ rest)) (omega arith);
  is = rw e (get_or-append_seam done a rest (set_special none));
}
