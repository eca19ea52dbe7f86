-- What the end of a search says: never, or the first run to the access, with the states opened.
-- Assumes nothing.
use mathlib.Core.Path.{◌≡◌, refl, sym, ap, ◌∙◌}
use mathlib.Core.Logic.{◌⊎◌, inl, inr, ⊎_elim}
use mathlib.Core.Bool.{false, cond, So, false≢true}
use mathlib.Core.List.{List, [], ◌∷◌, ◌++◌}
use Prim.Native.Nat.{ℕ, zero, suc, ◌≤◌, ◌<◌}
use native.Mathlib.Omega.{arith}
use native.Mathlib.Decide.{ℕ_discrete}
use lib.Dec.{eqb}
use lib.ListN.{length}
use Rattle.paths.proofs.Bools.{to-false, eqb-to}
use Rattle.gran.specs.Policy.{Policy}
use Rattle.gran.specs.Good.{Good}
use Rattle.gran.specs.Abstract.{Act, access, last}
use Rattle.gran.specs.Reach.{Question, Granted}
use Rattle.gran.specs.Run.{Before, Leads, First, Opens, OpensBefore, Shown, Unreached}
use Rattle.gran.specs.declared.State.{State}
use Rattle.runs.specs.Trail.{Trail, Ahead, NoLater, Fits, Arrives, acts_of}
use Rattle.runs.specs.Search.{Queued, state_at, parent_at, act_at, trail_at, acts_back, acts_to, Child, Searched}
use Rattle.runs.proofs.Order.{irrefl, trans, total, nolater_ahead}
use Rattle.runs.proofs.Trails.{arrives_leads, leads_arrives, ahead_before, before_ahead}
use Rattle.runs.proofs.Search.{reach, exhausted, apart}
use Rattle.runs.proofs.Count.{counts-by}

-- ---- the acts, by the parents

-- The start is reached by no act.
pub acts_to-start : (found : List Queued) → acts_to found 0 ≡ []
unfolding acts_to
acts_to-start found = refl

module _ {P : Policy} {α : State} {found : List Queued} {p i : ℕ} (g : Searched P α found p i) where
  acts-back : (fuel k : ℕ) → k ≤ fuel → k < length found → acts_back found fuel k ≡ acts_of P α (trail_at found k)
  acts-back zero k l h = let at : k ≡ 0 = omega arith in rw (at, g.starts.1)
  acts-back (suc fuel) k l h = go (ℕ_discrete k 0) (acts-back fuel)
    where
      go : Dec (k ≡ 0) → ((j : ℕ) → j ≤ fuel → j < length found → acts_back found fuel j ≡ acts_of P α (trail_at found j))
          → cond (eqb k 0) [] (acts_back found fuel (parent_at found k) ++ act_at found k ∷ []) ≡ acts_of P α (trail_at found k)
      go (yes z) ih = rw (z, g.starts.1)
      go (no nz) ih =
          let c : Child P found k = g.children k (omega arith) h in
          let up : parent_at found k < length found = omega (arith, c.earlier) in
          rw (to-false (eqb k 0) (λ t. nz (eqb-to k 0 t)), ih (parent_at found k) (omega (arith, c.earlier)) up, c.trail, (g.arrives (parent_at found k) up).1, c.act)

  -- The acts to a place are those of its trail.
  acts-to : (k : ℕ) → k < length found → acts_to found k ≡ acts_of P α (trail_at found k)
  unfolding acts_to
  acts-to k h = acts-back k k (omega arith) h

  -- The acts to a place are those to the place it was found from, and the act it was found by.
  pub acts_to-step : (k : ℕ) → 0 < k → k < length found → acts_to found k ≡ acts_to found (parent_at found k) ++ act_at found k ∷ []
  acts_to-step k pos h =
      let c : Child P found k = g.children k pos h in
      let up : parent_at found k < length found = omega (arith, c.earlier) in
      rw (acts-to k h, acts-to (parent_at found k) up, c.trail, (g.arrives (parent_at found k) up).1, c.act)

-- ---- first runs

module _ (P : Policy) (good : Good P) (α : State) where
  -- A trail is at most another: its acts are the same, or a run before it.
  acts_least : (r : Trail) (ys : List Act) (s : Trail) → Fits P α s → acts_of P α s ≡ ys → NoLater r s → (acts_of P α r ≡ ys) ⊎ Before P α (acts_of P α r) ys
  acts_least r ys s f e (inl same) = inl (ap (acts_of P α) same ∙ e)
  acts_least r ys s f e (inr h) = inr (rw (← e) (ahead_before P α good r s f h))

  module _ {found : List Queued} {p i : ℕ} (g : Searched P α found p i) where
    -- Each state was found by its first run.
    pub first_run : (k : ℕ) → k < length found → First P α (Leads P α (state_at found k)) (acts_to found k)
    first_run k h = rw (acts-to g k h) (record {
      has = arrives_leads P α (trail_at found k) (state_at found k) (g.arrives k h);
      least = λ ys l. let (s, a, e) = leads_arrives P α good ys (state_at found k) l in acts_least (trail_at found k) ys s a.0 e (g.least k h s a);
    })

-- ---- the two answers

module _ (P : Policy) (good : Good P) (q : Question) (α : State) (found : List Queued) where
  -- No further place, and no state has the access.
  pub never_answer : Searched P α found (length found) 0 → ((k : ℕ) → k < length found → access P q.kind q.target (state_at found k) ≡ false) → Unreached P q α (length found)
  never_answer g refused = record {
    never = λ acts t.
        let (k, h, e) = known (last α acts) acts (record { runs = t.runs; ends = refl }) in
        false≢true (sym (refused k h) ∙ ap (access P q.kind q.target) e ∙ t.granted);
    counts = counts-by (state_at found) (length found) (apart P α found (length found) 0 g) (Opens P α)
        (λ k h. (acts_of P α (trail_at found k), arrives_leads P α (trail_at found k) (state_at found k) (g.arrives k h)))
        (λ β o. known β o.0 o.1);
  }
    where
      known : (β : State) (xs : List Act) → Leads P α β xs → (k : ℕ) × (k < length found) × (state_at found k ≡ β)
      known β xs l =
          let (r, a, e) = leads_arrives P α good xs β l in
          let (k, h, es, n) = exhausted P α found g r β a in
          (k, h, es)

  -- The last state that was found is the first that has the access.
  pub shown_answer : (p i : ℕ) → Searched P α found p i → p < length found → (n : ℕ) → suc n ≡ length found → So (access P q.kind q.target (state_at found n))
      → ((k : ℕ) → k < n → access P q.kind q.target (state_at found k) ≡ false) → Shown P q α (acts_to found n) n
  shown_answer p i g here n size granted refused = record {
    first = record { has = there; least = least };
    counts = counts-by (state_at found) n (λ j k lt h. apart P α found p i g j k lt (omega arith)) (OpensBefore P α (acts_to found n)) opens (λ β o. early β o.0 o.1.has o.2);
  }
    where
      zs : Trail
      zs = trail_at found n

      within : n < length found
      within = omega arith

      arrives : Arrives P α zs (state_at found n)
      arrives = g.arrives n within

      there : Granted P q α (acts_to found n)
      there = rw (acts-to g n within) (let l = arrives_leads P α zs (state_at found n) arrives in record { runs = l.runs; granted = rw l.ends granted })

      -- what comes before the last trail was found before it
      before : (r : Trail) (β : State) → Arrives P α r β → Ahead r zs → (k : ℕ) × (k < n) × (state_at found k ≡ β)
      before r β a b =
          let (k, h, e, m) = reach P α found p i g here r β a (trans r zs (i ∷ trail_at found p) b (g.within here n within)) in
          (k, elim (ℕ_discrete k n) [ yes eq ↦ absurd (irrefl zs (nolater_ahead zs r zs (rw eq at m) b)) | no ne ↦ omega arith ], e)

      early : (β : State) (xs : List Act) → Leads P α β xs → Before P α xs (acts_to found n) → (k : ℕ) × (k < n) × (state_at found k ≡ β)
      early β xs l b =
          let (r, a, e) = leads_arrives P α good xs β l in
          before r β a (before_ahead P α good r zs a.0 arrives.0 (rw (e, ← (acts-to g n within)) b))

      least : (ys : List Act) → Granted P q α ys → (acts_to found n ≡ ys) ⊎ Before P α (acts_to found n) ys
      least ys t =
          let (r, a, e) = leads_arrives P α good ys (last α ys) (record { runs = t.runs; ends = refl }) in
          ⊎_elim
          (λ b. let (k, h, es) = before r (last α ys) a b in absurd (false≢true (sym (refused k h) ∙ ap (access P q.kind q.target) es ∙ t.granted)))
          (λ m. rw (acts-to g n within) (acts_least P good α zs ys r a.0 e m))
          (total r zs)

      opens : (k : ℕ) → k < n → OpensBefore P α (acts_to found n) (state_at found k)
      opens k h = (
        acts_to found k,
        first_run P good α g k (omega arith),
        rw (acts-to g k (omega arith), acts-to g n within) (ahead_before P α good (trail_at found k) zs arrives.0 (g.sorted k n h within)),
      )
