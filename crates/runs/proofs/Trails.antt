-- Trails and runs are the same: a trail's acts are a run, every run is a trail's acts, and the two orders agree.
-- Assumes nothing.
use mathlib.Core.Path.{◌≡◌, refl, sym, ap, ◌∙◌}
use mathlib.Core.Logic.{◌⊎◌, inl, inr}
use mathlib.Core.Bool.{So}
use mathlib.Core.List.{List, [], ◌∷◌, ◌++◌, append-nil, append_assoc}
use Prim.Native.Nat.{ℕ, ◌<◌}
use native.Mathlib.Omega.{arith}
use lib.ListN.{get_or, length-append}
use Rattle.paths.proofs.Bools.{both, left, right}
use Rattle.gran.specs.Lists.{none}
use Rattle.gran.specs.Policy.{Policy}
use Rattle.gran.specs.Good.{Good}
use Rattle.gran.specs.Abstract.{Act, set_special, may, next, run, last}
use Rattle.gran.specs.Run.{key, keys, Sooner, Before, Leads}
use Rattle.gran.specs.declared.State.{State}
use Rattle.runs.specs.Steps.{steps}
use Rattle.runs.specs.Trail.{Trail, Ahead, NoLater, width, step_at, to, end, Fits, Arrives, acts_of}
use Rattle.gran.proofs.Members.{mem_at, at_mem}
use Rattle.runs.proofs.Rising.{steps_rising}
use Rattle.runs.proofs.Steps.{steps-may, steps-has}
use Rattle.runs.proofs.Order.{total, earlier_snoc, earlier-last, before_asym}

-- ---- more acts

pub last_append : (α : State) (xs ys : List Act) → last α (xs ++ ys) ≡ last (last α xs) ys
last_append α [] ys = refl
last_append α (x ∷ xs) ys = last_append (next α x) xs ys

module _ (P : Policy) where
  pub run_append : (α : State) (xs ys : List Act) → So (run P α xs) → So (run P (last α xs) ys) → So (run P α (xs ++ ys))
  run_append α [] ys h t = t
  run_append α (x ∷ xs) ys h t = both (left (may P α x) _ h) (run_append (next α x) xs ys (right (may P α x) _ h) t)

  keys_snoc : (a : Act) (α : State) (xs : List Act) → keys P α (xs ++ a ∷ []) ≡ keys P α xs ++ key P (last α xs) a ∷ []
  keys_snoc a α [] = refl
  keys_snoc a α (x ∷ xs) = ap (λ (ks : List (List ℕ)). key P α x ∷ ks) (keys_snoc a (next α x) xs)

-- ---- steps by their places

module _ (P : Policy) where
  pub step_at-may : (β : State) (i : ℕ) → i < width P β → So (may P β (step_at P β i))
  unfolding step_at
  step_at-may β i h = steps-may P β (get_or (steps P β) i (set_special none)) (at_mem (set_special none) (steps P β) i h)

  module _ (good : Good P) where
    placed : (β : State) (a : Act) → So (may P β a) → (i : ℕ) × (i < width P β) × (step_at P β i ≡ a)
    unfolding step_at
    placed β a t = mem_at (set_special none) (steps P β) (steps-has P good β a t)

    step_at_rising : (β : State) (i j : ℕ) → i < j → j < width P β → Sooner (key P β (step_at P β i)) (key P β (step_at P β j))
    unfolding step_at
    step_at_rising β i j l h = steps_rising P β good (set_special none) i j l h

-- ---- trails and runs

module _ (P : Policy) (α : State) where
  acts-last : (r : Trail) → last α (acts_of P α r) ≡ end P α r
  unfolding to
  acts-last [] = refl
  acts-last (i ∷ r) = last_append α (acts_of P α r) (step_at P (end P α r) i ∷ []) ∙ ap (λ (β : State). next β (step_at P (end P α r) i)) (acts-last r)

  acts-run : (r : Trail) → Fits P α r → So (run P α (acts_of P α r))
  acts-run [] h = refl
  acts-run (i ∷ r) h = run_append P α (acts_of P α r) (step_at P (end P α r) i ∷ []) (acts-run r h.0) (rw (acts-last r) (both (step_at-may P (end P α r) i h.1) refl))

  pub arrives_leads : (r : Trail) (β : State) → Arrives P α r β → Leads P α β (acts_of P α r)
  arrives_leads r β h = record { runs = acts-run r h.0; ends = acts-last r ∙ h.1 }

  acts-keys : (i : ℕ) (r : Trail) → keys P α (acts_of P α (i ∷ r)) ≡ keys P α (acts_of P α r) ++ key P (end P α r) (step_at P (end P α r) i) ∷ []
  acts-keys i r = rw (keys_snoc P (step_at P (end P α r) i) α (acts_of P α r), acts-last r)

  module _ (good : Good P) where
    -- Every run that goes on from a trail is the acts of a trail.
    trail_on : (r : Trail) → Fits P α r → (xs : List Act) → So (run P (end P α r) xs) → (q : Trail) × Fits P α q × (acts_of P α q ≡ acts_of P α r ++ xs)
    unfolding to
    trail_on r h [] t = (r, h, sym (append-nil (acts_of P α r)))
    trail_on r h (x ∷ xs) t =
        let β : State = end P α r in
        let (i, l, e) = placed P good β x (left (may P β x) _ t) in
        let (q, f, is) = trail_on (i ∷ r) (h, l) xs (rw e (right (may P β x) _ t)) in
        (q, f, is ∙ append_assoc (acts_of P α r) (step_at P β i ∷ []) xs ∙ ap (λ (y : Act). acts_of P α r ++ y ∷ xs) e)

    pub leads_arrives : (xs : List Act) (β : State) → Leads P α β xs → (r : Trail) × Arrives P α r β × (acts_of P α r ≡ xs)
    leads_arrives xs β h =
        let (r, f, e) = trail_on [] tt xs h.runs in
        (r, (f, sym (acts-last r) ∙ ap (last α) e ∙ h.ends), e)

    -- The two orders agree.
    pub ahead_before : (r q : Trail) → Fits P α q → Ahead r q → Before P α (acts_of P α r) (acts_of P α q)
    ahead_before r [] f h = absurd h
    ahead_before [] (j ∷ q) f h = inl (rw (acts-keys j q, length-append) (omega arith))
    ahead_before (i ∷ r) (j ∷ q) f (inl h) = rw (acts-keys i r, acts-keys j q) (earlier_snoc Sooner _ _ (keys P α (acts_of P α r)) (keys P α (acts_of P α q)) (ahead_before r q f.0 h))
    ahead_before (i ∷ r) (j ∷ q) f (inr h) = rw (acts-keys i r, acts-keys j q, h.0) (earlier-last Sooner _ _ (keys P α (acts_of P α q)) (step_at_rising P good (end P α q) i j h.1 f.1))

    pub before_ahead : (r q : Trail) → Fits P α r → Fits P α q → Before P α (acts_of P α r) (acts_of P α q) → Ahead r q
    before_ahead r q f g h = go (total r q)
      where
        go : Ahead r q ⊎ NoLater q r → Ahead r q
        go (inl less) = less
        go (inr (inl same)) = let k : Before P α (acts_of P α r) (acts_of P α r) = rw same at h in absurd (before_asym P α (acts_of P α r) (acts_of P α r) k k)
        go (inr (inr more)) = absurd (before_asym P α (acts_of P α r) (acts_of P α q) h (ahead_before q r f more))
