-- Real runs and abstract runs match, step by step: soundness, completeness, and what an answer may rest on.
-- Assumes nothing.
use mathlib.Core.Path.{◌≡◌, refl, sym, ap, ◌∙◌}
use mathlib.Core.Logic.{◌↔◌}
use mathlib.Core.Bool.{So}
use mathlib.Core.List.{List, [], ◌∷◌}
use Prim.Native.Nat.{ℕ, suc}
use lib.ListN.{length}
use Rattle.gran.specs.Policy.{Policy}
use Rattle.gran.specs.Good.{Good}
use Rattle.gran.specs.Real
use Rattle.gran.specs.Abstract
use Rattle.gran.specs.declared.State.{State}
use Rattle.gran.specs.Abstract.{abstract, abstract_act, abstract_acts, real_act, real_acts}
use Rattle.gran.specs.Reach.{Question, Granted, Reached, Reachable, Found, Never, Fewest}
use Rattle.paths.proofs.Bools.{both, left, right}
use Rattle.gran.proofs.Policies.{Known}
use Rattle.gran.proofs.Step.{access-same, step_sound, next_sound, step_complete, next_known}

module _ (P : Policy) (good : Good P) where
  -- ---- soundness

  pub record Sound (σ : Real.State) (acts : List Real.Act) : Type 0 where
    pub runs : So (Abstract.run P (abstract P σ) (abstract_acts P σ acts))
    pub length-same : length (abstract_acts P σ acts) ≡ length acts
    pub last-same : Abstract.last (abstract P σ) (abstract_acts P σ acts) ≡ abstract P (Real.last σ acts)
    pub last_known : Known P (Real.last σ acts).special

  -- T1: every real run is an abstract run of the same length, to the abstraction of its last state.
  pub sound : (σ : Real.State) → Known P σ.special → (acts : List Real.Act) → So (Real.run P σ acts) → Sound σ acts
  sound σ known [] t = record { runs = refl; length-same = refl; last-same = refl; last_known = known }
  sound σ known (a ∷ rest) t =
      let now = left (Real.may P σ a) _ t in
      cons (step_sound P good σ known a now)
      (sound (Real.next σ a) (next_known P good σ known a now) rest (right (Real.may P σ a) _ t))
    where
      cons : So (Abstract.may P (abstract P σ) (abstract_act P σ a)) → Sound (Real.next σ a) rest → Sound σ (a ∷ rest)
      cons now ih = record {
        runs = both now (rw (next_sound P good σ known a) ih.runs);
        length-same = ap suc ih.length-same;
        last-same = ap (λ (α : State). Abstract.last α (abstract_acts P (Real.next σ a) rest)) (next_sound P good σ known a) ∙ ih.last-same;
        last_known = ih.last_known;
      }

  -- ---- completeness

  pub record Complete (σ : Real.State) (acts : List Abstract.Act) : Type 0 where
    pub runs : So (Real.run P σ (real_acts P σ acts))
    pub length-same : length (real_acts P σ acts) ≡ length acts
    pub last-same : abstract P (Real.last σ (real_acts P σ acts)) ≡ Abstract.last (abstract P σ) acts
    pub last_known : Known P (Real.last σ (real_acts P σ acts)).special

  -- T2: every abstract run from the abstraction of a real state is shown by a real run of the same length from that state.
  pub complete : (σ : Real.State) → Known P σ.special → (acts : List Abstract.Act) → So (Abstract.run P (abstract P σ) acts) → Complete σ acts
  complete σ known [] t = record { runs = refl; length-same = refl; last-same = refl; last_known = known }
  complete σ known (b ∷ rest) t =
      let now = step_complete P good σ known b (left (Abstract.may P (abstract P σ) b) _ t) in
      cons now
      (complete (Real.next σ (real_act P σ b)) (next_known P good σ known (real_act P σ b) now.0) rest
      (rw now.1 (right (Abstract.may P (abstract P σ) b) _ t)))
    where
      σ' : Real.State
      σ' = Real.next σ (real_act P σ b)

      cons : So (Real.may P σ (real_act P σ b)) × (abstract P σ' ≡ Abstract.next (abstract P σ) b) → Complete σ' rest → Complete σ (b ∷ rest)
      cons now ih = record {
        runs = both now.0 ih.runs;
        length-same = ap suc ih.length-same;
        last-same = ih.last-same ∙ ap (λ (α : State). Abstract.last α rest) now.1;
        last_known = ih.last_known;
      }

-- ---- reached, never, fewest

-- File systems that have every path.
abbrev pub everything : Real.Files
everything i f = Unit

there_everything : (fs : List ℕ → Type 0) → ((f : List ℕ) → fs f) → (a : Real.Act) → Real.There fs a
there_everything fs all (Real.set_special s) = tt
there_everything fs all (Real.set_uid u) = tt
there_everything fs all (Real.set_gid g) = tt
there_everything fs all (Real.exec f u g) = all f

pub on_everything : (acts : List Real.Act) → Real.On everything acts
on_everything [] = tt
on_everything (a ∷ rest) = (there_everything (everything 0) (λ f. tt) a, on_everything rest)

module _ (P : Policy) (good : Good P) (q : Question) (σ : Real.State) (known : Known P σ.special) where
  -- What is reached on some file systems is found.
  pub reached→found : (fs : Real.Files) (n : ℕ) → Reached P q σ fs n → Found P q (abstract P σ) n
  reached→found fs n r = (abstract_acts P σ r.acts, S.length-same ∙ r.steps, record { runs = S.runs; granted = granted })
    where
      S : Sound P good σ r.acts
      S = sound P good σ known r.acts r.runs

      granted : So (Abstract.access P q.kind q.target (Abstract.last (abstract P σ) (abstract_acts P σ r.acts)))
      granted =
          ap (Abstract.access P q.kind q.target) S.last-same
          ∙ access-same P good (Real.last σ r.acts) S.last_known q.kind q.target
          ∙ r.granted

  -- The real steps that show a run to the access are real, on all file systems that have the executed files, and have the access at their end.
  pub shown-runs : (fs : Real.Files) (acts : List Abstract.Act) → Granted P q (abstract P σ) acts → Real.On fs (real_acts P σ acts) → Reached P q σ fs (length acts)
  shown-runs fs acts f there = record {
    acts = real_acts P σ acts;
    steps = C.length-same;
    runs = C.runs;
    there = there;
    granted =
        sym (access-same P good (Real.last σ (real_acts P σ acts)) C.last_known q.kind q.target)
        ∙ ap (Abstract.access P q.kind q.target) C.last-same
        ∙ f.granted;
  }
    where
      C : Complete P good σ acts
      C = complete P good σ known acts f.runs

  found→reachable : (n : ℕ) → Found P q (abstract P σ) n → Reachable P q σ n
  found→reachable n (acts, e, f) = (everything, rw (← e) (shown-runs everything acts f (on_everything (real_acts P σ acts))))

  -- T3: found in n steps exactly when reached in n steps on some file systems; never, and fewest, agree.
  pub found_reachable : (n : ℕ) → Found P q (abstract P σ) n ↔ Reachable P q σ n
  found_reachable n = (found→reachable n, λ r. reached→found r.0 n r.1)

  pub never-reached : Never (Found P q (abstract P σ)) ↔ ((fs : Real.Files) → Never (Reached P q σ fs))
  never-reached = (λ no-f fs n r. no-f n (reached→found fs n r), λ no-r n f. let r = found→reachable n f in no-r r.0 n r.1)

  pub fewest-same : (n : ℕ) → Fewest (Found P q (abstract P σ)) n ↔ Fewest (Reachable P q σ) n
  fewest-same n = (
    λ f. (found→reachable n f.0, λ m l r. f.1 m l (reached→found r.0 m r.1)),
    λ r. (reached→found r.0.0 n r.0.1, λ m l f. r.1 m l (found→reachable m f)),
  )
