-- The ask's own steps hold: the records of an abstract run to the access are real steps to it.
-- Assumes nothing.
use mathlib.Core.Path.{◌≡◌, refl, sym, ap, ◌∙◌, subst}
use mathlib.Core.Logic.{inl}
use mathlib.Core.Bool.{So, false≢true}
use mathlib.Core.List.{List, [], ◌∷◌}
use Prim.Native.Nat.{ℕ, ◌+◌, ◌≤◌, ◌<◌}
use native.Mathlib.Decide.{dec_lt}
use native.Mathlib.Omega.{arith}
use lib.ListN.{length, get_or-eq_default}
use borrow.Author.Tests.{lt-ltb}
use Rattle.paths.specs.Path.{is_path}
use Rattle.paths.proofs.Bools.{both, left, right, parts₅, eqb_of}
use Rattle.gran.specs.Policy.{Policy, EXEC}
use Rattle.gran.specs.Match.{path_at, objects_of, modes_of}
use Rattle.gran.specs.Access.{sees}
use Rattle.gran.specs.Good.{Good}
use Rattle.gran.specs.Real
use Rattle.gran.specs.Real.{state_of, started}
use Rattle.gran.specs.Abstract
use Rattle.gran.specs.Abstract.{abstract, real_act, image, executed}
use Rattle.gran.specs.Lists.{member}
use Rattle.gran.specs.Reach.{Question, Granted}
use Rattle.gran.specs.declared.Process.{Process}
use Rattle.gran.proofs.Policies.{Known, image_complete}
use Rattle.gran.proofs.Step.{entry-same, entry_good, access-same, step_complete, next_known}
use Rattle.gran.proofs.Processes.{started_is}
use Rattle.records.specs.Record.{record_of, records_of}
use Rattle.records.specs.declared.Step.{Step}
use Rattle.replay.specs.declared.Verdict.TheVariants.{Holds}
use Rattle.replay.specs.Replay.{plainly, names, act_of, is_step, after, follow, replay_of}
use Rattle.replay.proofs.Rows.{after_is}

-- A number whose path is one names a path of the policy.
named : (P : Policy) (n : ℕ) → So (is_path (path_at P.paths n)) → n < length P.paths
unfolding is_path
named P n t = go (dec_lt n (length P.paths))
  where
    go : Dec (n < length P.paths) → n < length P.paths
    go (yes h) = h
    go (no h) = let past : length P.paths ≤ n = omega arith in absurd (false≢true (rw (get_or-eq_default P.paths [] past) at t))

module _ (P : Policy) (good : Good P) (σ : Real.State) (known : Known P σ.special) where
  -- The record says the act that shows the step.
  record_act : (b : Abstract.Act) → act_of P (record_of P σ b) ≡ real_act P σ b
  unfolding act_of record_of real_act
  record_act (Abstract.set_special s) = refl
  record_act (Abstract.set_user r) = refl
  record_act (Abstract.set_group r) = refl
  record_act (Abstract.exec o u g s) = refl

  record-plain : (b : Abstract.Act) → So (plainly (record_of P σ b))
  unfolding plainly record_of
  record-plain (Abstract.set_special s) = refl
  record-plain (Abstract.set_user r) = refl
  record-plain (Abstract.set_group r) = refl
  record-plain (Abstract.exec o u g s) = refl

  record-names : (b : Abstract.Act) → So (Abstract.may P (abstract P σ) b) → So (names P σ (record_of P σ b))
  unfolding names record_of Abstract.may Abstract.may_exec
  record-names (Abstract.set_special s) t = refl
  record-names (Abstract.set_user r) t = refl
  record-names (Abstract.set_group r) t = refl
  record-names (Abstract.exec o u g s) t =
      let e = Real.entry P σ in
      let p = parts₅ (member o (objects_of e)) (sees (modes_of e o) EXEC) _ _ (image P e o s) (rw (entry-same P good σ known) at t) in
      let there = image_complete P good e (entry_good P good σ known) o s p.0 p.4 in
      both (lt-ltb _ _ (named P (executed P e o s) there.path)) (eqb_of (sym there.object))

  record-step : (b : Abstract.Act) → So (Abstract.may P (abstract P σ) b) → So (is_step P σ (record_of P σ b))
  unfolding is_step
  record-step b t = both (both (record-plain b) (record-names b t)) (rw (record_act b) (step_complete P good σ known b t).0)

module _ (P : Policy) (good : Good P) (q : Question) (begin : List ℕ) where
  abbrev Held : Process → ℕ → List Step → Type 0
  Held p at rows = (file : ℕ) × (follow P q begin p at rows ≡ Holds file)

  follows : (p : Process) (at : ℕ) → Known P p.special → (acts : List Abstract.Act) → Granted P q (abstract P (state_of P begin p)) acts → Held p at (records_of P (state_of P begin p) acts)
  unfolding follow state_of
  follows p at known [] g = (p.file, rw (sym (access-same P good (state_of P begin p) known q.kind q.target) ∙ g.granted))
  follows p at known (b ∷ rest) g =
      cons (follows (after p (record_of P σ b)) (at + 1) known' rest (record { runs = rw leads (right (Abstract.may P (abstract P σ) b) _ g.runs); granted = rw leads g.granted }))
    where
      σ : Real.State
      σ = state_of P begin p

      now : So (Abstract.may P (abstract P σ) b)
      now = left (Abstract.may P (abstract P σ) b) _ g.runs

      steps : So (is_step P σ (record_of P σ b))
      steps = record-step P good σ known b now

      -- the state after the record is the one after the act that shows the step
      comes : state_of P begin (after p (record_of P σ b)) ≡ Real.next σ (real_act P σ b)
      comes = after_is P good begin p (record_of P σ b) steps ∙ ap (Real.next σ) (record_act P good σ known b)

      leads : abstract P (state_of P begin (after p (record_of P σ b))) ≡ Abstract.next (abstract P σ) b
      leads = ap (abstract P) comes ∙ (step_complete P good σ known b now).1

      known' : Known P (after p (record_of P σ b)).special
      known' = subst (λ (τ : Real.State). Known P τ.special) (sym comes) (next_known P good σ known (real_act P σ b) (step_complete P good σ known b now).0)

      cons : Held (after p (record_of P σ b)) (at + 1) (records_of P (state_of P begin (after p (record_of P σ b))) rest) → Held p at (records_of P σ (b ∷ rest))
      cons h = (h.0, rw (steps, ← comes) h.1)

  -- A run that an ask shows, as its records, holds from the start.
  pub own-steps_hold : (uid gid : ℕ) (acts : List Abstract.Act) → Granted P q (abstract P (Real.start uid gid begin)) acts
      → (file : ℕ) × (replay_of P q uid gid begin (records_of P (Real.start uid gid begin) acts) ≡ Holds file)
  own-steps_hold uid gid acts g =
      subst (λ (σ : Real.State). Granted P q (abstract P σ) acts → Held (started uid gid) 0 (records_of P σ acts)) (started_is P begin uid gid)
      (follows (started uid gid) 0 (inl refl) acts) g
