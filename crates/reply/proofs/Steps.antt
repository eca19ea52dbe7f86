-- A run one step further: its states, its records, the length of its lines.
-- Assumes nothing.
use mathlib.Core.Path.{◌≡◌, refl, ap, ◌∙◌}
use mathlib.Core.List.{List, [], ◌∷◌}
use Prim.Native.Nat.{ℕ, zero, suc, ◌+◌, ◌*◌, ◌≤◌, ◌<◌}
use native.Mathlib.Omega.{arith}
use lib.ListN.{length, drop, length-append, length-drop}
use lib.Seq.{drop-length}
use Rattle.lines.specs.Line.{line_of}
use Rattle.gran.specs.Policy.{Policy}
use Rattle.gran.specs.Real
use Rattle.gran.specs.Abstract.{Act, next, real_act}
use Rattle.gran.specs.declared.State.{State}
use Rattle.records.specs.Record.{record_of, records_of, step_bytes, step_lines}
use Rattle.records.proofs.Bytes.{step_lines_most, records_of-length}
use Rattle.records.specs.declared.Step.{Step}
use Rattle.reply.specs.Run.{act_of, real_after, state_after}

pub state_more : (α : State) (acts : List Act) (k : ℕ) → k < length acts → state_after α acts (suc k) ≡ next (state_after α acts k) (act_of acts k)
unfolding state_after act_of
state_more α [] k h = absurd (omega arith)
state_more α (a ∷ acts) zero h = refl
state_more α (a ∷ acts) (suc k) h = state_more (next α a) acts k (omega arith)

module _ (P : Policy) where
  pub real_more : (σ : Real.State) (acts : List Act) (k : ℕ) → k < length acts → real_after P σ acts (suc k) ≡ Real.next (real_after P σ acts k) (real_act P (real_after P σ acts k) (act_of acts k))
  unfolding real_after act_of
  real_more σ [] k h = absurd (omega arith)
  real_more σ (a ∷ acts) zero h = refl
  real_more σ (a ∷ acts) (suc k) h = real_more (Real.next σ (real_act P σ a)) acts k (omega arith)

  -- The records from step k on.
  pub records-from : (σ : Real.State) (acts : List Act) (k : ℕ) → k < length acts → drop k (records_of P σ acts) ≡ record_of P (real_after P σ acts k) (act_of acts k) ∷ drop (suc k) (records_of P σ acts)
  unfolding real_after act_of
  records-from σ [] k h = absurd (omega arith)
  records-from σ (a ∷ acts) zero h = refl
  records-from σ (a ∷ acts) (suc k) h = records-from (Real.next σ (real_act P σ a)) acts k (omega arith)

  module _ (σ : Real.State) (acts : List Act) where
    -- The length of the lines from step k on.
    unfoldable pub length_from : ℕ → ℕ
    length_from k = length (step_lines (drop k (records_of P σ acts)))

    pub length_more : (k j : ℕ) → suc k ≡ j → k < length acts → length_from k ≡ length (line_of (step_bytes (record_of P (real_after P σ acts k) (act_of acts k)))) + length_from j
    unfolding length_from
    length_more k j e h =
        rw (← e)
        (ap (λ (rs : List Step). length (step_lines rs)) (records-from σ acts k h)
        ∙ length-append (line_of (step_bytes (record_of P (real_after P σ acts k) (act_of acts k)))) (step_lines (drop (suc k) (records_of P σ acts))))

    -- None of them is longer than 23 bytes.
    pub length_few : (k : ℕ) → length_from k ≤ 23 * length acts
    unfolding length_from
    length_few k = omega (arith, step_lines_most (drop k (records_of P σ acts)), length-drop k (records_of P σ acts), records_of-length P σ acts)

    pub length_none : (k : ℕ) → k ≡ length acts → 0 ≡ length_from k
    unfolding length_from
    length_none k e = rw (e, ← records_of-length P σ acts, drop-length)

    pub length_all : (k : ℕ) → k ≡ 0 → length_from k ≡ length (step_lines (records_of P σ acts))
    unfolding length_from
    length_all k e = rw e
