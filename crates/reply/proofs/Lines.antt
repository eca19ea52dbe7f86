-- The lines of a run while they are written: the next one fits, one more is written, all are.
-- Assumes nothing.
use mathlib.Core.Path.{◌≡◌, sym, ap, ◌∙◌}
use mathlib.Core.Bool.{So}
use mathlib.Core.List.{List, ◌∷◌, ◌++◌}
use Prim.Native.Nat.{ℕ, suc, ◌+◌, ◌≤◌, ◌<◌}
use native.Mathlib.Numerals.{add-one}
use native.Mathlib.Omega.{arith}
use lib.ListN.{length, drop}
use Rattle.lines.specs.Line.{line_of, in_front}
use Rattle.gran.specs.Real
use Rattle.gran.specs.Real.{state_of}
use Rattle.gran.specs.Abstract.{abstract, may, next, real_act}
use Rattle.gran.specs.declared.Process.{Process}
use Rattle.fields.specs.Fields.{policy_in}
use Rattle.numbered.specs.Number.{state_number}
use Rattle.numbered.specs.declared.Sizes.{Sizes}
use Rattle.records.specs.Record.{record_of, records_of, step_bytes, step_lines, PutAs}
use Rattle.records.specs.declared.Step.{Step}
use Rattle.records.proofs.Bytes.{records_of-length}
use Rattle.records.proofs.Putting.{putting-fits, putting_goes_on, putting_ends}
use Rattle.shown.proofs.Going.{going_on}
use Rattle.reply.specs.declared.run.Writing.{Writing}
use Rattle.reply.specs.Run.{act_of, real_after, state_after, Writable, Wrote}
use Rattle.reply.proofs.Steps.{state_more, real_more, records-from}

module _ {s t area out : List ℕ} {n : ℕ} {z : Sizes} (g : Writable s t area out n z) where
  -- Step k, done by the process that is there; its place is that at i.
  module _ (k i : ℕ) (h : suc (k + i) ≡ n) {w : Writing} {room : List ℕ} (x : Wrote g k w room) where
    inside : k < length g.acts
    inside = omega (arith, g.traced.size)

    pub may_here : So (may (policy_in s) (abstract (policy_in s) (state_of (policy_in s) g.begin w.process)) (act_of g.acts k))
    may_here = rw x.going.stands (g.traced.marked k i h).may

    module _ (step : Step) (e : step ≡ record_of (policy_in s) (state_of (policy_in s) g.begin w.process) (act_of g.acts k)) where
      rest : drop k (records_of (policy_in s) g.real g.acts) ≡ step ∷ drop (suc k) (records_of (policy_in s) g.real g.acts)
      rest =
          let here : step ≡ record_of (policy_in s) (real_after (policy_in s) g.real g.acts k) (act_of g.acts k)
          = e ∙ ap (λ (σ : Real.State). record_of (policy_in s) σ (act_of g.acts k)) x.real in
          records-from (policy_in s) g.real g.acts k inside ∙ ap (◌∷ drop (suc k) (records_of (policy_in s) g.real g.acts)) (sym here)

      pub line-fits : w.at + length (line_of (step_bytes step)) ≤ length room
      line-fits = putting-fits g.front (records_of (policy_in s) g.real g.acts) g.before k step (drop (suc k) (records_of (policy_in s) g.real g.acts)) x.putting rest g.fits

      pub wrote_more : (at to : ℕ) (p : Process) (after : List ℕ)
          → PutAs (line_of (step_bytes step)) w.at room at after
          → to ≡ state_number (policy_in s) (next (state_after g.from g.acts k) (act_of g.acts k))
          → state_of (policy_in s) g.begin p ≡ Real.next (state_of (policy_in s) g.begin w.process) (real_act (policy_in s) (state_of (policy_in s) g.begin w.process) (act_of g.acts k))
          → Wrote g (k + 1) (record { at = at; from = to; process = p }) after
      wrote_more at to p after put number real =
          let α : state_after g.from g.acts (k + 1) ≡ next (state_after g.from g.acts k) (act_of g.acts k)
          = ap (state_after g.from g.acts) (add-one k) ∙ state_more g.from g.acts k inside in
          let σ : real_after (policy_in s) g.real g.acts (k + 1) ≡ Real.next (real_after (policy_in s) g.real g.acts k) (real_act (policy_in s) (real_after (policy_in s) g.real g.acts k) (act_of g.acts k))
          = ap (real_after (policy_in s) g.real g.acts) (add-one k) ∙ real_more (policy_in s) g.real g.acts k inside in
          record {
            from = number ∙ ap (state_number (policy_in s)) (sym α);
            real = real ∙ ap (λ (τ : Real.State). Real.next τ (real_act (policy_in s) τ (act_of g.acts k))) x.real ∙ sym σ;
            going = rw α (going_on g.ready.held.good x.going (act_of g.acts k) (g.traced.marked k i h).may p real);
            putting = putting_goes_on g.front (records_of (policy_in s) g.real g.acts) g.before k step (drop (suc k) (records_of (policy_in s) g.real g.acts)) x.putting rest put;
          }

  pub wrote_ends : {w : Writing} {room : List ℕ} → Wrote g n w room → room ≡ in_front (g.front ++ step_lines (records_of (policy_in s) g.real g.acts)) g.before
  wrote_ends x =
      let all : n ≡ length (records_of (policy_in s) g.real g.acts) = g.traced.size ∙ sym (records_of-length (policy_in s) g.real g.acts) in
      putting_ends g.front (records_of (policy_in s) g.real g.acts) g.before (rw all at x.putting)
