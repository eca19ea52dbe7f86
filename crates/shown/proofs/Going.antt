-- A process that stands for a state: the same entry is in force, and a step leads to a process that stands for the next state.
-- Assumes nothing.
use mathlib.Core.Path.{◌≡◌, sym, ap, ◌∙◌}
use mathlib.Core.Bool.{So}
use mathlib.Core.List.{List}
use Prim.Native.Nat.{ℕ}
use Rattle.gran.specs.Policy.{Policy, USER, GROUP, SPECIAL}
use Rattle.gran.specs.Match.{path_at}
use Rattle.gran.specs.Role.{role_of}
use Rattle.gran.specs.Good.{Good}
use Rattle.gran.specs.Real
use Rattle.gran.specs.Real.{state_of}
use Rattle.gran.specs.Abstract.{Act, abstract, role, entry, may, next, real_act}
use Rattle.gran.specs.Reach.{Question}
use Rattle.gran.specs.declared.State.{State}
use Rattle.gran.specs.declared.Process.{Process}
use Rattle.gran.proofs.Policies.{Known}
use Rattle.gran.proofs.Step.{entry-same, step_complete}
use Rattle.lookup.specs.Lookup.{entry_at, InForce}
use Rattle.records.specs.Record.{record_of}
use Rattle.numbered.specs.Candidates.{label_of}
use Rattle.numbered.specs.declared.Sizes.{Sizes}
use Rattle.numbered.proofs.Members.{choice_known}
use Rattle.numbered.proofs.Numbers.{next_inside}
use Rattle.shown.specs.Shown.{Going}
use Rattle.shown.proofs.Acts.{marked, record_is}

module _ {P : Policy} {q : Question} {t : List ℕ} {z : Sizes} {begin : List ℕ} {p : Process} {α : State} (good : Good P) (going : Going P q t z begin p α) where
  pub user_is : role_of P USER p.uid ≡ α.user
  unfolding abstract state_of
  user_is = ap (λ (s : State). s.user) going.stands

  pub group_is : role_of P GROUP p.gid ≡ α.group
  unfolding abstract state_of
  group_is = ap (λ (s : State). s.group) going.stands

  known : Known P (state_of P begin p).special
  unfolding abstract state_of
  known = let same : p.special ≡ α.special = ap (λ (s : State). s.special) going.stands in rw same (choice_known P SPECIAL α.special going.inside.special)

  pub entry_is : Real.entry P (state_of P begin p) ≡ entry P α
  entry_is = sym (entry-same P good (state_of P begin p) known) ∙ ap (entry P) going.stands

  module _ (a : Act) (m : So (may P α a)) where
    -- What the process stands for may do the same.
    pub may_here : So (may P (abstract P (state_of P begin p)) a)
    may_here = rw going.stands m

    -- The record of a step by its mark, where e is the number of the entry in force.
    pub marked_is : (e : ℕ) → InForce P (role P α) (path_at P.paths α.subject) e → record_of P (state_of P begin p) a ≡ marked P (entry_at P e) p (label_of P α a) (next α a)
    unfolding entry
    marked_is e force = record_is P good α begin p (entry_at P e) (entry_is ∙ sym force.is) (sym force.is) a m

    -- The process after the step stands for the next state.
    pub going_on : (r : Process) → state_of P begin r ≡ Real.next (state_of P begin p) (real_act P (state_of P begin p) a) → Going P q t z begin r (next α a)
    going_on r e = record {
      sizes = going.sizes;
      tabled = going.tabled;
      inside = next_inside P good α going.inside a m;
      stands = ap (abstract P) e ∙ (step_complete P good (state_of P begin p) known a may_here).1 ∙ ap (λ (s : State). next s a) going.stands;
    }
