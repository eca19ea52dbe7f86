-- `shown::step_shown` meets its contract: the two states are read, the entry in force is found, and the mark says which record it is.
use mathlib.Core.Path.{◌≡◌, sym, ap, ◌∙◌}
use mathlib.Core.Bool.{So, false≢true}
use mathlib.Core.List.{List}
use Prim.Native.Nat.{ℕ, ◌%◌}
use native.Mathlib.Omega.{arith}
use Rattle.gran.specs.Policy.{Policy, USER, GROUP}
use Rattle.gran.specs.Match.{path_at, objects_of}
use Rattle.gran.specs.Abstract.{Act, role, entry, may, next}
use Rattle.gran.specs.Reach.{Question}
use Rattle.gran.specs.declared.State.{State}
use Rattle.store.specs.Held.{Loaded}
use Rattle.lookup.specs.Lookup.{entry_at, InForce}
use Rattle.numbered.specs.Number.{Inside, state_number}
use Rattle.numbered.specs.Candidates.{label_of}
use Rattle.numbered.proofs.Members.{choice_known, sized}
use Rattle.numbered.proofs.Numbers.{next_inside}
use Rattle.shown.specs.Shown.{Going, seen_of}
use Rattle.shown.specs.declared.Seen.{Seen}
use Rattle.shown.proofs.Four.{first_of, second_of, third_of, fourth_of}
use Rattle.shown.proofs.Acts.{label_inside}
use Rattle.shown.proofs.Going.{user_is, group_is, marked_is}
use Rattle.shown.proofs.step_shown.Goals as goal
use Rattle.shown.proofs.step_shown.Goals.{After-entry_at-entry}

-- What is known once the two states and the entry in force are read.
record Read (c : After-entry_at-entry) (P : Policy) (α : State) (a : Act) : Type 0 where
  stays : Inside P (next α a)
  before : c.seen_at-before.result ≡ seen_of P α
  after : c.seen_at-after.result ≡ seen_of P (next α a)
  force : InForce P (role P α) (path_at P.paths α.subject) c.entry_at-entry.result
  objects : objects_of (entry P α) ≡ objects_of (entry_at P c.entry_at-entry.result)

read : (c : After-entry_at-entry) (P : Policy) (rest : List ℕ) (q : Question) (begin : List ℕ) (α : State) (a : Act)
    → let args = c.args in
    Loaded P rest args.store.now → Going P q args.t.now args.z begin args.p α → So (may P α a)
    → args.from ≡ state_number P α → args.to ≡ state_number P (next α a) → Read c P α a
unfolding entry
read c P rest q begin α a loaded going m from to = record {
  stays = stays;
  before = before;
  after = c.seen_at-after.ensures P q (next α a) loaded.good going.tabled stays going.sizes to;
  force = force;
  objects = ap objects_of (sym force.is);
}
  where
    stays : Inside P (next α a)
    stays = next_inside P loaded.good α going.inside a m

    before : c.seen_at-before.result ≡ seen_of P α
    before = c.seen_at-before.ensures P q α loaded.good going.tabled going.inside going.sizes from

    force : InForce P (role P α) (path_at P.paths α.subject) c.entry_at-entry.result
    force = c.entry_at-entry.ensures P q α loaded.good going.tabled going.inside before

pub returns-then-not-is_sized : goal.returns-then-not-is_sized
returns-then-not-is_sized c P rest q begin α a loaded going m from to label =
    absurd (false≢true (sym c.if-not-is_sized.true ∙ c.is_sized.ensures.1 (rw going.sizes (sized P loaded.good))))

pub returns-in-96 : goal.returns-in-96
returns-in-96 c P rest q begin α a loaded going m from to label =
    let r = read (goal.at.returns-in-96 c).After-entry_at-entry P rest q begin α a loaded going m from to in
    rw (c.special-in-96.ensures, r.after) (sym (marked_is loaded.good going a m _ r.force ∙ first_of 96 _ _ _ _ _ (sym label ∙ c.in-96.is)))

pub returns-in-97 : goal.returns-in-97
returns-in-97 c P rest q begin α a loaded going m from to label =
    let r = read (goal.at.returns-in-97 c).After-entry_at-entry P rest q begin α a loaded going m from to in
    rw (c.user.ensures, c.id_for.ensures P rest loaded r.force.inside (rw r.after (choice_known P USER (next α a).user r.stays.user)), r.after)
    (sym (marked_is loaded.good going a m _ r.force ∙ second_of 96 _ _ _ _ _ (λ e. omega arith) (sym label ∙ c.in-97.is)))

pub returns-in-98 : goal.returns-in-98
returns-in-98 c P rest q begin α a loaded going m from to label =
    let r = read (goal.at.returns-in-98 c).After-entry_at-entry P rest q begin α a loaded going m from to in
    rw (c.group.ensures, c.id_for-in-98.ensures P rest loaded r.force.inside (rw r.after (choice_known P GROUP (next α a).group r.stays.group)), r.after)
    (sym (marked_is loaded.good going a m _ r.force ∙ third_of 96 _ _ _ _ _ (λ e. omega arith) (λ e. omega arith) (sym label ∙ c.in-98.is)))

pub returns-in_default : goal.returns-in_default
returns-in_default c P rest q begin α a loaded going m from to label =
    let r = read (goal.at.returns-in_default c).After-entry_at-entry P rest q begin α a loaded going m from to in
    let not-special : label_of P α a ≡ 96 → ⊥ = λ e. omega arith in
    let not-user : label_of P α a ≡ 97 → ⊥ = λ e. omega arith in
    let not-group : label_of P α a ≡ 98 → ⊥ = λ e. omega arith in
    let inside = label_inside P loaded.good α a m not-special not-user not-group in
    let place : c.args.label % 256 ≡ label_of P α a = omega (arith, inside.0) in
    rw (c.to_be_bytes.ensures) at (c.exec_shown.ensures P rest q (next α a) loaded going.tabled r.stays r.force.inside
    (rw (c.to_be_bytes.ensures, place, ← r.objects) inside.1)
    (ap (λ (s : Seen). s.user) r.before ∙ sym (user_is loaded.good going))
    (ap (λ (s : Seen). s.group) r.before ∙ sym (group_is loaded.good going))
    r.after)
    ∙ rw place (sym (marked_is loaded.good going a m _ r.force ∙ fourth_of 96 _ _ _ _ _ not-special not-user not-group))
