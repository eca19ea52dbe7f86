use mathlib.Core.Path.{◌≡◌, ◌∙◌}
use Prim.Native.Nat.{suc, ◌+◌, ◌-◌, ◌<◌}
use native.Mathlib.Omega.{arith}
use lib.ListN.{length, get_or}
use Rattle.std.proofs.lemmas.List.{length_push, length-reverse}
use Rattle.std.proofs.lemmas.Iterator.Adapters.{YieldsList-from_rev_slice}
use Rattle.std.proofs.lemmas.Iterator.Consumers.{YieldsList-turn, YieldsList-end}
use Rattle.gran.specs.Real.{state_of}
use Rattle.fields.specs.Fields.{policy_in}
use Rattle.records.specs.Record.{record_of}
use Rattle.reply.specs.Run.{act_of, state_after, Marked, WritableIn, Wrote}
use Rattle.reply.proofs.Places.{turned}
use Rattle.reply.proofs.Lines.{may_here, line-fits, wrote_more, wrote_ends}
use Rattle.reply.proofs.run.Searched.write_run.Goals as goal
use Rattle.reply.proofs.run.Searched.write_run.Goals.{In-Some, After-step_shown-step}

-- The place of the step: as many steps were passed as places from the last on.
turn : (c : In-Some)
    → (length c.loop-place.yielded < length c.args.places.now) × (c.in-Some.place.now ≡ get_or c.args.places.now (length c.args.places.now - 1 - length c.loop-place.yielded) 0)
turn c =
    turned c.args.places.now (length c.loop-place.yielded) c.in-Some.place.now
    (YieldsList-turn (YieldsList-from_rev_slice c.args.places.now cc) c.loop-place.yielded _ c.loop-place.yielded_by _ _ c.in-Some.place c.in-Some.is c.next.ensures.steps)

here : (c : In-Some) (g : WritableIn c.args.self c.args.places.now)
    → Marked (policy_in c.args.self.store.now) c.args.self.area.now (state_after g.from g.acts (length c.loop-place.yielded)) (act_of g.acts (length c.loop-place.yielded)) c.in-Some.place.now
here c g =
    let k = length c.loop-place.yielded in
    let t = turn c in
    rw t.1 (g.traced.marked k (length c.args.places.now - 1 - k) (omega (arith, t.0)))

pub taken-taken-requires-clause-place_in : goal.taken-taken-requires-clause-place_in
taken-taken-requires-clause-place_in c = (here (goal.at.taken-taken-requires-clause-place_in c).In-Some c.requires.0).within

pub taken-taken-requires-clause-label_in : goal.taken-taken-requires-clause-label_in
taken-taken-requires-clause-label_in c = (here (goal.at.taken-taken-requires-clause-label_in c).In-Some c.requires.0).room

-- As many steps lie behind it as places are left.
left : (c : In-Some) → suc (length c.loop-place.yielded + (length c.args.places.now - 1 - length c.loop-place.yielded)) ≡ length c.args.places.now
left c = omega (arith, (turn c).0)

-- Its record.
shown : (c : After-step_shown-step) (g : WritableIn c.args.self c.args.places.now)
    → Marked (policy_in c.args.self.store.now) c.args.self.area.now (state_after g.from g.acts (length c.loop-place.yielded)) (act_of g.acts (length c.loop-place.yielded)) c.in-Some.place.now
    → Wrote g (length c.loop-place.yielded) c.loop-place.writing c.loop-place.room
    → c.step_shown-step.result ≡ record_of (policy_in c.args.self.store.now) (state_of (policy_in c.args.self.store.now) g.begin c.loop-place.writing.process) (act_of g.acts (length c.loop-place.yielded))
shown c g m x =
    let k = length c.loop-place.yielded in
    c.step_shown-step.ensures (policy_in c.args.self.store.now) _ g.question g.begin (state_after g.from g.acts k) (act_of g.acts k) g.ready.held x.going m.may x.from (c.taken-taken.ensures.to ∙ m.state) (c.taken-taken.ensures.label ∙ m.label)

pub put_step-requires : goal.put_step-requires
put_step-requires c =
    let g = c.requires.0 in
    let at = goal.at.put_step-requires c in
    let x = c.loop-place.invariant g c.requires.1 in
    line-fits g (length c.loop-place.yielded) _ (left at.In-Some) x c.step_shown-step.result (shown at.After-step_shown-step g (here at.In-Some g) x)

pub loop-place-preserved : goal.loop-place-preserved
loop-place-preserved c g first =
    let k = length c.loop-place.yielded in
    let at = goal.at.loop-place-preserved c in
    let x = c.loop-place.invariant g first in
    let m = here at.In-Some g in
    let e = shown at.After-step_shown-step g m x in
    rw length_push
    (wrote_more g k _ (left at.In-Some) x c.step_shown-step.result e _ _ _ _ c.put_step.ensures (c.taken-taken.ensures.to ∙ m.state)
    (c.process_after.ensures (policy_in c.args.self.store.now) g.begin (act_of g.acts k) g.ready.held.good (may_here g k _ (left at.In-Some) x) e))

pub returns : goal.returns
returns c g first =
    let end = YieldsList-end (YieldsList-from_rev_slice c.args.places.now cc) c.loop-place.yielded _ c.loop-place.yielded_by _ _ c.in-None.is c.next.ensures.steps in
    let all : length c.loop-place.yielded ≡ length c.args.places.now = omega (arith, end.1, length-reverse c.args.places.now) in
    wrote_ends g (rw all at (c.loop-place.invariant g first))
