-- `ask` meets its contract: the load and the answer, each from the call that gave it.
use mathlib.Core.Path.{sym, ap, ◌∙◌}
use Prim.Native.Nat.{◌≤◌}
use native.Mathlib.Omega.{arith}
use lib.ListN.{length}
use lib.Seq.{length-take-le}
use Rattle.std.specs.Prelude.{refl}
use Rattle.std.proofs.lemmas.Result.{err_from_is_err_and}
use Rattle.lines.specs.Line.{zeros}
use Rattle.lines.proofs.Rooms.{length-zeros}
use Rattle.reply.proofs.Loads.{held_few, blank_of}
use Rattle.policy.proofs.Numbers.{some_number}
use Rattle.ask.specs.Ask.{asked_of, Areas}
use Rattle.leveecrumb.proofs.Outcomes.{comes-refused, long_enough, holds_after, comes_answered}
use Rattle.leveecrumb.proofs.ask.Goals as goal
use Rattle.leveecrumb.proofs.ask.Goals.{In_ok-loaded}

abbrev lent_in : In_ok-loaded → Areas
lent_in e = record { store = e.args.store.now; work = e.args.work.now; room = e.args.room.now }

long : (e : In_ok-loaded) → 24576 ≤ length e.args.work.now
long e = long_enough 24576 (length e.args.work.now) e.args.text.now (asked_of e.args.asked) (lent_in e) _ _ _ e.in_ok-loaded.ensures refl

pub returns-in_err-loaded : goal.returns-in_err-loaded
returns-in_err-loaded c =
    let p = err_from_is_err_and c.from_residual.result c.from_residual.ensures.1 in
    rw (p.1, p.2)
    (comes-refused 24576 (length c.args.work.now) c.args.text.now (asked_of c.args.asked) (record { store = c.args.store.now; work = c.args.work.now; room = c.args.room.now }) _ _ _ c.in_err-loaded.ensures (some_number _))

pub slice_bounds-area-end : goal.slice_bounds-area-end
slice_bounds-area-end c = long (goal.at.slice_bounds-area-end c).In_ok-loaded

pub slice_bounds-area-end-2 : goal.slice_bounds-area-end-2
slice_bounds-area-end-2 c = sym (length-take-le 24576 c.args.work.now (long (goal.at.slice_bounds-area-end-2 c).In_ok-loaded))

pub respond-requires : goal.respond-requires
respond-requires c =
    let e = (goal.at.respond-requires c).In_ok-loaded in
    let held = holds_after 24576 (length c.args.work.now) c.args.text.now (asked_of c.args.asked) (lent_in e) _ _ _ c.in_ok-loaded.ensures refl in
    let zero = c.clear.ensures ∙ ap zeros (length-take-le 24576 c.args.work.now (long e)) in
    record { held = held; blank = blank_of _ 24576 zero (omega (arith, held_few held)) }

pub returns : goal.returns
returns c =
    let e = (goal.at.returns c).In_ok-loaded in
    let d = c.respond.ensures in
    let same = ap length c.clear.ensures ∙ length-zeros _ ∙ length-take-le 24576 c.args.work.now (long e) in
    comes_answered 24576 (length c.args.work.now) c.args.text.now (asked_of c.args.asked) (lent_in e) _ _ _ c.in_ok-loaded.ensures refl _ _ _ (d.cleared ∙ ap zeros same) d.answers
