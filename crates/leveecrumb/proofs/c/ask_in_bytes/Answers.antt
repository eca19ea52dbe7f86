-- `ask_in_bytes` meets its contract: the load and the answer, and the lent bytes cleared.
use mathlib.Core.Path.{sym, ap, ◌∙◌}
use Prim.Native.Nat.{◌/◌, ◌≤◌}
use native.Mathlib.Omega.{arith}
use lib.ListN.{length, length-take}
use lib.Seq.{length-take-le}
use Rattle.std.specs.Prelude.{refl}
use Rattle.std.proofs.lemmas.Result.{err_from_is_err_and}
use Rattle.lines.specs.Line.{zeros}
use Rattle.policy.proofs.Numbers.{some_number}
use Rattle.ask.specs.Ask.{asked_of, Areas}
use Rattle.leveecrumb.proofs.Outcomes.{comes-refused, long_enough, holds_after, comes_answered}
use Rattle.leveecrumb.proofs.c.ask_in_bytes.Goals as goal
use Rattle.leveecrumb.proofs.c.ask_in_bytes.Goals.{In_ok-loaded}

abbrev lent_in : In_ok-loaded → Areas
lent_in e = record { store = e.args.store.now; work = e.args.work.now; room = e.args.room.now }

long : (e : In_ok-loaded) → 49152 ≤ length e.args.work.now
long e =
    let h : 24576 ≤ length e.args.work.now / 2 = long_enough 49152 (length e.args.work.now / 2) e.args.text.now (asked_of e.args.asked) (lent_in e) _ _ _ e.in_ok-loaded.ensures refl in
    omega arith

pub returns-in_err-loaded : goal.returns-in_err-loaded
returns-in_err-loaded c =
    let p = err_from_is_err_and c.from_residual.result c.from_residual.ensures.1 in
    rw (p.1, p.2)
    (comes-refused 49152 (length c.args.work.now / 2) c.args.text.now (asked_of c.args.asked) (record { store = c.args.store.now; work = c.args.work.now; room = c.args.room.now }) _ _ _ c.in_err-loaded.ensures (some_number _))

pub answer-answer-requires : goal.answer-answer-requires
answer-answer-requires c =
    holds_after 49152 (length c.args.work.now / 2) c.args.text.now (asked_of c.args.asked) (lent_in (goal.at.answer-answer-requires c).In_ok-loaded) _ _ _ c.in_ok-loaded.ensures refl

pub slice_bounds-clear-end : goal.slice_bounds-clear-end
slice_bounds-clear-end c = omega (arith, long (goal.at.slice_bounds-clear-end c).In_ok-loaded)

pub slice_bounds-clear-end-2 : goal.slice_bounds-clear-end-2
slice_bounds-clear-end-2 c = rw length-take (omega (arith, long (goal.at.slice_bounds-clear-end-2 c).In_ok-loaded))

pub returns : goal.returns
returns c =
    let e = (goal.at.returns c).In_ok-loaded in
    let zero = c.clear.ensures ∙ ap zeros (length-take-le 49152 c.args.work.now (long e)) in
    comes_answered 49152 (length c.args.work.now / 2) c.args.text.now (asked_of c.args.asked) (lent_in e) _ _ _ c.in_ok-loaded.ensures refl _ _ _ zero c.answer-answer.ensures
