use mathlib.Core.Path.{◌∙◌, refl, sym}
use native.Mathlib.Omega.{arith}
use borrow.Author.Rules.{rules}
use lib.ListN.{drop}
use Rattle.std.proofs.Common.{◌≡◌, ◌+◌, Ok, Err}
use Rattle.std.proofs.lemmas.Result.{err_from_is_err_and}
use Rattle.load.proofs.AllLines.{some_left, none_left, tail_is, loading-begins, loading_past, can_read, step_span, loading_goes_on, loading_stops, ends_short, ends-whole}
use Rattle.load.proofs.read_lines.Goals as goal

pub loop-rest-init : goal.loop-rest-init
loop-rest-init c = record { loading = loading-begins c.args.text.now c.args.store.now _ c.requires.cleared _ c.empty-tally.ensures; kept = refl; marks = refl }

pub read_line-read-requires-clause-can_read : goal.read_line-read-requires-clause-can_read
read_line-read-requires-clause-can_read c =
    let l = c.loop-rest in
    can_read c.args.text.now (drop 16384 c.args.store.now) l.store l.marks l.tally l.last l.line l.rest.now l.invariant.loading c.requires.text_len_bound.0

pub returns-in_err-step : goal.returns-in_err-step
returns-in_err-step c =
    let l = c.loop-rest in
    let stop = c.in_err-step.field-0.0 in
    let e : c.read_line-read.result ≡ Err stop.refusal = grind arith in
    let line_is : stop.line ≡ l.line + 1 = grind arith in
    let some = some_left l.rest.now c.loop-rest-test.ensures in
    let r = rw e at c.read_line-read.ensures in
    let p = err_from_is_err_and c.from_residual.result c.from_residual.ensures.1 in
    rw (p.1, p.2) (record {
      kept = r.kept ∙ l.invariant.kept;
      past = rw r.same (loading_past c.args.text.now (drop 16384 c.args.store.now) l.store l.marks l.tally l.last l.line l.rest.now l.invariant.loading);
      whole = tt;
      stopped = rw line_is (loading_stops c.args.text.now (drop 16384 c.args.store.now) l.store l.marks l.tally l.last l.line l.rest.now l.invariant.loading some _ _ stop.refusal r);
    })

pub slice_bounds-rest-count : goal.slice_bounds-rest-count
slice_bounds-rest-count c =
    let l = c.loop-rest in
    let e : c.read_line-read.result ≡ Ok c.in_ok-step.step = grind arith in
    let some = some_left l.rest.now c.loop-rest-test.ensures in
    let r = rw e at c.read_line-read.ensures in
    (step_span c.args.text.now (drop 16384 c.args.store.now) l.store l.marks l.tally l.last l.line l.rest.now l.invariant.loading some _ _ _ r).1

pub slice_bounds-rest-start : goal.slice_bounds-rest-start
slice_bounds-rest-start c = let inside = slice_bounds-rest-count c in search rules

pub loop-rest-smaller : goal.loop-rest-smaller
loop-rest-smaller c =
    let l = c.loop-rest in
    let e : c.read_line-read.result ≡ Ok c.in_ok-step.step = grind arith in
    let some = some_left l.rest.now c.loop-rest-test.ensures in
    let r = rw e at c.read_line-read.ensures in
    omega (arith, step_span c.args.text.now (drop 16384 c.args.store.now) l.store l.marks l.tally l.last l.line l.rest.now l.invariant.loading some _ _ _ r)

pub loop-rest-preserved : goal.loop-rest-preserved
loop-rest-preserved c =
    let l = c.loop-rest in
    let e : c.read_line-read.result ≡ Ok c.in_ok-step.step = grind arith in
    let some = some_left l.rest.now c.loop-rest-test.ensures in
    let r = rw e at c.read_line-read.ensures in
    record {
      loading = rw (tail_is l.rest.now c.in_ok-step.step.size) (loading_goes_on c.args.text.now (drop 16384 c.args.store.now) l.store l.marks l.tally l.last l.line l.rest.now l.invariant.loading some _ _ _ r);
      kept = r.kept ∙ l.invariant.kept;
      marks = search rules;
    }

pub returns-then-last-code : goal.returns-then-last-code
returns-then-last-code c =
    let l = c.loop-rest in
    let end = none_left l.rest.now c.loop-rest-test.ensures in
    rw c.into.ensures (record {
      kept = l.invariant.kept;
      past = loading_past c.args.text.now (drop 16384 c.args.store.now) l.store l.marks l.tally l.last l.line l.rest.now l.invariant.loading;
      whole = tt;
      stopped = ends_short c.args.text.now (drop 16384 c.args.store.now) l.store l.marks l.tally l.last l.line l.rest.now l.invariant.loading end (λ e. c.if-last-code.true (e ∙ sym c.code.ensures));
    })

pub returns : goal.returns
returns c =
    let l = c.loop-rest in
    let end = none_left l.rest.now c.loop-rest-test.ensures in
    record {
      kept = l.invariant.kept;
      past = loading_past c.args.text.now (drop 16384 c.args.store.now) l.store l.marks l.tally l.last l.line l.rest.now l.invariant.loading;
      whole = ends-whole c.args.text.now (drop 16384 c.args.store.now) l.store l.marks l.tally l.last l.line l.rest.now l.invariant.loading end (c.if-last-code.false ∙ c.code.ensures);
      stopped = tt;
    }
