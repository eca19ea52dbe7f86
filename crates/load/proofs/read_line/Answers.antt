-- `load::read_line` meets its contract: a bad line, a refused frame, an added one.
use mathlib.Core.Path.{refl}
use native.Mathlib.Omega.{arith}
use Rattle.std.proofs.lemmas.Result.{err_from_is_err_and}
use Rattle.lines.specs.Line.{zeros, frame_of}
use Rattle.load.proofs.OneLine.{refused-7, frame_sized, refused-by, can-add, line_added}
use Rattle.load.proofs.read_line.Goals as goal

pub decode_first-count-requires : goal.decode_first-count-requires
unfolding zeros
decode_first-count-requires c = (c.requires.digits.0, refl)

pub returns-then-count-eq0 : goal.returns-then-count-eq0
unfolding frame_of
returns-then-count-eq0 c =
    let args = c.args in
    refused-7 args.tally args.last args.before args.text.now args.store.now args.marks.now (rw (c.decode_first-count.ensures.none c.if-count-eq0.true))

pub refusal-requires : goal.refusal-requires
refusal-requires c =
    let sized = frame_sized c.args.text.now _ (c.decode_first-count.ensures.whole c.if-count-eq0.false) c.if-count-eq0.false in
    (sized.0, sized.1, omega arith, c.requires.digits.2)

pub returns-in_err-refusal : goal.returns-in_err-refusal
returns-in_err-refusal c =
    let args = c.args in
    let p = err_from_is_err_and c.from_residual.result c.from_residual.ensures.1 in
    rw (p.1, p.2) (refused-by args.text.now _ (c.decode_first-count.ensures.whole c.if-count-eq0.false) c.if-count-eq0.false args.tally args.last args.before args.store.now args.marks.now _ c.in_err-refusal.ensures _ refl)

pub add-tally-requires-clause-ready : goal.add-tally-requires-clause-ready
add-tally-requires-clause-ready c =
    let args = c.args in
    can-add args.text.now _ (c.decode_first-count.ensures.whole c.if-count-eq0.false) c.if-count-eq0.false args.tally args.last args.before args.store.now args.marks.now 0 c.in_ok-refusal.ensures refl c.requires.can_read

pub note-requires : goal.note-requires
note-requires c =
    let sized = frame_sized c.args.text.now _ (c.decode_first-count.ensures.whole c.if-count-eq0.false) c.if-count-eq0.false in
    (sized.0, sized.1, omega arith, c.requires.digits.2)

pub overflow_mul-result : goal.overflow_mul-result
overflow_mul-result c = omega (arith, frame_sized c.args.text.now _ (c.decode_first-count.ensures.whole c.if-count-eq0.false) c.if-count-eq0.false)

pub overflow_add-result : goal.overflow_add-result
overflow_add-result c = omega (arith, frame_sized c.args.text.now _ (c.decode_first-count.ensures.whole c.if-count-eq0.false) c.if-count-eq0.false)

pub returns : goal.returns
returns c =
    let args = c.args in
    line_added args.text.now _ (c.decode_first-count.ensures.whole c.if-count-eq0.false) c.if-count-eq0.false args.tally args.last args.before args.store.now args.marks.now 0 c.in_ok-refusal.ensures refl c.requires.can_read _ refl c.byte.ensures _ _ c.add-tally.ensures c.note.ensures
