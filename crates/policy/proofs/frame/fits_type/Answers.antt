use mathlib.Core.Path.{◌∙◌, sym}
use native.Mathlib.Omega.{arith}
use Rattle.policy.specs.Frames.{frame_type, frame_table}
use Rattle.policy.proofs.Table.{other_type, this_type, no_type}
use Rattle.policy.proofs.frame.fits_type.Goals as goal

pub returns-then-from-size : goal.returns-then-from-size
returns-then-from-size c =
    grind (arith, c.loop-form.invariant, this_type frame_table (frame_type 0 0 0) c.loop-form.form-index _ c.args.size (omega arith) c.if-form-kind.true)

pub returns-else-from-size : goal.returns-else-from-size
returns-else-from-size c =
    grind (arith, c.loop-form.invariant, this_type frame_table (frame_type 0 0 0) c.loop-form.form-index _ c.args.size (omega arith) c.if-form-kind.true)

pub loop-form-preserved : goal.loop-form-preserved
loop-form-preserved c =
    c.loop-form.invariant ∙ other_type frame_table (frame_type 0 0 0) c.loop-form.form-index _ c.args.size (omega arith) c.if-form-kind.false

pub returns : goal.returns
returns c =
    sym (c.loop-form.invariant ∙ no_type frame_table (frame_type 0 0 0) c.loop-form.form-index _ _ c.loop-form-test.false)
