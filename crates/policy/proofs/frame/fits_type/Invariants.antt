-- `policy::frame::fits_type` meets its contract. The invariant: what is left of the table decides.
use mathlib.Core.Path.{◌≡◌}
use lib.ListN.{drop}
use Rattle.policy.specs.Frames.{frame_table, fits_table}
use Rattle.policy.proofs.frame.fits_type.Given as goal

abbrev pub invariant-loop-form : goal.invariant-loop-form
invariant-loop-form l = fits_table frame_table l.kind l.size ≡ fits_table (drop l.form-index frame_table) l.kind l.size
