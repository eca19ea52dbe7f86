-- A frame that fits.
-- Assumes nothing.
use mathlib.Core.Path.{◌≡◌}
use mathlib.Core.Bool.{true}
use mathlib.Core.List.{List}
use Prim.Native.Nat.{ℕ, ◌+◌, ◌≤◌}
use native.Mathlib.Omega.{arith}
use borrow.Author.Tests.{leb-true}
use lib.Dec.{eqb, leb}
use lib.ListN.{take}
use Rattle.paths.proofs.Bools.{left, right}
use Rattle.lines.specs.declared.Frame.{Frame}
use Rattle.lines.specs.Line.{line_length}
use Rattle.lines.proofs.Decoding.{size_good}
use Rattle.policy.specs.Frames.{type_of}
use Rattle.question.specs.Question.{first, fits}
use Rattle.question.specs.Steps.{HasPath}

-- a frame of the right length has its path inside
pub fits_path : (type shortest longest : ℕ) (text : List ℕ) (f : Frame) → f ≡ first text → fits type shortest longest f ≡ true → HasPath f
unfolding fits
fits_path type shortest longest text f e t =
    let long : shortest + 1 ≤ f.size = leb-true _ _ (left _ (leb f.size (longest + 1)) (right (eqb (type_of f) type) _ t)) in
    let g = size_good (take (line_length text) text) f e (λ z. omega arith) in
    record { some = omega arith; most = omega (arith, g.size, g.sized.most); whole = g.long }
