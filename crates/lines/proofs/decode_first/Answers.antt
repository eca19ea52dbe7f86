use Rattle.std.proofs.Common.{◌≡◌, ◌+◌, ◌*◌, ◌/◌, arith}
use Rattle.lines.proofs.Values.{some_byte, no_byte}
use Rattle.lines.proofs.Decoding.{decoding_goes_on, decoding_answers}
use Rattle.lines.proofs.decode_first.Goals as goal

pub returns-in_default : goal.returns-in_default
returns-in_default c = decoding_answers _ _ _ _ c.loop-i.invariant (λ h l. no_byte _ c.in_default.ensures) c.ends.ensures

pub loop-i-preserved : goal.loop-i-preserved
loop-i-preserved c =
    let next : 2 * (c.loop-i.i + 1) ≡ 2 * c.loop-i.i + 2 = omega arith in
    rw next (decoding_goes_on _ _ _ _ c.loop-i.invariant (omega arith) (omega arith) (some_byte _ c.in-Some.ensures).0 (omega (arith, (some_byte _ c.in-Some.ensures).0, (some_byte _ c.in-Some.ensures).1)))

pub returns : goal.returns
returns c =
    let at : c.loop-i.i ≡ c.min-most.result / 2 = omega arith in
    decoding_answers _ _ _ _ c.loop-i.invariant (λ h l. absurd (omega arith)) (rw at c.ends-2.ensures)
