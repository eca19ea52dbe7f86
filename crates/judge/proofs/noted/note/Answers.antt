-- `judge::noted::note` meets its contract: a frame of another type adds no path.
use mathlib.Core.Path.{sym, ◌∙◌}
use native.Mathlib.Omega.{arith}
use borrow.Author.Tests.{eq-eqb, ne_eqb}
use Rattle.policy.specs.Frames.{frame_in, path_from}
use Rattle.judge.proofs.Noting.{noted_other, noted_added}
use Rattle.judge.proofs.noted.note.Goals as goal

pub returns-then-byte-code : goal.returns-then-byte-code
unfolding path_from
returns-then-byte-code c P noted =
    let type = eq-eqb _ _ (sym c.byte.ensures ∙ c.if-byte-code.true ∙ c.code.ensures) in
    rw c.digest-at.ensures.0 (noted_added P (frame_in c.args.size c.args.bytes.now) c.args.marks.now type (omega (arith, c.digest-at.ensures, c.requires)) noted)

pub returns-else-byte-code : goal.returns-else-byte-code
returns-else-byte-code c P noted =
    noted_other P (frame_in c.args.size c.args.bytes.now) c.args.marks.now (ne_eqb _ _ (λ e. c.if-byte-code.false (c.byte.ensures ∙ e ∙ sym c.code.ensures))) noted
