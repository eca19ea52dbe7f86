use mathlib.Core.Path.{refl, sym, ◌∙◌}
use Prim.Native.Nat.{ℕ, zero-le}
use native.Mathlib.Omega.{arith}
use borrow.Author.Tests.{le-ltb}
use lib.ListN.{length-set, get_or-replicate}
use Rattle.lines.specs.Line.{hex_value}
use Rattle.lines.proofs.Values.{digits-next}
use Rattle.lines.proofs.digits.Goals as goal

pub loop-v-init : goal.loop-v-init
loop-v-init c = (omega arith, refl, λ b h. get_or-replicate {A = ℕ} 256 b 256 0 h ∙ sym (simp (le-ltb (hex_value b) 0 zero-le)))

pub loop-v-preserved : goal.loop-v-preserved
loop-v-preserved c =
    let l = c.loop-v in
    (omega arith, length-set l.values _ _ ∙ l.invariant.1, rw (c.from-in-loop-v.ensures, c.digit.ensures, c.from.ensures) (digits-next l.values l.v c.loop-v-test.true l.invariant.1 l.invariant.2))
