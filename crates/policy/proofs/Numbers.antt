-- A refusal is known by its number, and no refusal has the number 0: so a result that may be a refusal is known by its number too.
-- Assumes nothing.
use Rattle.std.specs.Prelude.{◌≡◌, refl, ℕ, cond, eqb, Result, Ok, Err}
use mathlib.Core.Path.{sym, ap, ◌∙◌}
use native.Mathlib.Omega.{arith}
use Rattle.policy.specs.declared.refusal.Refusal.{Refusal}
use Rattle.policy.specs.declared.refusal.Refusal.TheVariants.{LongText, ShortStore, ShortWork, BadPath, Nobody, BadKind, BadLine, BadFrame, OutOfOrder, OutOfRange, Second, Full, Miscounted, NoEnd, Unrooted, Crowded}
use Rattle.policy.specs.declared.refusal.Refused.{Refused}
use Rattle.policy.specs.Refused.{refusal_number, number_in, refused_number, refused_line}

-- the refusal of a number
refusal_of : ℕ → Refusal
refusal_of n =
    cond (eqb n 1) LongText (cond (eqb n 2) ShortStore (cond (eqb n 3) ShortWork (cond (eqb n 4) BadPath
    (cond (eqb n 5) Nobody (cond (eqb n 6) BadKind (cond (eqb n 7) BadLine (cond (eqb n 8) BadFrame
    (cond (eqb n 9) OutOfOrder (cond (eqb n 10) OutOfRange (cond (eqb n 11) Second (cond (eqb n 12) Full
    (cond (eqb n 13) Miscounted (cond (eqb n 14) NoEnd (cond (eqb n 15) Unrooted Crowded))))))))))))))

named : (r : Refusal) → refusal_of (refusal_number r) ≡ r
unfolding refusal_of
named LongText = refl
named ShortStore = refl
named ShortWork = refl
named BadPath = refl
named Nobody = refl
named BadKind = refl
named BadLine = refl
named BadFrame = refl
named OutOfOrder = refl
named OutOfRange = refl
named Second = refl
named Full = refl
named Miscounted = refl
named NoEnd = refl
named Unrooted = refl
named Crowded = refl

-- Two refusals of one number are the same.
pub one_refusal : (r s : Refusal) → refusal_number r ≡ refusal_number s → r ≡ s
one_refusal r s e = sym (named r) ∙ ap refusal_of e ∙ named s

-- No refusal has the number 0.
pub some_number : (r : Refusal) → refusal_number r ≡ 0 → ⊥
some_number LongText e = omega arith
some_number ShortStore e = omega arith
some_number ShortWork e = omega arith
some_number BadPath e = omega arith
some_number Nobody e = omega arith
some_number BadKind e = omega arith
some_number BadLine e = omega arith
some_number BadFrame e = omega arith
some_number OutOfOrder e = omega arith
some_number OutOfRange e = omega arith
some_number Second e = omega arith
some_number Full e = omega arith
some_number Miscounted e = omega arith
some_number NoEnd e = omega arith
some_number Unrooted e = omega arith
some_number Crowded e = omega arith

-- So what may be a refusal is one, by its number.
pub one_result : (r s : Result Unit Refusal) → number_in r ≡ number_in s → r ≡ s
one_result (Ok x) (Ok y) e = refl
one_result (Err q) (Err r) e = rw (one_refusal q r e)
one_result (Ok x) (Err r) e = absurd (some_number r (sym e))
one_result (Err q) (Ok y) e = absurd (some_number q e)

-- The same with a line, by both.
pub one_refused : (r s : Result Unit Refused) → refused_number r ≡ refused_number s → refused_line r ≡ refused_line s → r ≡ s
one_refused (Ok x) (Ok y) e f = refl
one_refused (Err q) (Err r) e f = rw (same (one_refusal q.refusal r.refusal e) f)
  where
    same : q.refusal ≡ r.refusal → q.line ≡ r.line → q ≡ r
    same g h = rw (g, h)
one_refused (Ok x) (Err r) e f = absurd (some_number r.refusal (sym e))
one_refused (Err q) (Ok y) e f = absurd (some_number q.refusal e)
