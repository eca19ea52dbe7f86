-- `shown::label_length` meets its contract: the length by the mark.
use native.Mathlib.Omega.{arith}
use Rattle.std.proofs.lemmas.Bool.Decides.{nat_tests}
use Rattle.shown.proofs.Four.{one_of}
use Rattle.shown.proofs.Acts.{length_is}
use Rattle.shown.proofs.label_length.Goals as goal

pub returns-in-96 : goal.returns-in-96
unfolding one_of
returns-in-96 c P σ α a good m e = grind (arith, nat_tests, length_is P good α σ a m)

pub returns-in-97 : goal.returns-in-97
unfolding one_of
returns-in-97 c P σ α a good m e = grind (arith, nat_tests, length_is P good α σ a m)

pub returns-in_default : goal.returns-in_default
unfolding one_of
returns-in_default c P σ α a good m e = grind (arith, nat_tests, length_is P good α σ a m)

pub returns-in_default-2 : goal.returns-in_default-2
unfolding one_of
returns-in_default-2 c P σ α a good m e = grind (arith, nat_tests, length_is P good α σ a m)
