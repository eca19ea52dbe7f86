-- The refusals by their numbers, and what a result that may be a refusal says: its number, 0 for none, and its line, 0 for none.
-- Assumes nothing.
use Rattle.std.specs.Prelude.{ℕ, Result, Ok, Err}
use Rattle.policy.specs.declared.refusal.Refusal.{Refusal}
use Rattle.policy.specs.declared.refusal.Refusal.TheVariants.{LongText, ShortStore, ShortWork, BadPath, Nobody, BadKind, BadLine, BadFrame, OutOfOrder, OutOfRange, Second, Full, Miscounted, NoEnd, Unrooted, Crowded}
use Rattle.policy.specs.declared.refusal.Refused.{Refused}

-- 01's number of a refusal.
abbrev pub refusal_number : Refusal → ℕ
refusal_number LongText = 1
refusal_number ShortStore = 2
refusal_number ShortWork = 3
refusal_number BadPath = 4
refusal_number Nobody = 5
refusal_number BadKind = 6
refusal_number BadLine = 7
refusal_number BadFrame = 8
refusal_number OutOfOrder = 9
refusal_number OutOfRange = 10
refusal_number Second = 11
refusal_number Full = 12
refusal_number Miscounted = 13
refusal_number NoEnd = 14
refusal_number Unrooted = 15
refusal_number Crowded = 16

-- The number of a refusal, 0 where there is none.
abbrev pub number_in : {A : Type 0} → Result A Refusal → ℕ
number_in (Ok x) = 0
number_in (Err r) = refusal_number r

-- The same where a refusal has a line, and the line, 0 where there is none.
abbrev pub refused_number : {A : Type 0} → Result A Refused → ℕ
refused_number (Ok x) = 0
refused_number (Err r) = refusal_number r.refusal

abbrev pub refused_line : {A : Type 0} → Result A Refused → ℕ
refused_line (Ok x) = 0
refused_line (Err r) = r.line

-- A refusal that is of no line.
abbrev pub of_no_line : Refusal → Refused
of_no_line r = record { refusal = r; line = 0 }
