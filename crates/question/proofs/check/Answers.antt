-- `check` meets its contract: a question line that is missing or bad, or what the three lines ask.
use Rattle.question.proofs.Checking.{checked_answer, checked_refusal}
use Rattle.question.proofs.check.Goals as goal

pub returns-in-Ok : goal.returns-in-Ok
returns-in-Ok c = checked_answer c.in-Ok.ensures

pub returns-in-Err : goal.returns-in-Err
returns-in-Err c = let (missed, kept) = c.in-Err.ensures in checked_refusal c.in-Err.unasked missed (rw (kept, c.number.ensures) at c.refuse.ensures)
