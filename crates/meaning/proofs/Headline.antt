-- Demand 3, said of the answer that is given: what its lines mean for real steps on any file systems, and what the bytes tell that a caller has.
-- Assumes nothing.
use mathlib.Core.Path.{◌≡◌, sym, ap, ◌∙◌}
use mathlib.Core.Logic.{◌⊎◌, inl, inr, ⊎_elim, ◌↔◌}
use mathlib.Core.List.{List}
use Prim.Native.Nat.{ℕ, ◌/◌}
use lib.ListN.{length, take}
use Rattle.gran.specs.Policy.{Policy}
use Rattle.gran.specs.Good.{Good}
use Rattle.gran.specs.Reach.{Reachable}
use Rattle.gran.proofs.Run.{everything, on_everything}
use Rattle.gran.proofs.Answers.{never_real}
use Rattle.records.specs.Record.{records_of}
use Rattle.records.proofs.Bytes.{records_of-length}
use Rattle.policy.specs.Frames.{type_of}
use Rattle.policy.specs.Load.{accepted, reading}
use Rattle.policy.proofs.Accepted.{accepted_good}
use Rattle.ask.specs.Ask.{Asked, number_of, coded, early, start_of, question_of, Lines, answer_with, Areas, Outcome, answering, Comes, ComesTo, AskedAs, CodedAs}
use Rattle.ask.proofs.Small.{c_parts}
use Rattle.ask.proofs.Numbers.{number-zero}
use Rattle.replay.specs.declared.Verdict.{Verdict}
use Rattle.replay.specs.Replay.{acts_said}
use Rattle.leveecrumb.specs.Replaying.{Ended, telling, replaying}
use Rattle.leveecrumb.proofs.Verdicts.{comes-walked}
use Rattle.question.specs.Question.{first, misses, asked_in, text_in, refusal_line, Printed, CheckedAs}
use Rattle.meaning.specs.Read.{said_in}
use Rattle.meaning.specs.Means.{Means, TellsOf, FourByteIds}
use Rattle.meaning.proofs.Recipes.{never_few, shown_few, shown_short, shown_recipe}
use Rattle.meaning.proofs.Telling.{accepted_tells, printed_so}
use Rattle.meaning.proofs.Printing.{asked_ids, prints_cases, printed_lines, checked_printed}

-- ---- what the lines mean

-- The lines of an answer say never, and no run gets there; or they spell a recipe.
pub lines_mean : {P : Policy} {a : Asked} {lines : List ℕ} → Good P → Lines P a lines → Means P a lines
lines_mean {P} {a} good (Lines.never opened u) =
    Means.never opened (never_few P good a opened u) (λ fs. never_real P good (question_of a) a.uid a.gid a.start opened u fs)
lines_mean {P} {a} good (Lines.reached zs opened s) =
    rw (← records_of-length P (start_of a) zs)
    (Means.reached (records_of P (start_of a) zs) opened (shown_few P good a zs opened s) (shown_short P good a zs opened s) (shown_recipe P good a zs opened s))

-- What an ask leaves, for Rust (24,576 numbers) and for C (49,152 bytes), where none of 1 to 6 holds and the text is accepted.
pub asked_means : (places work : ℕ) (text : List ℕ) (a : Asked) (lent : Areas) (o : Outcome) → ComesTo places (early (length text) (length lent.store) work a) text a lent o
    → early (length text) (length lent.store) work a ≡ 0 → (P : Policy) → reading text ≡ accepted P → (lines : List ℕ) × (o ≡ answering places P lines lent) × Means P a lines
asked_means places work text a lent o asked none P read =
    let answers : Comes places (accepted P) a lent o = rw (none, read) at asked in
    (answers.0, answers.2, lines_mean (accepted_good text P read) answers.1)

-- The same of C's number and what the call leaves.
pub coded_means : (text : List ℕ) (a : Asked) (lent : Areas) (code : ℕ) (left : Areas) → CodedAs text a lent code left
    → early (length text) (length lent.store) (length lent.work / 2) a ≡ 0 → (P : Policy) → reading text ≡ accepted P
    → (lines : List ℕ) × (code ≡ coded (answer_with lines lent.room)) × (left ≡ (answering 49152 P lines lent).left) × Means P a lines
coded_means text a lent code left (answer, e, asked) none P read =
    let (lines, same, means) = asked_means 49152 (length lent.work / 2) text a lent (record { answer = answer; left = left }) asked none P read in
    (lines, e ∙ ap (λ (o : Outcome). coded o.answer) same, ap (λ (o : Outcome). o.left) same, means)

-- The same of what pathcheck prints, where no question line is missed: 17's line, or lines that mean so.
pub printed_means : (room : ℕ) (input out : List ℕ) → Printed room input out → misses input ≡ 0 → early (length (text_in input)) 16384 24576 (asked_in input) ≡ 0
    → (P : Policy) → reading (text_in input) ≡ accepted P → (out ≡ refusal_line 17 0) ⊎ Means P (asked_in input) out
printed_means room input out printed asks none P read =
    ⊎_elim inl (λ right. inr (lines_mean (accepted_good (text_in input) P read) right)) (prints_cases room P (asked_in input) out (rw (asks, none, read) at printed))

-- ---- what the bytes tell: the third and fourth digit are 00, and no run of real steps gets there on any file systems;
-- or they are 01, and the records that the lines spell are real steps to the access, and no run with fewer gets there on any

-- The room after an ask with number 0, in Rattle.
pub asked_tells : (text : List ℕ) (a : Asked) (lent : Areas) (o : Outcome) → AskedAs text a lent o → FourByteIds a → number_of o.answer ≡ 0 → TellsOf text a o.left.room
asked_tells text a lent o asked ids zero =
    let x = number-zero 24576 (length lent.work) text a lent o asked zero in
    accepted_tells ids x (lines_mean (accepted_good text x.policy x.read) x.right)

-- The room after an ask for C whose number is below 2^32.
pub coded_tells : (text : List ℕ) (a : Asked) (lent : Areas) (code : ℕ) (left : Areas) → CodedAs text a lent code left → FourByteIds a → code / 4294967296 ≡ 0 → TellsOf text a left.room
coded_tells text a lent code left so ids zero =
    let (answer, asked, number, value) = c_parts text a lent code left so in
    let x = number-zero 49152 (length lent.work / 2) text a lent (record { answer = answer; left = left }) asked (sym number ∙ zero) in
    accepted_tells ids x (lines_mean (accepted_good text x.policy x.read) x.right)

-- What pathcheck prints, where it begins with 80.
pub printed_tells : (room : ℕ) (input out : List ℕ) → Printed room input out → type_of (first out) ≡ 0x80 → TellsOf (text_in input) (asked_in input) out
printed_tells room input out printed begins =
    let (P, read, right) = printed_lines room input out begins printed in
    printed_so (asked_ids input) P read (lines_mean (accepted_good (text_in input) P read) right)

-- The part of its output that a check says it wrote.
pub checked_tells : (input output : List ℕ) (size : ℕ) (left : List ℕ) → CheckedAs input output size left → type_of (first (take size left)) ≡ 0x80 → TellsOf (text_in input) (asked_in input) (take size left)
checked_tells input output size left checked begins = printed_tells (length output) input (take size left) (checked_printed checked begins) begins

-- The records that are read hold in a replay of the same text and question, over any store that is long enough.
pub told_hold : (text : List ℕ) (a : Asked) (bytes store : List ℕ) → TellsOf text a bytes → (said_in bytes).verdict ≡ 1 → early (length text) (length store) 24576 a ≡ 0
    → (replaying text a (said_in bytes).steps store).answer.verdict ≡ 1
told_hold text a bytes store x reached none =
    ap (λ (e : Ended). e.answer.verdict) (comes-walked text a (said_in bytes).steps store none x.policy x.read) ∙ ap (λ (v : Verdict). (telling v).verdict) (x.tells.reached reached).holds

-- They say reached exactly where some run of real steps comes to the access, on some file systems.
pub told_exactly : (text : List ℕ) (a : Asked) (bytes : List ℕ) (x : TellsOf text a bytes) → ((said_in bytes).verdict ≡ 1) ↔ ((n : ℕ) × Reachable x.policy (question_of a) (start_of a) n)
told_exactly text a bytes x = (
  λ e. (length (said_in bytes).steps, (everything, (x.tells.reached e).reached everything (on_everything (acts_said x.policy (said_in bytes).steps)))),
  λ r. ⊎_elim (λ e. absurd (x.tells.never e r.1.0 r.0 r.1.1)) (λ e. e) x.tells.verdict,
)
