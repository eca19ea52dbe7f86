-- An input has one output: what is printed is one, and so are the size that is told and what the output holds.
-- Assumes nothing.
use mathlib.Core.Path.{◌≡◌, sym, ap, ◌∙◌}
use mathlib.Core.Bool.{cond}
use mathlib.Core.List.{List}
use Prim.Native.Nat.{ℕ, zero, suc}
use lib.Dec.{leb}
use lib.ListN.{length}
use Rattle.lines.proofs.Encoding.{encoded_one}
use Rattle.policy.specs.Load.{Reading, refused, accepted, reading}
use Rattle.ask.specs.Ask.{Answer, Answered, Refused, Short, Asked, early, room_with}
use Rattle.ask.proofs.Unique.{lines_unique}
use Rattle.question.specs.Question.{misses, asked_in, text_in, refusal_line, Prints, PrintsAfter, PrintsBehind, Printed, CheckedAs}
use Rattle.question.specs.Steps.{refusal, ToldAs}

module _ (room : ℕ) {out other : List ℕ} where
  prints_unique : (a : Asked) (r : Reading) → Prints room r a out → Prints room r a other → out ≡ other
  prints_unique a (refused n line) x y = x ∙ sym y
  prints_unique a (accepted P) x y = x.2 ∙ ap (λ (l : List ℕ). cond (leb (length l) room) l (refusal_line 17 0)) (lines_unique x.1 y.1) ∙ sym y.2

  after_unique : (a : Asked) (text : List ℕ) (n : ℕ) → PrintsAfter room n text a out → PrintsAfter room n text a other → out ≡ other
  after_unique a text zero x y = prints_unique a (reading text) x y
  after_unique a text (suc n) x y = x ∙ sym y

  behind_unique : (input : List ℕ) (n : ℕ) → PrintsBehind room n input out → PrintsBehind room n input other → out ≡ other
  behind_unique input zero x y = after_unique (asked_in input) (text_in input) (early (length (text_in input)) 16384 24576 (asked_in input)) x y
  behind_unique input (suc n) x y = x ∙ sym y

  pub printed_unique : (input : List ℕ) → Printed room input out → Printed room input other → out ≡ other
  printed_unique input x y = behind_unique input (misses input) x y

pub checked_unique : {input output : List ℕ} {size count : ℕ} {left other : List ℕ} → CheckedAs input output size left → CheckedAs input output count other → (size ≡ count) × (left ≡ other)
checked_unique {input} {output} x y =
    let e = printed_unique (length output) input x.prints y.prints in
    (x.tells ∙ ap (λ (out : List ℕ). cond (leb (length out) (length output)) (length out) 0) e ∙ sym y.tells, x.leaves ∙ ap (λ (out : List ℕ). room_with out output) e ∙ sym y.leaves)

pub told_unique : (answer : Answer) (output : List ℕ) (size count : ℕ) (left other : List ℕ) → ToldAs answer output size left → ToldAs answer output count other → (size ≡ count) × (left ≡ other)
told_unique (Answered n) output size count left other x y = (x.0 ∙ sym y.0, x.1 ∙ sym y.1)
told_unique (Refused number line) output size count left other x y = encoded_one (refusal number line) output x y
told_unique (Short needed) output size count left other x y = encoded_one (refusal 17 0) output x y
