-- An ask has one outcome: one answer, and one content of each lent area. An answer of the specs is one result of a call.
-- Assumes nothing.
use Rattle.std.specs.Prelude.{Result, Ok, Err}
use mathlib.Core.Path.{◌≡◌, sym, ap, ◌∙◌}
use mathlib.Core.List.{List}
use Prim.Native.Nat.{ℕ, zero, suc, ◌/◌}
use lib.ListN.{length}
use native.Mathlib.Omega.{arith}
use Rattle.gran.specs.Policy.{Policy}
use Rattle.runs.proofs.Unique.{shown_unique, unreached_unique, shown-not_unreached}
use Rattle.records.specs.Record.{summary}
use Rattle.policy.specs.Load.{Reading, refused, accepted, reading}
use Rattle.ask.specs.declared.Unanswered.{Unanswered}
use Rattle.ask.specs.declared.Unanswered.TheVariants.{Refused as refused_for, Short as short_by}
use Rattle.ask.specs.Ask.{answer_of, number_of, value_of, Asked, early, Lines, never, reached, Areas, Outcome, coded, answering, Comes, ComesTo, AskedAs, CodedAs}

pub lines_unique : {P : Policy} {a : Asked} {xs ys : List ℕ} → Lines P a xs → Lines P a ys → xs ≡ ys
lines_unique (never n u) (never m v) = ap (λ k. summary 0 k 0) (unreached_unique u v)
lines_unique (never n u) (reached zs m s) = absurd (shown-not_unreached s u)
lines_unique (reached zs n s) (never m u) = absurd (shown-not_unreached s u)
lines_unique (reached zs n s) (reached ws m t) = let e = shown_unique s t in rw (e.0, e.1)

module _ (places : ℕ) (a : Asked) (lent : Areas) (o p : Outcome) where
  comes_unique : (r : Reading) → Comes places r a lent o → Comes places r a lent p → o ≡ p
  comes_unique (refused n l) x y = x ∙ sym y
  comes_unique (accepted P) x y = x.2 ∙ ap (λ lines. answering places P lines lent) (lines_unique x.1 y.1) ∙ sym y.2

  comes_to_unique : (n : ℕ) (text : List ℕ) → ComesTo places n text a lent o → ComesTo places n text a lent p → o ≡ p
  comes_to_unique zero text x y = comes_unique (reading text) x y
  comes_to_unique (suc n) text x y = x ∙ sym y

pub asked_unique : (text : List ℕ) (a : Asked) (lent : Areas) (o p : Outcome) → AskedAs text a lent o → AskedAs text a lent p → o ≡ p
asked_unique text a lent o p x y = comes_to_unique 24576 a lent o p (early (length text) (length lent.store) (length lent.work) a) text x y

-- What a call returns is known by what it says: `answer_of` loses nothing.
pub one_answer : (r s : Result ℕ Unanswered) → answer_of r ≡ answer_of s → r ≡ s
one_answer (Ok m) (Ok n) e = rw (ap value_of e)
one_answer (Err (refused_for m k)) (Err (refused_for n l)) e = rw (ap number_of e, ap value_of e)
one_answer (Err (short_by m)) (Err (short_by n)) e = rw (ap value_of e)
one_answer (Ok m) (Err (refused_for n l)) e = let z : ◌≡◌ {A = ℕ} 0 1 = cc in absurd (omega arith)
one_answer (Ok m) (Err (short_by n)) e = let z : ◌≡◌ {A = ℕ} 0 1 = cc in absurd (omega arith)
one_answer (Err (refused_for m k)) (Ok n) e = let z : ◌≡◌ {A = ℕ} 0 1 = cc in absurd (omega arith)
one_answer (Err (refused_for m k)) (Err (short_by n)) e = let z : ◌≡◌ {A = ℕ} 0 1 = cc in absurd (omega arith)
one_answer (Err (short_by m)) (Ok n) e = let z : ◌≡◌ {A = ℕ} 0 1 = cc in absurd (omega arith)
one_answer (Err (short_by m)) (Err (refused_for n l)) e = let z : ◌≡◌ {A = ℕ} 0 1 = cc in absurd (omega arith)

-- So an ask has one result, and one content of each lent area.
pub result_unique : (text : List ℕ) (a : Asked) (lent : Areas) (r s : Result ℕ Unanswered) (x y : Areas)
    → AskedAs text a lent (record { answer = answer_of r; left = x }) → AskedAs text a lent (record { answer = answer_of s; left = y }) → (r ≡ s) × (x ≡ y)
result_unique text a lent r s x y u v =
    let e = asked_unique text a lent (record { answer = answer_of r; left = x }) (record { answer = answer_of s; left = y }) u v in
    (one_answer r s (ap (λ (o : Outcome). o.answer) e), ap (λ (o : Outcome). o.left) e)

-- the ask for C has one number and one content of each lent area
pub coded_unique : (text : List ℕ) (a : Asked) (lent : Areas) (n m : ℕ) (x y : Areas) → CodedAs text a lent n x → CodedAs text a lent m y → (n ≡ m) × (x ≡ y)
coded_unique text a lent n m x y (r, p, u) (s, q, v) =
    let e = comes_to_unique 49152 a lent (record { answer = r; left = x }) (record { answer = s; left = y }) (early (length text) (length lent.store) (length lent.work / 2) a) text u v in
    (p ∙ ap (λ (o : Outcome). coded o.answer) e ∙ sym q, ap (λ (o : Outcome). o.left) e)
