-- No answer of an ask is over 188,406 bytes, so that the number for C has the answer's number and its value, none cut off.
-- Assumes nothing.
use mathlib.Core.Path.{◌≡◌, refl, sym, ap, ◌∙◌}
use mathlib.Core.Bool.{Bool, true, false, not, cond}
use mathlib.Core.List.{List, [], ◌∷◌}
use Prim.Native.Nat.{ℕ, zero, suc, ◌+◌, ◌*◌, ◌/◌, ◌%◌, ◌≤◌, ◌<◌}
use native.Mathlib.Omega.{arith}
use borrow.Author.Tests.{ltb-false, leb-false}
use lib.Dec.{eqb, leb, ltb}
use lib.ListN.{length, length-append}
use Rattle.lines.specs.Line.{prepend, lines_of, decoded}
use Rattle.gran.specs.Policy.{Policy}
use Rattle.gran.specs.Abstract.{abstract}
use Rattle.gran.specs.Good.{Good, states_of}
use Rattle.records.specs.Record.{records_of, step_lines, summary}
use Rattle.records.proofs.Bytes.{records_of-length, step_lines_most, summary-length}
use Rattle.policy.specs.Load.{Load, Progress, going, stopped, step_by, step, after, refusal_of, run, start, Reading, refused, accepted, unrooted, finish, reading}
use Rattle.policy.proofs.Loads.{run-stopped}
use Rattle.policy.proofs.Accepted.{accepted_good}
use Rattle.numbered.proofs.Numbers.{abstract_inside}
use Rattle.ask.proofs.Short.{first_short}
use Rattle.ask.specs.Ask.{Answer, Answered, Refused, Short, Asked, number_of, value_of, coded, early, start_of, question_of, Lines, never, reached, Areas, Outcome, answer_with, Comes, ComesTo, AskedInBytes, CodedAs}

-- ---- a refusal of a text has a number, and its line is a line of the text

prepend_few : (b : ℕ) (ls : List (List ℕ)) → length (prepend b ls) ≤ suc (length ls)
unfolding prepend
prepend_few b [] = omega arith
prepend_few b (l ∷ ls) = omega arith

lines_of_few : (text : List ℕ) → length (lines_of text) ≤ length text
unfolding lines_of
lines_of_few [] = omega arith
lines_of_few (b ∷ bs) = go (eqb b 10) (lines_of_few bs)
  where
    go : (t : Bool) → length (lines_of bs) ≤ length bs → length (cond t ((b ∷ []) ∷ lines_of bs) (prepend b (lines_of bs))) ≤ suc (length bs)
    go true h = omega arith
    go false h = omega (arith, prepend_few b (lines_of bs))

stops_within : (s : Load) (ls : List (List ℕ)) (n l : ℕ) → run (going s) ls ≡ stopped n l → (0 < n) × (l ≤ s.lines + length ls)
unfolding run step step_by after
stops_within s [] n l e = let z : ◌≡◌ {A = ℕ} 0 1 = cc in absurd (omega arith)
stops_within s (x ∷ xs) n l e = go (refusal_of s x) e (stops_within (after s (decoded x)) xs n l)
  where
    go : (m : ℕ) → run (step_by m s x) xs ≡ stopped n l → (run (going (after s (decoded x))) xs ≡ stopped n l → (0 < n) × (l ≤ s.lines + 1 + length xs)) → (0 < n) × (l ≤ s.lines + suc (length xs))
    go zero d ih = let w = ih d in (w.0, omega (arith, w.1))
    go (suc m) d ih =
        let number : n ≡ suc m = cc (run-stopped (suc m) (s.lines + 1) xs) in
        let here : l ≡ s.lines + 1 = cc (run-stopped (suc m) (s.lines + 1) xs) in
        (omega arith, omega arith)

finish_within : (p : Progress) (n l b : ℕ) → finish p ≡ refused n l → ((m k : ℕ) → p ≡ stopped m k → (0 < m) × (k ≤ b)) → (0 < n) × (l ≤ b)
unfolding finish
finish_within (stopped m k) n l b e h =
    let number : m ≡ n = cc in
    let same : k ≡ l = cc in
    let w = h m k refl in
    (omega (arith, w.0), omega (arith, w.1))
finish_within (going s) n l b e h = go (not (eqb s.last 0x7f)) (unrooted s.policy) (ltb 8192 (states_of s.policy)) e
  where
    ends : (m : ℕ) → 0 < m → refused m 0 ≡ refused n l → (0 < n) × (l ≤ b)
    ends m some d =
        let number : m ≡ n = cc in
        let none : 0 ≡ l = cc in
        (omega arith, omega arith)

    go : (x y z : Bool) → cond x (refused 14 0) (cond y (refused 15 0) (cond z (refused 16 0) (accepted s.policy))) ≡ refused n l → (0 < n) × (l ≤ b)
    go true y z d = ends 14 (omega arith) d
    go false true z d = ends 15 (omega arith) d
    go false false true d = ends 16 (omega arith) d
    go false false false d = let z : ◌≡◌ {A = ℕ} 0 1 = cc in absurd (omega arith)

pub refused_within : (text : List ℕ) (n l : ℕ) → reading text ≡ refused n l → (0 < n) × (l ≤ length text)
unfolding reading
refused_within text n l e =
    finish_within (run (going start) (lines_of text)) n l (length text) e
    (λ m k h. let w = stops_within start (lines_of text) m k h in (w.0, omega (arith, w.1, lines_of_few text)))

-- ---- the answer's length

lines_most : {P : Policy} {a : Asked} {lines : List ℕ} → Good P → Lines P a lines → length lines ≤ 188406
lines_most good (never opened u) = omega (arith, summary-length 0 opened 0)
lines_most {P} {a} good (reached zs opened s) =
    let records = records_of P (start_of a) zs in
    let few = first_short P (abstract P (start_of a)) (question_of a) zs s.first good (abstract_inside P good (start_of a) refl) in
    rw (length-append (summary 1 opened (length zs)) (step_lines records))
    (omega (arith, summary-length 1 opened (length zs), step_lines_most records, records_of-length P (start_of a) zs))

pub value-length : (lines room : List ℕ) → value_of (answer_with lines room) ≡ length lines
unfolding answer_with
value-length lines room = go (leb (length lines) (length room))
  where
    go : (fits : Bool) → value_of (cond fits (Answered (length lines)) (Short (length lines))) ≡ length lines
    go true = refl
    go false = refl

short_room : (lines room : List ℕ) (n : ℕ) → answer_with lines room ≡ Short n → length room < n
unfolding answer_with
short_room lines room n = go (leb (length lines) (length room)) refl
  where
    go : (fits : Bool) → leb (length lines) (length room) ≡ fits → cond fits (Answered (length lines)) (Short (length lines)) ≡ Short n → length room < n
    go true t e = let z : ◌≡◌ {A = ℕ} 0 1 = cc in absurd (omega arith)
    go false t e = let whole : n ≡ length lines = cc in let over : length room < length lines = leb-false _ _ t in omega arith

-- ---- the whole

-- none of 1 to 6: the lengths of text, store and work area are as they must be
pub early_lengths : (text store work : ℕ) (a : Asked) → early text store work a ≡ 0 → (text ≤ 32768) × (16384 ≤ store) × (24576 ≤ work)
unfolding early
early_lengths text store work a e = go (ltb 32768 text) (ltb store 16384) (ltb work 24576) _ refl refl refl e
  where
    go : (x y w : Bool) (rest : ℕ) → ltb 32768 text ≡ x → ltb store 16384 ≡ y → ltb work 24576 ≡ w
        → cond x 1 (cond y 2 (cond w 3 rest)) ≡ 0 → (text ≤ 32768) × (16384 ≤ store) × (24576 ≤ work)
    go true y w rest p q r e = absurd (omega (arith, e))
    go false true w rest p q r e = absurd (omega (arith, e))
    go false false true rest p q r e = absurd (omega (arith, e))
    go false false false rest p q r e = (ltb-false _ _ p, ltb-false _ _ q, ltb-false _ _ r)

-- for Rust and for C, whatever is cleared and however long the work area is
module _ (places work : ℕ) (text : List ℕ) (a : Asked) (lent : Areas) (o : Outcome) (asked : ComesTo places (early (length text) (length lent.store) work a) text a lent o) where
  pub value_most : value_of o.answer ≤ 188406
  value_most = go (early (length text) (length lent.store) work a) refl asked
    where
      by-reading : (r : Reading) → reading text ≡ r → length text ≤ 32768 → Comes places r a lent o → value_of o.answer ≤ 188406
      by-reading (refused n l) e h x = rw x (omega (arith, (refused_within text n l e).1))
      by-reading (accepted P) e h (lines, right, x) = rw (x, value-length) (lines_most (accepted_good text P e) right)

      go : (n : ℕ) → early (length text) (length lent.store) work a ≡ n → ComesTo places n text a lent o → value_of o.answer ≤ 188406
      go zero e x = by-reading (reading text) refl (early_lengths _ _ _ a e).0 x
      go (suc n) e x = rw x (omega arith)

  -- 17 comes where the room is shorter than the bytes needed, which are at most so many: a room of that size is never too short.
  pub needed_most : (n : ℕ) → o.answer ≡ Short n → (length lent.room < n) × (n ≤ 188406)
  needed_most n e = (go (early (length text) (length lent.store) work a) asked, rw e at value_most)
    where
      refuses : (m l : ℕ) → o.answer ≡ Refused m l → length lent.room < n
      refuses m l r = let z : ◌≡◌ {A = ℕ} 0 1 = cc in absurd (omega arith)

      by-reading : (r : Reading) → Comes places r a lent o → length lent.room < n
      by-reading (refused m l) x = refuses m l (ap (λ (q : Outcome). q.answer) x)
      by-reading (accepted P) (lines, right, x) = short_room lines lent.room n (sym (ap (λ (q : Outcome). q.answer) x) ∙ e)

      go : (k : ℕ) → ComesTo places k text a lent o → length lent.room < n
      go zero x = by-reading (reading text) x
      go (suc k) x = refuses (suc k) 0 (ap (λ (q : Outcome). q.answer) x)

module _ (text : List ℕ) (a : Asked) (lent : Areas) where
  pub c-coded : (o : Outcome) → AskedInBytes text a lent o → coded o.answer ≡ number_of o.answer * 4294967296 + value_of o.answer
  unfolding coded
  c-coded o asked = omega (arith, value_most 49152 (length lent.work / 2) text a lent o asked)

  -- What C reads out of the number: above 2^32 the answer's number, below it the value.
  pub c_parts : (code : ℕ) (left : Areas) → CodedAs text a lent code left
      → (answer : Answer) × AskedInBytes text a lent (record { answer = answer; left = left }) × (code / 4294967296 ≡ number_of answer) × (code % 4294967296 ≡ value_of answer)
  c_parts code left (answer, e, asked) =
      let o : Outcome = record { answer = answer; left = left } in
      let small = value_most 49152 (length lent.work / 2) text a lent o asked in
      let whole = c-coded o asked in
      (answer, asked, omega (arith, e, whole, small), omega (arith, e, whole, small))
