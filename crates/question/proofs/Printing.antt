-- What is printed for a text, from the ask's outcome and what was told of it.
-- Assumes nothing.
use mathlib.Core.Path.{◌≡◌, refl}
use mathlib.Core.Bool.{Bool, true, false, cond}
use mathlib.Core.List.{List, ◌++◌}
use Prim.Native.Nat.{ℕ, zero, suc}
use lib.Dec.{leb}
use lib.ListN.{length, drop}
use Rattle.lines.specs.Line.{encoded, EncodedAs}
use Rattle.gran.specs.Policy.{Policy}
use Rattle.policy.specs.Load.{Reading, refused, accepted, reading}
use Rattle.ask.specs.Ask.{Answered, Asked, early, Lines, Areas, Outcome, answer_with, room_with, Comes, ComesTo, AskedAs}
use Rattle.question.specs.Question.{refusal_line, Prints, PrintsAfter}
use Rattle.question.specs.Steps.{refusal, ToldAs, PutAs, RespondedAs}

-- ---- a refusal's line

module _ (number line : ℕ) (output : List ℕ) (size : ℕ) (left : List ℕ) (e : EncodedAs (refusal number line) output size left) where
  pub refusal_tells : size ≡ cond (leb (length (refusal_line number line)) (length output)) (length (refusal_line number line)) 0
  unfolding refusal_line
  refusal_tells = e.size

  pub refusal_leaves : left ≡ room_with (refusal_line number line) output
  unfolding refusal_line encoded room_with
  refusal_leaves = e.room

  pub refusal_put : (Says : List ℕ → Type 0) → Says (refusal_line number line) → PutAs Says output size left
  refusal_put Says s = record { out = refusal_line number line; says = s; tells = refusal_tells; leaves = refusal_leaves }

-- ---- an outcome

module _ (text : List ℕ) (a : Asked) (lent : Areas) (o : Outcome) (size : ℕ) (left : List ℕ) where
  answer_put : (P : Policy) (lines : List ℕ) → Lines P a lines → (fits : Bool) → leb (length lines) (length lent.room) ≡ fits
      → ToldAs (answer_with lines lent.room) (room_with lines lent.room) size left → PutAs (Prints (length lent.room) (accepted P) a) lent.room size left
  unfolding answer_with room_with
  answer_put P lines l true e told =
      let t : ToldAs (Answered (length lines)) (lines ++ drop (length lines) lent.room) size left = rw e at told in
      record { out = lines; says = (lines, l, rw e); tells = rw (t.0, e); leaves = rw (t.1, e) }
  answer_put P lines l false e told = refusal_put 17 0 lent.room size left (rw e at told) (Prints (length lent.room) (accepted P) a) (lines, l, rw e)

  reading_put : (r : Reading) → Comes 24576 r a lent o → ToldAs o.answer o.left.room size left → PutAs (Prints (length lent.room) r a) lent.room size left
  reading_put (refused n line) e told = refusal_put n line lent.room size left (rw e at told) (Prints (length lent.room) (refused n line) a) refl
  reading_put (accepted P) (lines, l, e) told = answer_put P lines l (leb (length lines) (length lent.room)) refl (rw e at told)

  outcome_put : (n : ℕ) → ComesTo 24576 n text a lent o → ToldAs o.answer o.left.room size left → PutAs (PrintsAfter (length lent.room) n text a) lent.room size left
  outcome_put zero e told = reading_put (reading text) e told
  outcome_put (suc n) e told = refusal_put (suc n) 0 lent.room size left (rw e at told) (PrintsAfter (length lent.room) (suc n) text a) refl

  pub responded : length lent.store ≡ 16384 → length lent.work ≡ 24576 → AskedAs text a lent o → ToldAs o.answer o.left.room size left → RespondedAs text a lent.room size left
  responded s w asked told = outcome_put (early (length text) 16384 24576 a) (rw (s, w) at asked) told
