-- The check's statement, from the question's lines as they were read and what was printed.
-- Assumes nothing.
use Rattle.std.specs.Prelude.{Ok}
use mathlib.Core.Path.{◌≡◌, refl}
use mathlib.Core.Bool.{Bool, true, false, cond}
use mathlib.Core.List.{List}
use Prim.Native.Nat.{ℕ, suc, ◌≤◌}
use native.Mathlib.Omega.{arith}
use borrow.Author.Tests.{leb-true}
use lib.Dec.{leb}
use lib.ListN.{length}
use Rattle.lines.specs.Line.{EncodedAs}
use Rattle.question.specs.declared.Line.{Line}
use Rattle.question.specs.declared.Unasked.{Unasked}
use Rattle.question.specs.declared.Unasked.TheVariants.{Account, Start, Target}
use Rattle.question.specs.Question.{first, behind, fits, misses, asked_in, text_in, Printed, CheckedAs}
use Rattle.question.specs.Steps.{FirstLine, line_number, HasPath, asked_by, refusal, PutAs, RespondedAs, AnsweredAs}
use Rattle.question.proofs.Reading.{fits_path}
use Rattle.question.proofs.Printing.{refusal_put}

put_checked : {input output : List ℕ} {size : ℕ} {left : List ℕ} → PutAs (Printed (length output) input) output size left → CheckedAs input output size left
put_checked p = record { out = p.out; prints = p.says; tells = p.tells; leaves = p.leaves }

-- ---- which line is missing or bad

module _ (input : List ℕ) where
  pub misses-first : fits 0x60 9 9 (first input) ≡ false → misses input ≡ 1
  unfolding misses
  misses-first e = rw e

  module _ (one : fits 0x60 9 9 (first input) ≡ true) where
    pub misses_second : fits 0x61 1 79 (first (behind input)) ≡ false → misses input ≡ 2
    unfolding misses
    misses_second e = rw (one, e)

    module _ (two : fits 0x61 1 79 (first (behind input)) ≡ true) where
      pub misses_third : fits 0x62 1 79 (first (behind (behind input))) ≡ false → misses input ≡ 3
      unfolding misses
      misses_third e = rw (one, two, e)

      pub misses-none : fits 0x62 1 79 (first (behind (behind input))) ≡ true → misses input ≡ 0
      unfolding misses
      misses-none e = rw (one, two, e)

-- ---- the three lines

module _ {input : List ℕ} {one two three : Line} (a : FirstLine input one) (b : FirstLine one.rest.now two) (c : FirstLine two.rest.now three) where
  pub have_paths : fits 0x61 1 79 (first one.rest.now) ≡ true → fits 0x62 1 79 (first two.rest.now) ≡ true → HasPath two.frame × HasPath three.frame
  have_paths e f = (fits_path 0x61 1 79 one.rest.now two.frame b.frame (rw b.frame e), fits_path 0x62 1 79 two.rest.now three.frame c.frame (rw c.frame f))

  -- What they ask of the text behind them.
  pub asks : {output : List ℕ} {size : ℕ} {left : List ℕ} → RespondedAs three.rest.now (asked_by one.frame two.frame three.frame) output size left → RespondedAs (text_in input) (asked_in input) output size left
  asks r = rw (c.rest, c.frame, b.rest, b.frame, a.rest, a.frame) at r

-- ---- the whole

module _ {input output : List ℕ} {size : ℕ} {left : List ℕ} where
  pub checked_answer : AnsweredAs input output (Ok size) left → CheckedAs input output size left
  checked_answer (none, r) = put_checked (record { out = r.out; says = rw none r.says; tells = r.tells; leaves = r.leaves })

  -- 18 with the line that is missing or bad
  refused : (n : ℕ) → misses input ≡ suc n → EncodedAs (refusal 18 (suc n)) output size left → CheckedAs input output size left
  refused n e d = put_checked (refusal_put 18 (suc n) output size left d (Printed (length output) input) (rw e))

  pub checked_refusal : (u : Unasked) → misses input ≡ line_number u → EncodedAs (refusal 18 (line_number u)) output size left → CheckedAs input output size left
  checked_refusal Account e d = refused 0 e d
  checked_refusal Start e d = refused 1 e d
  checked_refusal Target e d = refused 2 e d

-- what is told lies within the output
pub told_within : {input output : List ℕ} {size : ℕ} {left : List ℕ} → CheckedAs input output size left → size ≤ length output
told_within {input} {output} c = rw c.tells (go (leb (length c.out) (length output)) refl)
  where
    go : (t : Bool) → leb (length c.out) (length output) ≡ t → cond t (length c.out) 0 ≤ length output
    go true e = leb-true (length c.out) (length output) e
    go false e = omega arith
