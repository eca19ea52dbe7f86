-- An answer is read back as it was written: verdict, states opened and records, whatever stands behind it.
-- Assumes nothing.
use mathlib.Core.Path.{◌≡◌, refl, ap, ◌∙◌}
use mathlib.Core.Bool.{Bool, true, false, cond}
use mathlib.Core.List.{List, [], ◌∷◌, ◌++◌, append_assoc}
use Prim.Native.Nat.{ℕ, suc, ◌/◌, ◌%◌, ◌+◌, ◌≤◌, ◌<◌}
use native.Mathlib.Omega.{arith}
use borrow.Author.Tests.{ne_eqb}
use lib.Dec.{eqb, ltb}
use lib.ListN.{length}
use lib.Seq.{take-append_seam, drop-append_seam}
use Rattle.lines.specs.Line.{line_length, line_of, hex_of, digit_of, decoded, frame_of, Bytes}
use Rattle.lines.proofs.Encoding.{bytes-line_of, good-line_of}
use Rattle.gran.specs.Lists.{All}
use Rattle.store.specs.Layout.{two}
use Rattle.store.proofs.Reading.{two_number}
use Rattle.policy.specs.Frames.{byte_at, number2}
use Rattle.records.specs.declared.Step.{Step}
use Rattle.records.specs.Record.{step_bytes, step_lines, summary}
use Rattle.records.proofs.Bytes.{step_bytes-some, step_bytes_most}
use Rattle.question.specs.Question.{first, behind}
use Rattle.meaning.specs.Read.{Said, answer_lines, steps_said, said_in}
use Rattle.meaning.proofs.Steps.{Narrow, bytes_all, step-bytes, step-again}

-- ---- a line

-- no digit is LF
digit_in_line : (v : ℕ) → eqb (digit_of v) 10 ≡ false
unfolding digit_of
digit_in_line v = ne_eqb _ _ (go (ltb v 10))
  where
    go : (t : Bool) → cond t (v + 48) (v + 87) ≡ 10 → ⊥
    go true e = omega (arith, e)
    go false e = omega (arith, e)

pub line_ends : (bytes rest : List ℕ) → line_length (line_of bytes ++ rest) ≡ length (line_of bytes)
unfolding line_length line_of hex_of
line_ends [] rest = refl
line_ends (b ∷ bytes) rest = rw (digit_in_line (b / 16), digit_in_line (b % 16)) (ap (λ (n : ℕ). suc (suc n)) (line_ends bytes rest))

first-line_of : (bytes rest : List ℕ) → Bytes bytes → 1 ≤ length bytes → length bytes ≤ 80 → first (line_of bytes ++ rest) ≡ frame_of bytes
unfolding decoded
first-line_of bytes rest small some most = rw (line_ends bytes rest, take-append_seam (line_of bytes) rest, good-line_of bytes small some most, bytes-line_of bytes small)

behind-line_of : (bytes rest : List ℕ) → behind (line_of bytes ++ rest) ≡ rest
behind-line_of bytes rest = rw (line_ends bytes rest) (drop-append_seam (line_of bytes) rest)

-- ---- the first line

module _ (verdict opened steps : ℕ) (rest : List ℕ) (v : verdict < 256) where
  abbrev summary_bytes : List ℕ
  summary_bytes = 0x80 ∷ verdict ∷ (two opened ++ two steps)

  summary-first : first (summary verdict opened steps ++ rest) ≡ frame_of summary_bytes
  unfolding summary two
  summary-first = first-line_of summary_bytes rest (bytes_all summary_bytes (omega arith, (v, (omega arith, (omega arith, (omega arith, (omega arith, tt))))))) (omega arith) (omega arith)

  verdict-again : byte_at (first (summary verdict opened steps ++ rest)) 1 ≡ verdict
  unfolding frame_of
  verdict-again = rw summary-first

  opened-again : opened < 65536 → number2 (first (summary verdict opened steps ++ rest)) 2 ≡ opened
  unfolding frame_of number2 two
  opened-again h = rw summary-first (two_number opened h)

  count-again : steps < 65536 → number2 (first (summary verdict opened steps ++ rest)) 4 ≡ steps
  unfolding frame_of number2 two
  count-again h = rw summary-first (two_number steps h)

  summary-behind : behind (summary verdict opened steps ++ rest) ≡ rest
  unfolding summary
  summary-behind = behind-line_of summary_bytes rest

-- ---- the steps

steps-again : (rows : List Step) (rest : List ℕ) → All Narrow rows → steps_said (length rows) (step_lines rows ++ rest) ≡ rows
unfolding steps_said
steps-again [] rest all = refl
steps-again (r ∷ rows) rest (narrow, all) =
    let line = first-line_of (step_bytes r) (step_lines rows ++ rest) (step-bytes r narrow) (step_bytes-some r) (omega (arith, step_bytes_most r)) in
    rw (append_assoc (line_of (step_bytes r)) (step_lines rows) rest, line, step-again r narrow, behind-line_of (step_bytes r) (step_lines rows ++ rest), steps-again rows rest all)

-- ---- an answer

-- What is written can be read back: each number has room in its bytes.
pub record Fitting (x : Said) : Type 0 where
  pub verdict : x.verdict < 256
  pub opened : x.opened < 65536
  pub count : length x.steps < 65536
  pub steps : All Narrow x.steps

-- an answer is its parts
said_is : (x : Said) {verdict opened : ℕ} {steps : List Step} → verdict ≡ x.verdict → opened ≡ x.opened → steps ≡ x.steps
    → ◌≡◌ {A = Said} (record { verdict = verdict; opened = opened; steps = steps }) x
said_is x v o s = rw (v, o, s)

-- Reading gives back what was written, whatever stands behind it.
pub said-again : (x : Said) → Fitting x → (rest : List ℕ) → said_in (answer_lines x ++ rest) ≡ x
said-again x fit rest =
    let n = length x.steps in
    let tail : List ℕ = step_lines x.steps ++ rest in
    ap said_in (append_assoc (summary x.verdict x.opened n) (step_lines x.steps) rest)
    ∙ said_is x (verdict-again x.verdict x.opened n tail fit.verdict) (opened-again x.verdict x.opened n tail fit.verdict fit.opened)
    (rw (count-again x.verdict x.opened n tail fit.verdict fit.count, summary-behind x.verdict x.opened n tail fit.verdict) (steps-again x.steps rest fit.steps))
