-- The loop over the lines: what is held, and that the rest of the text decides.
-- Assumes nothing.
use mathlib.Core.Path.{◌≡◌, ◌∙◌, refl, sym, ap, subst}
use mathlib.Core.List.{List, [], ◌∷◌, ◌++◌, append_assoc}
use Prim.Native.Nat.{ℕ, zero, suc, ◌+◌, ◌-◌, ◌≤◌, ◌<◌}
use native.Mathlib.Omega.{arith}
use borrow.Author.Tests.{ne_eqb}
use lib.ListN.{length, take, drop, length-append, length-drop}
use lib.Seq.{take_all, drop_at}
use Rattle.lines.specs.Line.{zeros, line_length, first_line, lines_of, decoded}
use Rattle.lines.proofs.Lines.{lines_cons, line_within, line_positive, first-length}
use Rattle.lines.proofs.Rooms.{length-zeros}
use Rattle.rows.specs.Rows.{joined}
use Rattle.gran.specs.Policy.{Policy}
use Rattle.store.specs.declared.Tally.{Tally}
use Rattle.store.specs.Layout.{all_ids, body, header, layout}
use Rattle.store.specs.Held.{Bounded, Holds, no_tally}
use Rattle.store.specs.Grow.{no_policy}
use Rattle.store.proofs.Regions.{header-length, layout-length}
use Rattle.store.proofs.Holding.{zeros_hold, holds_fits}
use Rattle.policy.specs.Load.{Load, start, after, refusal_of, going, step_by, step, run, refused, finish, reading}
use Rattle.policy.specs.Sound.{least_text}
use Rattle.std.specs.Prelude.{true, false, ◌==◌, Ok, Err}
use Rattle.policy.specs.Refused.{refusal_number}
use Rattle.policy.specs.declared.refusal.Refusal.{Refusal}
use Rattle.load.specs.declared.Step.{Step}
use Rattle.policy.proofs.Numbers.{some_number}
use Rattle.policy.proofs.Loads.{sound-start, run-stopped}
use Rattle.policy.proofs.Room.{text_line}
use Rattle.judge.proofs.Noting.{noted-none}
use Rattle.load.specs.Step.{Lies, CanRead, LineRead, Cleared, AllPassed}

-- Before a line: a load lies in the store, and what is left of the text decides.
pub record Loading (text rest bytes marks : List ℕ) (t : Tally) (last line : ℕ) (ahead : List ℕ) : Type 0 where
  pub load : Load
  pub lies : Lies load rest t last line bytes marks
  pub bounded : Bounded t
  pub short : least_text load.policy + length ahead ≤ length text
  pub count : line + length ahead ≤ length text
  pub decides : run (going start) (lines_of text) ≡ run (going load) (lines_of ahead)

pub loading-begins : (text bytes marks : List ℕ) → Cleared bytes → (t : Tally) → t ≡ no_tally → Loading text (drop 16384 bytes) bytes marks t 0 0 text
unfolding least_text joined all_ids
loading-begins text bytes marks e t n = rw n (record {
  load = start;
  lies = record { held = subst (λ (b : List ℕ). Holds no_policy (drop 16384 bytes) no_tally b) (sym e) (zeros_hold (drop 16384 bytes)); noted = noted-none no_policy marks refl; sound = sound-start; last_is = refl; lines_is = refl };
  bounded = omega arith;
  short = omega arith;
  count = omega arith;
  decides = refl;
})

-- whether a line is left
pub some_left : (ahead : List ℕ) → false ≡ (length ahead == 0) → 0 < length ahead
some_left ahead e = grind arith

pub none_left : (ahead : List ℕ) → true ≡ (length ahead == 0) → length ahead ≡ 0
none_left ahead e = grind arith

-- the rest of a text from `at` on, as a part
pub tail_is : (text : List ℕ) (at : ℕ) → take (length text - at) (drop at text) ≡ drop at text
tail_is text at = take_all (length text - at) (drop at text) (simp length-drop (omega arith))

-- one step of the fold, by its refusal
run-next : (s : Load) (ahead : List ℕ) (n : ℕ) → 0 < length ahead → n ≡ refusal_of s (first_line ahead) →
    run (going s) (lines_of ahead) ≡ run (step_by n s (first_line ahead)) (lines_of (drop (line_length ahead) ahead))
unfolding run step
run-next s ahead n h e = rw (lines_cons ahead h, e)

lines_none : (s : List ℕ) → length s ≡ 0 → lines_of s ≡ []
unfolding lines_of
lines_none [] e = refl
lines_none (b ∷ s) e = absurd (omega arith)

-- what lies past a policy that is held
pub held_past : (P : Policy) (rest : List ℕ) (t : Tally) (bytes : List ℕ) → Bounded t → Holds P rest t bytes → drop 16384 bytes ≡ rest
unfolding layout
held_past P rest t bytes b h =
    let whole : length (layout P) ≡ 16384 = layout-length P (holds_fits P rest t bytes h b) in
    let long : length (zeros 16 ++ body P) ≡ 16384 = simp (length-append, length-zeros) (omega (arith, length-append (header P) (body P), header-length P)) in
    rw (h.stored, ← append_assoc (zeros 16) (body P) rest) (drop_at (zeros 16 ++ body P) rest 16384 long)

module _ (text rest bytes marks : List ℕ) (t : Tally) (last line : ℕ) (ahead : List ℕ) (l : Loading text rest bytes marks t last line ahead) where
  pub loading_past : drop 16384 bytes ≡ rest
  loading_past = held_past l.load.policy rest t bytes l.bounded l.lies.held

  pub can_read : length text ≤ 32768 → CanRead t last line ahead bytes marks
  can_read h = record { load = l.load; rest = rest; lies = l.lies; bounded = l.bounded; short = omega (arith, l.short) }

  module _ (more : 0 < length ahead) (left noted : List ℕ) where
    module _ (step : Step) (read : LineRead t last line ahead bytes marks (Ok step) left noted) where
      pub step_span : (0 < step.size) × (step.size ≤ length ahead)
      step_span = (omega (arith, line_positive ahead more, read.passed.span), omega (arith, line_within ahead, read.passed.span))

      pub loading_goes_on : Loading text rest left noted step.tally step.last (line + 1) (drop step.size ahead)
      unfolding step_by
      loading_goes_on =
          let s = l.load in
          let this = first_line ahead in
          let zero-here : refusal_of s this ≡ 0 = sym (read.lowest s rest l.lies) in
          record {
            load = after s (decoded this);
            lies = read.passed.lies s rest l.lies;
            bounded = read.passed.bounded;
            short = omega (arith, text_line s this zero-here, first-length ahead, read.passed.span, l.short, length-drop step.size ahead, step_span);
            count = omega (arith, step_span.0, step_span.1, l.count, length-drop step.size ahead);
            decides = l.decides ∙ run-next s ahead 0 more (sym zero-here) ∙ rw read.passed.span;
          }

    pub loading_stops : (r : Refusal) → LineRead t last line ahead bytes marks (Err r) left noted → reading text ≡ refused (refusal_number r) (line + 1)
    unfolding step_by finish reading
    loading_stops r read = go (refusal_number r) refl
      where
        go : (k : ℕ) → refusal_number r ≡ k → reading text ≡ refused (refusal_number r) (line + 1)
        go zero e = absurd (some_number r e)
        go (suc k) e =
            ap finish (l.decides ∙ run-next l.load ahead (suc k) more (sym e ∙ read.lowest l.load rest l.lies) ∙ run-stopped (suc k) (l.load.lines + 1) _)
            ∙ rw (e, l.lies.lines_is)

  -- the lines have ended
  module _ (end : length ahead ≡ 0) where
    loading_ends : run (going start) (lines_of text) ≡ going l.load
    unfolding run
    loading_ends = l.decides ∙ rw (lines_none ahead end)

    pub ends_short : (last ≡ 0x7f → ⊥) → reading text ≡ refused 14 0
    unfolding finish reading
    ends_short n = ap finish loading_ends ∙ rw (ne_eqb l.load.last 0x7f (λ e. n (l.lies.last_is ∙ e)))

    pub ends-whole : last ≡ 0x7f → AllPassed text rest t bytes
    ends-whole e = record { load = l.load; sound = l.lies.sound; held = l.lies.held; bounded = l.bounded; ended = sym l.lies.last_is ∙ e; passed = loading_ends }
