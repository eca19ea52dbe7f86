-- One line: its refusal, and what is held after it.
-- Assumes nothing.
use mathlib.Core.Path.{◌≡◌, ◌∙◌, refl, sym}
use mathlib.Core.List.{List}
use Prim.Native.Nat.{ℕ, ◌+◌, ◌*◌, ◌≤◌}
use native.Mathlib.Omega.{arith}
use borrow.Author.Tests.{ne_eqb}
use lib.ListN.{length}
use Rattle.lines.specs.declared.Frame.{Frame}
use Rattle.lines.specs.Line.{line_length, first_line, decoded}
use Rattle.lines.proofs.Lines.{line_within, first-length}
use Rattle.lines.proofs.Decoding.{Framed, size_good}
use Rattle.gran.specs.Policy.{Policy}
use Rattle.store.specs.declared.Tally.{Tally}
use Rattle.store.specs.Held.{Holds}
use Rattle.policy.specs.Frames.{byte_at}
use Rattle.policy.specs.Load.{Load, add, after, frame_refusal, refusal_of}
use Rattle.policy.specs.Sound.{SoundPolicy, Roomy}
use Rattle.policy.proofs.Refusals.{taken}
use Rattle.policy.proofs.Loads.{sound_line}
use Rattle.policy.proofs.Room.{roomy, text_line}
use Rattle.judge.specs.Noted.{Noted}
use Rattle.std.specs.Prelude.{Ok, Err}
use Rattle.policy.specs.Refused.{refusal_number}
use Rattle.policy.specs.declared.refusal.Refusal.{Refusal}
use Rattle.policy.specs.declared.refusal.Refusal.TheVariants.{BadLine}
use Rattle.load.specs.declared.Step.{Step}
use Rattle.load.specs.Step.{Ready, FrameAdded, Lies, CanRead, LineRead}
use Rattle.load.proofs.Room.{ready}

-- a line whose frame has no byte, and one whose frame is judged
line_bad : (s : Load) (line : List ℕ) → (decoded line).size ≡ 0 → refusal_of s line ≡ 7
unfolding refusal_of
line_bad s line z = rw z

line_good : (s : Load) (line : List ℕ) → ((decoded line).size ≡ 0 → ⊥) → refusal_of s line ≡ frame_refusal s (decoded line)
unfolding refusal_of
line_good s line n = rw (ne_eqb _ _ n)

pub refused-7 : (t : Tally) (last lines : ℕ) (text before marks : List ℕ) → (decoded (first_line text)).size ≡ 0 → LineRead t last lines text before marks (Err BadLine) before marks
refused-7 t last lines text before marks z = record { kept = refl; lowest = λ s rest l. sym (line_bad s (first_line text) z); passed = tt; same = refl }

module _ (text : List ℕ) (frame : Frame) (framed : frame ≡ decoded (first_line text)) (some : frame.size ≡ 0 → ⊥) where
  frame-whole : Framed (first_line text) frame
  frame-whole = size_good (first_line text) frame framed some

  pub frame_sized : (1 ≤ frame.size) × (frame.size ≤ length frame.bytes)
  frame_sized = (omega (arith, frame-whole.size, frame-whole.sized.some), omega (arith, frame-whole.size, frame-whole.sized.most, frame-whole.long))

  -- two digits a byte, and LF
  frame_span : 2 * frame.size + 1 ≡ line_length text
  frame_span = omega (arith, frame-whole.size, frame-whole.sized.long, first-length text)

  module _ (t : Tally) (last lines : ℕ) (before marks : List ℕ) (number : ℕ) (judged : (P : Policy) (rest : List ℕ) → SoundPolicy P → Holds P rest t before → Noted P marks → number ≡ frame_refusal (record { policy = P; last = last; lines = lines }) frame) where
    lowest : (s : Load) (rest : List ℕ) → Lies s rest t last lines before marks → number ≡ refusal_of s (first_line text)
    lowest s rest l = rw (l.last_is, l.lines_is, framed) at (judged s.policy rest l.sound.policy l.held l.noted) ∙ sym (line_good s (first_line text) (rw framed at some))

    pub refused-by : (r : Refusal) → refusal_number r ≡ number → LineRead t last lines text before marks (Err r) before marks
    refused-by r e = record { kept = refl; lowest = λ s rest l. e ∙ lowest s rest l; passed = tt; same = refl }

    module _ (passes : number ≡ 0) where
      zero_at : (s : Load) (rest : List ℕ) → Lies s rest t last lines before marks → refusal_of s (first_line text) ≡ 0
      zero_at s rest l = sym (lowest s rest l) ∙ passes

      pub can-add : CanRead t last lines text before marks → Ready t frame
      unfolding after
      can-add can =
          let s = can.load in
          let z = zero_at s can.rest can.lies in
          let k = taken s (first_line text) z in
          let grown = sound_line s (first_line text) can.lies.sound z in
          let room : Roomy (add s.policy (decoded (first_line text))) =
          roomy _ grown.policy (omega (arith, text_line s (first_line text) z, first-length text, line_within text, can.short)) in
          rw framed (ready s (decoded (first_line text)) can.lies.sound k.bytes k.passed room can.rest t before can.lies.held can.bounded (rw framed at frame_sized.0) (rw framed at frame_sized.1))

      pub line_added : CanRead t last lines text before marks → (step : Step) → step.size ≡ 2 * frame.size + 1 → step.last ≡ byte_at frame 0 → (left noted : List ℕ) → FrameAdded frame t before step.tally left
          → ((P : Policy) → Noted P marks → Noted (add P frame) noted) → LineRead t last lines text before marks (Ok step) left noted
      unfolding after
      line_added can step long is left noted a notes = record {
        kept = a.kept;
        lowest = λ s rest l. sym (zero_at s rest l);
        passed = record {
          span = long ∙ frame_span;
          bounded = rw a.tally (can-add can).bounded;
          lies = λ s rest l.
              let z = zero_at s rest l in
              let k = taken s (first_line text) z in
              record {
                held = (rw framed at a.held) s rest l.sound k.bytes (sym (line_good s (first_line text) (rw framed at some)) ∙ z) l.held;
                noted = (rw framed at notes) s.policy l.noted;
                sound = sound_line s (first_line text) l.sound z;
                last_is = is ∙ rw framed;
                lines_is = rw l.lines_is;
              };
        };
        same = tt;
      }
