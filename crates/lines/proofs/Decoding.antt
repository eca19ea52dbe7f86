-- Laws of decoding: the state of the loop over a line's pairs of digits, and what a good line and its frame are.
-- Assumes nothing.
use mathlib.Core.Path.{◌≡◌, ◌∙◌, refl, sym, ap}
use mathlib.Core.Bool.{Bool, true, false, cond, ◌&&◌, false≢true, and-false, and-eq-true_iff}
use mathlib.Core.List.{List, [], ◌∷◌, ◌++◌, append-nil, append_assoc}
use Prim.Native.Nat.{ℕ, zero, suc, ◌+◌, ◌-◌, ◌*◌, ◌≤◌, ◌<◌}
use native.Mathlib.Nat.{add-zero, add_assoc}
use native.Mathlib.Numerals.{add-one}
use native.Mathlib.Decide.{dec_lt}
use native.Mathlib.Omega.{arith}
use borrow.Author.Tests.{le-leb, lt-leb, leb-true, eqb-true, eqb-false, ne_eqb}
use lib.Dec.{leb, ltb, eqb}
use lib.ListN.{length, get_or, take, drop, set, length-append, length-drop}
use lib.Seq.{drop-cons, get_or-drop}
use Rattle.lines.specs.declared.Frame.{Frame}
use Rattle.lines.specs.Line.{line_length, first_line, hex_value, hex_pairs, good_line, bytes_of, pair_value, zeros, frame_of, decoded, DecodedInto, Bytes, in_front}
use Rattle.lines.proofs.Lines.{first-length}
use Rattle.lines.proofs.Rooms.{length-zeros, drop-zeros, get_or-filled, in_front_more}

-- k bytes of a text are read, each a digit of its first line: `done` are the bytes of their pairs, and stand in front of the frame
pub record Decoding (text frame : List ℕ) (i k : ℕ) : Type 0 where
  pub done : List ℕ
  pub count : i ≡ length done
  pub twice : k ≡ i + i
  pub most : i ≤ 80
  pub pairs : hex_pairs (first_line text) ≡ hex_pairs (first_line (drop k text))
  pub bytes : bytes_of (first_line text) ≡ done ++ bytes_of (first_line (drop k text))
  pub span : line_length text ≡ k + line_length (drop k text)
  pub held : frame ≡ in_front done (zeros 80)

pub decoding_starts : (text : List ℕ) → Decoding text (zeros 80) 0 0
decoding_starts text = record {
  done = [];
  count = refl;
  twice = refl;
  most = omega arith;
  pairs = refl;
  bytes = refl;
  span = omega arith;
  held = refl;
}

-- a line's length and its pairs decide
module _ (line : List ℕ) where
  too_short : length line < 3 → good_line line ≡ false
  unfolding good_line
  too_short h = simp (lt-leb 3 _ h)

  pub too_long : 161 < length line → good_line line ≡ false
  unfolding good_line
  too_long h = simp (le-leb 3 (length line) (omega arith), lt-leb _ 161 h)

  bad_pairs : hex_pairs line ≡ false → good_line line ≡ false
  unfolding good_line
  bad_pairs e = simp (e, and-false)

  good_pairs : 3 ≤ length line → length line ≤ 161 → hex_pairs line ≡ true → good_line line ≡ true
  unfolding good_line
  good_pairs g h e = simp (le-leb _ _ g, le-leb _ _ h, e)

  pub decoded_bad : good_line line ≡ false → decoded line ≡ frame_of []
  unfolding decoded
  decoded_bad e = simp e

  decoded-none : (bytes : List ℕ) → good_line line ≡ false → DecodedInto line 0 bytes
  decoded-none bytes e = record { none = λ z. decoded_bad e; whole = λ n. absurd (n refl) }

  decoded_good : good_line line ≡ true → decoded line ≡ frame_of (bytes_of line)
  unfolding decoded
  decoded_good e = simp e

-- LF is no digit
high_lf : (b : ℕ) → pair_value 10 b ≡ 256
unfolding pair_value hex_value
high_lf b = refl

low_lf : (a : ℕ) → pair_value a 10 ≡ 256
unfolding pair_value hex_value
low_lf a = go (ltb 15 (hex_value a))
  where
    go : (t : Bool) → ◌≡◌ {A = ℕ} (cond t 256 256) 256
    go true = refl
    go false = refl

-- a first line that LF begins, and one that another byte begins
first_lf : (s : List ℕ) → get_or s 0 0 ≡ 10 → first_line s ≡ 10 ∷ []
unfolding line_length
first_lf [] e = absurd (omega arith)
first_lf (a ∷ r) e = rw e

first_one : (s : List ℕ) → length s ≤ 1 → (get_or s 0 0 ≡ 10 → ⊥) → hex_pairs (first_line s) ≡ false
unfolding line_length hex_pairs
first_one [] h n = refl
first_one (a ∷ []) h n = simp (ne_eqb a 10 n)
first_one (a ∷ (b ∷ r)) h n = absurd (omega arith)

module _ (a b : ℕ) (r : List ℕ) where
  first_two : (a ≡ 10 → ⊥) → first_line (a ∷ (b ∷ r)) ≡ a ∷ (b ∷ take (cond (eqb b 10) 0 (line_length r)) r)
  unfolding line_length
  first_two n = rw (ne_eqb a 10 n) (go (eqb b 10))
    where
      go : (t : Bool) → take (suc (cond t 1 (suc (line_length r)))) (a ∷ (b ∷ r)) ≡ a ∷ (b ∷ take (cond t 0 (line_length r)) r)
      go true = refl
      go false = refl

  -- which a pair of digits does: the rest of the line is what the pair leaves of the text
  first_pair : pair_value a b ≤ 255 → first_line (a ∷ (b ∷ r)) ≡ a ∷ (b ∷ first_line r)
  first_pair h =
      first_two (λ e. omega (arith, high_lf b, rw e at h)) ∙ rw (ne_eqb b 10 (λ e. omega (arith, low_lf a, rw e at h)))

-- what is left of a list that has two elements more
two_more : (s : List ℕ) (k : ℕ) → k + 1 < length s → drop k s ≡ get_or s k 0 ∷ (get_or s (k + 1) 0 ∷ drop (k + 2) s)
two_more s k h = drop-cons s k 0 (omega arith) ∙ rw (← add-one k, drop-cons s (k + 1) 0, ← add-one (k + 1), add_assoc)

module _ (text frame : List ℕ) (i k : ℕ) (d : Decoding text frame i k) where
  -- the value v of the pair at k is a byte, which is stored
  pub decoding_goes_on : {v : ℕ} → k + 1 < length text → i < 80 → v ≡ pair_value (get_or text k 0) (get_or text (k + 1) 0) → v ≤ 255 →
      Decoding text (set frame i v) (i + 1) (k + 2)
  unfolding hex_pairs bytes_of
  decoding_goes_on {v} h room e small =
      let more : first_line (drop k text) ≡ get_or text k 0 ∷ (get_or text (k + 1) 0 ∷ first_line (drop (k + 2) text)) =
      rw (two_more text k h) (first_pair (get_or text k 0) (get_or text (k + 1) 0) (drop (k + 2) text) (omega arith)) in
      record {
        done = d.done ++ v ∷ [];
        count = rw length-append (omega arith);
        twice = omega arith;
        most = omega arith;
        pairs = d.pairs ∙ rw (more, ← e) (simp (le-leb _ _ small));
        bytes = d.bytes ∙ rw (more, ← e) (simp append_assoc);
        span = omega (arith, ap length more, first-length (drop k text), first-length (drop (k + 2) text));
        held = rw (d.held, d.count) (in_front_more d.done (zeros 80) v (omega (arith, length-zeros 80)));
      }

  here : get_or (drop k text) 0 0 ≡ get_or text k 0
  here = rw (get_or-drop, add-zero)

  long : length (first_line text) ≡ k + length (first_line (drop k text))
  long = omega (arith, first-length text, first-length (drop k text))

  -- LF stands at k: i bytes, which are too few where i is 0
  decoding_ends : get_or text k 0 ≡ 10 → DecodedInto (first_line text) i frame
  unfolding hex_pairs bytes_of frame_of
  decoding_ends e =
      let lf : first_line (drop k text) ≡ 10 ∷ [] = first_lf (drop k text) (here ∙ e) in
      let all : bytes_of (first_line text) ≡ d.done = d.bytes ∙ rw lf (append-nil d.done) in
      let size : length (first_line text) ≡ k + 1 = long ∙ rw lf in
      record {
        none = λ z. decoded_bad (first_line text) (too_short (first_line text) (omega arith));
        whole = λ n.
            let good : good_line (first_line text) ≡ true = good_pairs (first_line text) (omega arith) (omega arith) (d.pairs ∙ rw lf) in
            rw (decoded_good (first_line text) good, all, d.count, d.held, drop-zeros);
      }

  -- no pair of digits goes on at k, within 160 digits
  module _ (stops : k + 1 < length text → k < 160 → 255 < pair_value (get_or text k 0) (get_or text (k + 1) 0)) where
    -- nor does LF stand there
    decoding_fails : (get_or text k 0 ≡ 10 → ⊥) → good_line (first_line text) ≡ false
    unfolding hex_pairs
    decoding_fails n = go (dec_lt (k + 1) (length text)) (dec_lt k 160)
      where
        rest : List ℕ
        rest = drop (k + 2) text

        two : k + 1 < length text → first_line (drop k text) ≡ get_or text k 0 ∷ (get_or text (k + 1) 0 ∷ take (cond (eqb (get_or text (k + 1) 0) 10) 0 (line_length rest)) rest)
        two h = rw (two_more text k h) (first_two (get_or text k 0) (get_or text (k + 1) 0) rest n)

        go : Dec (k + 1 < length text) → Dec (k < 160) → good_line (first_line text) ≡ false
        go (no m) l = bad_pairs (first_line text) (d.pairs ∙ first_one (drop k text) (rw length-drop (omega arith)) (λ e. n (sym here ∙ e)))
        go (yes h) (yes l) = bad_pairs (first_line text) (d.pairs ∙ rw (two h, lt-leb _ _ (stops h l)))
        go (yes h) (no m) = too_long (first_line text) (omega (arith, long, ap length (two h)))

    pub decoding_answers : {r : ℕ} → r ≡ cond (eqb (get_or text k 0) 10) i 0 → DecodedInto (first_line text) r frame
    decoding_answers e = rw e (go (eqb (get_or text k 0) 10) refl)
      where
        go : (t : Bool) → eqb (get_or text k 0) 10 ≡ t → DecodedInto (first_line text) (cond t i 0) frame
        go true q = decoding_ends (eqb-true _ _ q)
        go false q = decoded-none (first_line text) frame (decoding_fails (eqb-false _ _ q))

-- pairs of digits and an LF: the length is odd, and each pair is a byte
pairs-length : (l : List ℕ) → hex_pairs l ≡ true → length l ≡ 2 * length (bytes_of l) + 1
unfolding hex_pairs bytes_of
pairs-length [] g = absurd (false≢true g)
pairs-length (a ∷ []) g = refl
pairs-length (a ∷ (b ∷ l)) g = omega (arith, pairs-length l ((and-eq-true_iff (leb (pair_value a b) 255) (hex_pairs l)).0 g).1)

pairs_small : (l : List ℕ) → hex_pairs l ≡ true → Bytes (bytes_of l)
unfolding hex_pairs bytes_of
pairs_small [] g i = absurd (false≢true g)
pairs_small (a ∷ []) g i = omega arith
pairs_small (a ∷ (b ∷ l)) g zero = omega (arith, leb-true (pair_value a b) 255 ((and-eq-true_iff (leb (pair_value a b) 255) (hex_pairs l)).0 g).0)
pairs_small (a ∷ (b ∷ l)) g (suc i) = pairs_small l ((and-eq-true_iff (leb (pair_value a b) 255) (hex_pairs l)).0 g).1 i

-- a good line and the count of its bytes
pub record Sized (line : List ℕ) : Type 0 where
  pub long : length line ≡ 2 * length (bytes_of line) + 1
  pub some : 1 ≤ length (bytes_of line)
  pub most : length (bytes_of line) ≤ 80

module _ (line : List ℕ) (g : good_line line ≡ true) where
  good_parts : (3 ≤ length line) × (length line ≤ 161) × (hex_pairs line ≡ true)
  unfolding good_line
  good_parts =
      let p = (and-eq-true_iff (leb 3 (length line)) (leb (length line) 161 && hex_pairs line)).0 g in
      let q = (and-eq-true_iff (leb (length line) 161) (hex_pairs line)).0 p.1 in
      (leb-true _ _ p.0, leb-true _ _ q.0, q.1)

  pub half_length : Sized line
  half_length =
      let p = good_parts in
      let l = pairs-length line p.2 in
      record { long = l; some = omega arith; most = omega arith }

  pub bytes_small : Bytes (bytes_of line)
  bytes_small = pairs_small line good_parts.2

-- `frame` is the frame of a good line
pub record Framed (line : List ℕ) (frame : Frame) : Type 0 where
  pub good : good_line line ≡ true
  pub sized : Sized line
  pub size : frame.size ≡ length (bytes_of line)
  pub bytes : frame.bytes ≡ bytes_of line ++ zeros (80 - length (bytes_of line))
  pub long : length frame.bytes ≡ 80
  pub byte : (i : ℕ) → get_or frame.bytes i 0 ≡ get_or (bytes_of line) i 0

module _ (line : List ℕ) (frame : Frame) (e : frame ≡ decoded line) where
  -- any size but 0, which says refusal 7: a good line
  pub size_good : (frame.size ≡ 0 → ⊥) → Framed line frame
  unfolding frame_of
  size_good n = go (good_line line) refl
    where
      go : (t : Bool) → good_line line ≡ t → Framed line frame
      go true g =
          let s = half_length line g in
          rw (e, decoded_good line g)
          (record {
            good = g;
            sized = s;
            size = refl;
            bytes = refl;
            long = simp (length-append, length-zeros) (omega arith);
            byte = get_or-filled (bytes_of line) _;
          })
      go false g = absurd (n (rw (e, decoded_bad line g)))
