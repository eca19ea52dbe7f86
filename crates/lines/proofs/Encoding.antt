-- Laws of encoding: the state of the loop over the bytes, what a caller learns, and that a line of bytes is read back.
-- Assumes nothing.
use mathlib.Core.Path.{◌≡◌, ◌∙◌, refl, sym}
use mathlib.Core.Bool.{true}
use mathlib.Core.List.{List, [], ◌∷◌, ◌++◌, append-nil, append_assoc}
use Prim.Native.Nat.{ℕ, suc, ◌+◌, ◌*◌, ◌/◌, ◌%◌, ◌≤◌, ◌<◌}
use native.Mathlib.Numerals.{add-one}
use native.Mathlib.Omega.{arith}
use borrow.Author.Tests.{le-leb, lt-leb, le-ltb}
use lib.ListN.{length, get_or, drop, set, length-set, length-append, drop_of_length-le}
use lib.Seq.{drop-cons}
use Rattle.lines.specs.Line.{pair_value, hex_pairs, good_line, bytes_of, digit_of, hex_of, line_of, Bytes, in_front, encoded, EncodedAs}
use Rattle.lines.proofs.Rooms.{in_front_more}
use Rattle.lines.proofs.Values.{digit_value}

hex_of-length : (bytes : List ℕ) → length (hex_of bytes) ≡ 2 * length bytes
unfolding hex_of
hex_of-length [] = refl
hex_of-length (b ∷ bs) = omega (arith, hex_of-length bs)

pub line_of-length : (bytes : List ℕ) → length (line_of bytes) ≡ 2 * length bytes + 1
unfolding line_of
line_of-length bytes = length-append (hex_of bytes) (10 ∷ []) ∙ rw (hex_of-length bytes)

-- the line fits the room, or it does not
module _ (bytes room : List ℕ) where
  pub encoded-fits : 2 * length bytes + 1 ≤ length room → EncodedAs bytes room (2 * length bytes + 1) (in_front (line_of bytes) room)
  unfolding encoded
  encoded-fits h =
      let fits = le-leb (length (line_of bytes)) (length room) (omega (arith, line_of-length bytes)) in
      record { size = simp fits (sym (line_of-length bytes)); room = simp fits }

  pub encoded_lacks : length room < 2 * length bytes + 1 → EncodedAs bytes room 0 room
  unfolding encoded
  encoded_lacks h =
      let lacks = lt-leb (length (line_of bytes)) (length room) (omega (arith, line_of-length bytes)) in
      record { size = simp lacks; room = simp lacks }

  -- one outcome is possible
  pub encoded_one : {m n : ℕ} {after later : List ℕ} → EncodedAs bytes room m after → EncodedAs bytes room n later → (m ≡ n) × (after ≡ later)
  encoded_one e f = (e.size ∙ sym f.size, e.room ∙ sym f.room)

-- the digits of i bytes are written: `done`, in front of the room
pub record Encoding (bytes before room : List ℕ) (i k : ℕ) : Type 0 where
  pub done : List ℕ
  pub count : k ≡ length done
  pub twice : k ≡ i + i
  pub within : i ≤ length bytes
  pub fits : 2 * length bytes + 1 ≤ length before
  pub long : length room ≡ length before
  pub digits : hex_of bytes ≡ done ++ hex_of (drop i bytes)
  pub held : room ≡ in_front done before

pub encoding_starts : (bytes room : List ℕ) → 2 * length bytes + 1 ≤ length room → Encoding bytes room room 0 0
encoding_starts bytes room h =
    record { done = []; count = refl; twice = refl; within = omega arith; fits = h; long = refl; digits = refl; held = refl }

module _ (bytes before room : List ℕ) (i k : ℕ) (e : Encoding bytes before room i k) where
  -- the digits of one byte more
  pub encoding_goes_on : {high low : ℕ} → i < length bytes → high ≡ digit_of (get_or bytes i 0 / 16) → low ≡ digit_of (get_or bytes i 0 % 16) →
      Encoding bytes before (set (set room k high) (k + 1) low) (i + 1) (k + 2)
  unfolding hex_of
  encoding_goes_on {high} {low} h p q =
      let one : length (e.done ++ high ∷ []) ≡ k + 1 = rw length-append (omega arith) in
      record {
        done = (e.done ++ high ∷ []) ++ low ∷ [];
        count = simp length-append (omega arith);
        twice = omega arith;
        within = omega arith;
        fits = e.fits;
        long = simp length-set e.long;
        digits = e.digits ∙ rw (drop-cons bytes i 0 h, add-one i, ← p, ← q) (simp append_assoc);
        held =
            rw (e.held, e.count, in_front_more e.done before high (omega arith), ← e.count, ← one)
            (in_front_more (e.done ++ high ∷ []) before low (omega arith));
      }

  -- all bytes are written, and an LF
  pub encoding_ends : length bytes ≤ i → EncodedAs bytes before (2 * length bytes + 1) (set room k 10)
  unfolding line_of hex_of
  encoding_ends h =
      let all : hex_of bytes ≡ e.done = e.digits ∙ rw (drop_of_length-le bytes {i = i} h) (append-nil e.done) in
      rw (e.held, e.count, in_front_more e.done before 10 (omega arith), ← all) (encoded-fits bytes before e.fits)

-- two digits stand for their byte
pair_digits : (b : ℕ) → b < 256 → pair_value (digit_of (b / 16)) (digit_of (b % 16)) ≡ b
unfolding pair_value
pair_digits b h = rw (digit_value (b / 16) (omega arith), digit_value (b % 16) (omega arith)) (simp (le-ltb 15 (b / 16) (omega arith), le-ltb 15 (b % 16) (omega arith)) (omega arith))

pub bytes-line_of : (bytes : List ℕ) → Bytes bytes → bytes_of (line_of bytes) ≡ bytes
unfolding bytes_of line_of hex_of
bytes-line_of [] h = refl
bytes-line_of (b ∷ bs) h = rw (pair_digits b (h 0), bytes-line_of bs (λ i. h (suc i)))

pairs-line_of : (bytes : List ℕ) → Bytes bytes → hex_pairs (line_of bytes) ≡ true
unfolding hex_pairs line_of hex_of
pairs-line_of [] h = refl
pairs-line_of (b ∷ bs) h = rw (pair_digits b (h 0)) (simp (le-leb b 255 (omega (arith, h 0))) (pairs-line_of bs (λ i. h (suc i))))

pub good-line_of : (bytes : List ℕ) → Bytes bytes → 1 ≤ length bytes → length bytes ≤ 80 → good_line (line_of bytes) ≡ true
unfolding good_line
good-line_of bytes h some most =
    let l = line_of-length bytes in
    simp (le-leb 3 (length (line_of bytes)) (omega arith), le-leb (length (line_of bytes)) 161 (omega arith), pairs-line_of bytes h)
