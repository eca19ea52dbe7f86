-- Hexadecimal lines (document 01, "The policy as hexadecimal lines"): lowercase digits, each line ended by LF, at most 160 digits.
-- Assumes nothing.
use Rattle.std.specs.Prelude.{◌≡◌, Bool, false, cond, ◌&&◌, List, [], ◌∷◌, ◌++◌, ℕ, suc, ◌+◌, ◌-◌, ◌*◌, ◌/◌, ◌%◌, ◌<◌, leb, ltb, eqb, length, get_or, take, drop, replicate}
use Rattle.lines.specs.declared.Frame.{Frame}

-- A digit's value (0 to 9 are the bytes 48 to 57, a to f the bytes 97 to 102), or 16 for a byte that is no digit.
unfoldable pub hex_value : ℕ → ℕ
hex_value b = cond (ltb b 48) 16 (cond (leb b 57) (b - 48) (cond (ltb b 97) 16 (cond (leb b 102) (b - 87) 16)))

-- The byte that two digits stand for, or 256 where one of them is no digit.
unfoldable pub pair_value : ℕ → ℕ → ℕ
pair_value a b = cond (ltb 15 (hex_value a)) 256 (cond (ltb 15 (hex_value b)) 256 (hex_value a * 16 + hex_value b))

-- A table of the digits' values by their bytes, with 256 for a byte that is no digit.
pub record Digits (values : List ℕ) : Type 0 where
  pub long : length values ≡ 256
  pub is : (b : ℕ) → b < 256 → get_or values b 0 ≡ cond (ltb (hex_value b) 16) (hex_value b) 256

-- The length of a text's first line: the bytes up to the first LF, and that LF where there is one.
unfoldable pub line_length : List ℕ → ℕ
line_length [] = 0
line_length (b ∷ bs) = cond (eqb b 10) 1 (suc (line_length bs))

-- A text's first line.
abbrev pub first_line : List ℕ → List ℕ
first_line text = take (line_length text) text

-- One byte in front of the first line.
unfoldable pub prepend : ℕ → List (List ℕ) → List (List ℕ)
prepend b [] = (b ∷ []) ∷ []
prepend b (l ∷ ls) = (b ∷ l) ∷ ls

-- The lines of a text, each with its LF; the last one may lack it.
unfoldable pub lines_of : List ℕ → List (List ℕ)
lines_of [] = []
lines_of (b ∷ bs) = cond (eqb b 10) ((b ∷ []) ∷ lines_of bs) (prepend b (lines_of bs))

-- Pairs of digits, then LF and nothing more.
unfoldable pub hex_pairs : List ℕ → Bool
hex_pairs [] = false
hex_pairs (a ∷ []) = eqb a 10
hex_pairs (a ∷ (b ∷ l)) = leb (pair_value a b) 255 && hex_pairs l

-- A line that is not refused with 7: 2 to 160 digits, in pairs, then LF.
unfoldable pub good_line : List ℕ → Bool
good_line l = leb 3 (length l) && (leb (length l) 161 && hex_pairs l)

-- The bytes that a good line stands for.
unfoldable pub bytes_of : List ℕ → List ℕ
bytes_of [] = []
bytes_of (a ∷ []) = []
bytes_of (a ∷ (b ∷ l)) = pair_value a b ∷ bytes_of l

-- This many bytes 0.
unfoldable pub zeros : ℕ → List ℕ
zeros n = replicate n 0

-- A frame of at most 80 bytes: these bytes, zero filled to 80, and how many they are.
unfoldable pub frame_of : List ℕ → Frame
frame_of bytes = record { size = length bytes; bytes = bytes ++ zeros (80 - length bytes) }

-- The frame of a good line; of any other line a frame of no bytes, so that size 0 says refusal 7.
unfoldable pub decoded : List ℕ → Frame
decoded line = frame_of (cond (good_line line) (bytes_of line) [])

-- Decoding a line into 80 bytes 0: the frame's size, and where that is not 0 the frame's bytes.
pub record DecodedInto (line : List ℕ) (size : ℕ) (bytes : List ℕ) : Type 0 where
  pub none : size ≡ 0 → decoded line ≡ frame_of []
  pub whole : (size ≡ 0 → ⊥) → record { size = size; bytes = bytes } ≡ decoded line

-- The lowercase digit of a value below 16.
unfoldable pub digit_of : ℕ → ℕ
digit_of v = cond (ltb v 10) (v + 48) (v + 87)

-- Two digits for each byte.
unfoldable pub hex_of : List ℕ → List ℕ
hex_of [] = []
hex_of (b ∷ bs) = digit_of (b / 16) ∷ (digit_of (b % 16) ∷ hex_of bs)

-- The line of these bytes.
unfoldable pub line_of : List ℕ → List ℕ
line_of bytes = hex_of bytes ++ 10 ∷ []

-- Each of these numbers is a byte.
abbrev pub Bytes : List ℕ → Type 0
Bytes bytes = (i : ℕ) → get_or bytes i 0 < 256

-- These bytes in front of a room, and the rest of it kept.
abbrev pub in_front : List ℕ → List ℕ → List ℕ
in_front bytes room = bytes ++ drop (length bytes) room

-- What a room holds after: the line of these bytes in front where it fits, else what it held.
unfoldable pub encoded : List ℕ → List ℕ → List ℕ
encoded bytes room = cond (leb (length (line_of bytes)) (length room)) (in_front (line_of bytes) room) room

-- Encoding into a room that held `before` answers the line's length, or 0 where it does not fit, and leaves `after`.
pub record EncodedAs (bytes before : List ℕ) (answer : ℕ) (after : List ℕ) : Type 0 where
  pub size : answer ≡ cond (leb (length (line_of bytes)) (length before)) (length (line_of bytes)) 0
  pub room : after ≡ encoded bytes before
