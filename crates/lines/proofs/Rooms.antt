-- Laws of rooms: bytes 0, and bytes that are written in front of what a room held, one after the other.
-- Assumes nothing.
use mathlib.Core.Path.{◌≡◌, refl, sym}
use mathlib.Core.List.{List, [], ◌∷◌, ◌++◌}
use Prim.Native.Nat.{ℕ, zero, suc, ◌+◌, ◌-◌, ◌<◌}
use native.Mathlib.Nat.{sub-zero, zero-sub, suc-sub-suc}
use native.Mathlib.Numerals.{add-one}
use lib.ListN.{length, get_or, drop, set, length-append, length-replicate, replicate-append-replicate}
use lib.Seq.{drop-cons, set-append_seam, append_snoc}
use Rattle.lines.specs.Line.{zeros, in_front}

pub length-zeros : (n : ℕ) → length (zeros n) ≡ n
unfolding zeros
length-zeros n = length-replicate n 0

pub zeros-add : (m n : ℕ) → zeros m ++ zeros n ≡ zeros (m + n)
unfolding zeros
zeros-add m n = replicate-append-replicate m n 0

pub drop-zeros : (m n : ℕ) → drop m (zeros n) ≡ zeros (n - m)
unfolding zeros
drop-zeros zero n = rw sub-zero
drop-zeros (suc m) zero = rw zero-sub
drop-zeros (suc m) (suc n) = rw suc-sub-suc (drop-zeros m n)

pub get_or-zeros : (n i : ℕ) → get_or (zeros n) i 0 ≡ 0
unfolding zeros
get_or-zeros zero i = refl
get_or-zeros (suc n) zero = refl
get_or-zeros (suc n) (suc i) = get_or-zeros n i

-- past the bytes there is 0, as past the end
pub get_or-filled : (bytes : List ℕ) (n i : ℕ) → get_or (bytes ++ zeros n) i 0 ≡ get_or bytes i 0
get_or-filled [] n i = get_or-zeros n i
get_or-filled (b ∷ bs) n zero = refl
get_or-filled (b ∷ bs) n (suc i) = get_or-filled bs n i

-- one byte more in front
pub in_front_more : (bytes room : List ℕ) (b : ℕ) → length bytes < length room → set (in_front bytes room) (length bytes) b ≡ in_front (bytes ++ b ∷ []) room
in_front_more bytes room b h =
    rw (drop-cons room (length bytes) 0 h, set-append_seam, length-append, add-one (length bytes)) (sym (append_snoc bytes b _))
