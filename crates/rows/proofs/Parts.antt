-- Laws of a part of a whole: where it lies, what is read from it, and what is left where it is replaced.
-- Assumes nothing.
use mathlib.Core.Path.{◌≡◌, ◌∙◌, refl, sym}
use mathlib.Core.List.{List, [], ◌∷◌, ◌++◌, map, append_assoc}
use Prim.Native.Nat.{ℕ, zero, suc, ◌+◌, ◌≤◌, ◌<◌}
use native.Mathlib.Nat.{not-suc-le-zero, le_of_suc-le-suc}
use native.Mathlib.Omega.{arith}
use lib.ListN.{length, get_or, take, drop, set, length-append, length-take, length-drop, take-append-drop, get_or-append}
use lib.Seq.{paste, set-get_or, map-set_same, drop-drop, take_at, drop_at, get_or-append-add}
use Rattle.rows.specs.Rows.{joined, replaced, written}
use Rattle.rows.proofs.Tables.{map_at}

-- ---- a part of a whole, from a on, k bytes long

pub part-replaced : (p r q new : List ℕ) (a k : ℕ) → length p ≡ a → length r ≡ k → replaced a k new (p ++ (r ++ q)) ≡ p ++ (new ++ q)
part-replaced p r q new a k e f = rw (take_at p (r ++ q) a e, drop_at p (r ++ q) a e, drop_at r q k f)

pub part_lent : (p r q : List ℕ) (a k : ℕ) → length p ≡ a → length r ≡ k → take k (drop a (p ++ (r ++ q))) ≡ r
part_lent p r q a k e f = rw (drop_at p (r ++ q) a e, take_at r q k f)

pub part_at : (p r q : List ℕ) (a i : ℕ) → length p ≡ a → i < length r → get_or (p ++ (r ++ q)) (a + i) 0 ≡ get_or r i 0
part_at p r q a i e h = rw (← e, get_or-append-add p (r ++ q) i 0) (get_or-append r q 0 i h)

pub part_length : (a k : ℕ) (xs : List ℕ) → a + k ≤ length xs → length (take k (drop a xs)) ≡ k
part_length a k xs h = simp (length-take, length-drop) (omega arith)

-- ---- a whole made of parts

-- Where part n begins, by the parts' sizes.
abbrev pub begin : List ℕ → ℕ → ℕ
begin sizes zero = 0
begin [] (suc n) = 0
begin (s ∷ sizes) (suc n) = s + begin sizes n

-- A part lies in a whole: its place, its size, its bytes.
pub record Lies (bytes : List ℕ) (at size : ℕ) (part : List ℕ) : Type 0 where
  pub long : length part ≡ size
  pub within : at + size ≤ length bytes
  pub lent : take size (drop at bytes) ≡ part
  pub read : (i : ℕ) → i < size → get_or bytes (at + i) 0 ≡ get_or part i 0

lies : (p r q : List ℕ) (at size : ℕ) → length p ≡ at → length r ≡ size → Lies (p ++ (r ++ q)) at size r
lies p r q at size e f = record {
  long = f;
  within = simp length-append (omega arith);
  lent = part_lent p r q at size e f;
  read = λ i h. part_at p r q at i e (omega arith);
}

-- the whole from the part's place on
pub lies-behind : {bytes : List ℕ} {at size : ℕ} {part : List ℕ} → Lies bytes at size part → drop at bytes ≡ part ++ drop (at + size) bytes
lies-behind {bytes} {at} {size} l = rw (← l.lent, ← drop-drop size at bytes) (sym (take-append-drop size (drop at bytes)))

-- the whole around part n
around : (parts : List (List ℕ)) (n : ℕ) (new : List ℕ) → n < length parts → joined (set parts n new) ≡ joined (take n parts) ++ (new ++ joined (drop (suc n) parts))
unfolding joined
around [] n new h = absurd (not-suc-le-zero h)
around (p ∷ parts) zero new h = refl
around (p ∷ parts) (suc n) new h = rw (around parts n new (le_of_suc-le-suc h), append_assoc p)

front : (parts : List (List ℕ)) (n : ℕ) → length (joined (take n parts)) ≡ begin (map length parts) n
unfolding joined
front parts zero = refl
front [] (suc n) = refl
front (p ∷ parts) (suc n) = length-append p (joined (take n parts)) ∙ rw (front parts n)

module _ (parts : List (List ℕ)) (sizes : List ℕ) (e : map length parts ≡ sizes) (n : ℕ) (h : n < length parts) where
  whole : joined parts ≡ joined (take n parts) ++ (get_or parts n [] ++ joined (drop (suc n) parts))
  whole = rw (set-get_or parts n []) at (around parts n (get_or parts n []) h)

  before : length (joined (take n parts)) ≡ begin sizes n
  before = rw (← e) (front parts n)

  size : length (get_or parts n []) ≡ get_or sizes n 0
  size = rw (← e) (sym (map_at length parts n [] 0 h))

  pub part_lies : Lies (joined parts) (begin sizes n) (get_or sizes n 0) (get_or parts n [])
  part_lies = rw whole (lies (joined (take n parts)) (get_or parts n []) (joined (drop (suc n) parts)) (begin sizes n) (get_or sizes n 0) before size)

  pub part_put : (new : List ℕ) → replaced (begin sizes n) (get_or sizes n 0) new (joined parts) ≡ joined (set parts n new)
  part_put new = rw (whole, around parts n new h) (part-replaced (joined (take n parts)) (get_or parts n []) (joined (drop (suc n) parts)) new (begin sizes n) (get_or sizes n 0) before size)

  pub part-written : (at : ℕ) (row : List ℕ) → written (begin sizes n) (get_or sizes n 0) at row (joined parts) ≡ joined (set parts n (paste (get_or parts n []) at row (length row)))
  part-written at row = rw part_lies.lent (part_put (paste (get_or parts n []) at row (length row)))

  pub part_sizes : (new : List ℕ) → length new ≡ get_or sizes n 0 → map length (set parts n new) ≡ sizes
  part_sizes new l = map-set_same length parts n new [] (l ∙ sym size) ∙ e
