-- What the tests of a frame that is not refused give.
-- Assumes nothing.
use mathlib.Core.Path.{◌≡◌, refl, sym, ◌∙◌}
use mathlib.Core.Logic.{◌⊎◌, inl, inr}
use mathlib.Core.Bool.{Bool, true, false, not, cond, ◌||◌, So, false≢true}
use mathlib.Core.List.{List}
use Prim.Native.Nat.{ℕ, suc, ◌+◌, ◌-◌, ◌*◌, ◌≤◌, ◌<◌}
use native.Mathlib.Omega.{arith}
use borrow.Author.Tests.{leb-true, ltb-false, eqb-false}
use lib.ListN.{length}
use lib.Dec.{eqb, leb, ltb}
use Rattle.paths.proofs.Bools.{decide, left, right, either, eqb-to}
use Rattle.lines.specs.declared.Frame.{Frame}
use Rattle.lines.specs.Line.{Bytes, decoded}
use Rattle.lines.proofs.Decoding.{bytes_small, size_good}
use Rattle.gran.specs.Policy.{no_id}
use Rattle.policy.specs.Frames.{type_of, number4, frame_table, fits_table, may_follow, in_range, is_second, is_full, miscounts}
use Rattle.policy.specs.Load.{Load, frame_refusal, refusal_of}

-- A frame passed every test.
pub record Passed (s : Load) (f : Frame) : Type 0 where
  pub fits : So (fits_table frame_table (type_of f) (f.size - 1))
  pub follows : So (may_follow s.last (type_of f))
  pub ranged : So (in_range s.policy f)
  pub new : is_second s.policy f ≡ false
  pub free : is_full s.policy f ≡ false
  pub counted : miscounts s.lines f ≡ false

-- A cascade of refusals that comes to 0 goes past its first test.
past_good : (b : Bool) (k n : ℕ) → cond (not b) (suc k) n ≡ 0 → So b × (n ≡ 0)
past_good true k n e = (refl, e)
past_good false k n e = absurd (omega arith)

past_bad : (b : Bool) (k n : ℕ) → cond b (suc k) n ≡ 0 → (b ≡ false) × (n ≡ 0)
past_bad true k n e = absurd (omega arith)
past_bad false k n e = (refl, e)

pub passed : (s : Load) (f : Frame) → frame_refusal s f ≡ 0 → Passed s f
unfolding frame_refusal
passed s f e =
    let p = past_good (fits_table frame_table (type_of f) (f.size - 1)) 7 _ e in
    let q = past_good (may_follow s.last (type_of f)) 8 _ p.1 in
    let r = past_good (in_range s.policy f) 9 _ q.1 in
    let t = past_bad (is_second s.policy f) 10 _ r.1 in
    let u = past_bad (is_full s.policy f) 11 _ t.1 in
    let v = past_bad (miscounts s.lines f) 12 0 u.1 in
    record { fits = p.0; follows = q.0; ranged = r.0; new = t.0; free = u.0; counted = v.0 }

-- A line that is not refused: its frame passed, the frame's bytes are bytes, and the line has two digits for each and LF.
pub record Taken (s : Load) (line : List ℕ) : Type 0 where
  pub passed : Passed s (decoded line)
  pub bytes : Bytes (decoded line).bytes
  pub long : length line ≡ 2 * (decoded line).size + 1

pub taken : (s : Load) (line : List ℕ) → refusal_of s line ≡ 0 → Taken s line
unfolding refusal_of
taken s line e =
    let p = past_bad (eqb (decoded line).size 0) 6 (frame_refusal s (decoded line)) e in
    let framed = size_good line (decoded line) refl (eqb-false (decoded line).size 0 p.0) in
    record { passed = passed s (decoded line) p.1; bytes = λ i. rw (framed.byte i) (bytes_small line framed.good i); long = omega (arith, framed.sized.long, framed.size) }

-- The last type and the next one, as numbers.
pub record Order (last type : ℕ) : Type 0 where
  pub below : (type ≡ 0x40 → ⊥) → (type ≡ 0x7f → ⊥) → last ≤ type
  pub grouped : 0x40 < type → (type ≡ 0x7f → ⊥) → 0x40 ≤ last

pub order : (last type : ℕ) → So (may_follow last type) → Order last type
unfolding may_follow
order last type t = go (decide (eqb last 0)) (decide (eqb type 0x01)) (decide (eqb type 0x40 || eqb type 0x7f)) (decide (ltb 0x40 type))
  where
    go : So (eqb last 0) ⊎ (eqb last 0 ≡ false) → So (eqb type 0x01) ⊎ (eqb type 0x01 ≡ false) → So (eqb type 0x40 || eqb type 0x7f) ⊎ ((eqb type 0x40 || eqb type 0x7f) ≡ false)
        → So (ltb 0x40 type) ⊎ (ltb 0x40 type ≡ false) → Order last type
    go (inl a) b c d =
        let first : last ≡ 0 = eqb-to last 0 a in
        let form : type ≡ 0x01 = eqb-to type 0x01 (rw a at t) in
        record { below = λ x y. omega arith; grouped = λ x y. omega arith }
    go (inr a) (inl b) c d = absurd (false≢true (rw (a, b) at t))
    go (inr a) (inr b) (inl c) d = cases (either (eqb type 0x40) _ c)
      where
        cases : So (eqb type 0x40) ⊎ So (eqb type 0x7f) → Order last type
        cases (inl e) = let is : type ≡ 0x40 = eqb-to type 0x40 e in record { below = λ x y. absurd (x is); grouped = λ x y. absurd (omega arith) }
        cases (inr e) = let is : type ≡ 0x7f = eqb-to type 0x7f e in record { below = λ x y. absurd (y is); grouped = λ x y. absurd (y is) }
    go (inr a) (inr b) (inr c) (inl d) =
        let u = rw (a, b, c, d) at t in
        record { below = λ x y. leb-true last type (right (leb 0x40 last) _ u); grouped = λ x y. leb-true 0x40 last (left _ _ u) }
    go (inr a) (inr b) (inr c) (inr d) =
        let u = rw (a, b, c, d) at t in
        record { below = λ x y. leb-true last type u; grouped = λ x y. absurd (omega (arith, ltb-false 0x40 type d)) }

-- A frame that passed follows the last type.
module _ (s : Load) (f : Frame) (p : Passed s f) where
  pub next : Order s.last (type_of f)
  next = order s.last (type_of f) p.follows

  -- The last type is not above a type that begins no group and does not end the text.
  pub last_below : (t : ℕ) → type_of f ≡ t → (t ≡ 0x40 → ⊥) → (t ≡ 0x7f → ⊥) → s.last ≤ t
  last_below t e a b = rw e at (next.below (λ x. a (sym e ∙ x)) (λ x. b (sym e ∙ x)))

pub number4_range : (f : Frame) → Bytes f.bytes → (i : ℕ) → number4 f i ≤ no_id
unfolding number4
number4_range f small i = omega (arith, small i, small (i + 1), small (i + 2), small (i + 3))
