-- An ask by its number and its value, as 01 has them: what they are, and what a number says of the answer and of the room.
-- Assumes nothing.
use mathlib.Core.Path.{◌≡◌, refl, sym, ap, ◌∙◌}
use mathlib.Core.Bool.{Bool, true, false, cond}
use mathlib.Core.List.{List, ◌++◌}
use Prim.Native.Nat.{ℕ, zero, suc}
use native.Mathlib.Omega.{arith}
use lib.Dec.{leb}
use lib.ListN.{length, drop}
use Rattle.gran.specs.Policy.{Policy}
use Rattle.policy.specs.Load.{Reading, refused, accepted, reading}
use Rattle.ask.proofs.Small.{refused_within, value-length}
use Rattle.ask.proofs.Unique.{lines_unique}
use Rattle.ask.specs.Ask.{Answered, Short, Asked, number_of, value_of, early, Lines, Areas, Outcome, answer_with, room_with, Comes, ComesTo, NumberAndValueOf, NumberAndValue}

-- ---- lines and a room

number_fits : (lines room : List ℕ) → number_of (answer_with lines room) ≡ cond (leb (length lines) (length room)) 0 17
unfolding answer_with
number_fits lines room = go (leb (length lines) (length room))
  where
    go : (fits : Bool) → number_of (cond fits (Answered (length lines)) (Short (length lines))) ≡ cond fits 0 17
    go true = refl
    go false = refl

-- what 0, and another number, say of the room
room_of : (lines room : List ℕ) → (number_of (answer_with lines room) ≡ 0 → room_with lines room ≡ lines ++ drop (length lines) room) × ((number_of (answer_with lines room) ≡ 0 → ⊥) → room_with lines room ≡ room)
unfolding answer_with room_with
room_of lines room = go (leb (length lines) (length room))
  where
    go : (fits : Bool) → (number_of (cond fits (Answered (length lines)) (Short (length lines))) ≡ 0 → cond fits (lines ++ drop (length lines) room) room ≡ lines ++ drop (length lines) room)
        × ((number_of (cond fits (Answered (length lines)) (Short (length lines))) ≡ 0 → ⊥) → cond fits (lines ++ drop (length lines) room) room ≡ room)
    go true = (λ e. refl, λ ne. absurd (ne refl))
    go false = (λ e. absurd (omega (arith, e)), λ ne. refl)

-- ---- the ask, for Rust and for C

-- The text was accepted, and the answer's lines stand in front of the room.
pub record Accepted (text : List ℕ) (a : Asked) (lent : Areas) (o : Outcome) : Type 0 where
  pub policy : Policy
  pub read : reading text ≡ accepted policy
  pub lines : List ℕ
  pub right : Lines policy a lines
  pub size : value_of o.answer ≡ length lines
  pub room : o.left.room ≡ lines ++ drop (length lines) lent.room

-- whatever is cleared and however long the work area is
module _ (places work : ℕ) (text : List ℕ) (a : Asked) (lent : Areas) (o : Outcome) (asked : ComesTo places (early (length text) (length lent.store) work a) text a lent o) where
  abbrev number : Outcome → ℕ
  number q = number_of q.answer

  abbrev value : Outcome → ℕ
  value q = value_of q.answer

  abbrev room_left : Outcome → List ℕ
  room_left q = q.left.room

  -- Number and value are those that 01 gives.
  pub asked-numbers : NumberAndValue (early (length text) (length lent.store) work a) text a (length lent.room) (number o) (value o)
  asked-numbers = go (early (length text) (length lent.store) work a) asked
    where
      by-reading : (r : Reading) → Comes places r a lent o → NumberAndValueOf r a (length lent.room) (number o) (value o)
      by-reading (refused n line) x = (ap number x, ap value x)
      by-reading (accepted P) (lines, right, x) = (lines, right, ap number x ∙ number_fits lines lent.room, ap value x ∙ value-length lines lent.room)

      go : (first : ℕ) → ComesTo places first text a lent o → NumberAndValue first text a (length lent.room) (number o) (value o)
      go zero x = by-reading (reading text) x
      go (suc n) x = (ap number x, ap value x)

  -- 0 is the number of an accepted ask alone.
  pub number-zero : number o ≡ 0 → Accepted text a lent o
  number-zero z = go (early (length text) (length lent.store) work a) asked
    where
      by-reading : (r : Reading) → reading text ≡ r → Comes places r a lent o → Accepted text a lent o
      by-reading (refused n l) e x = absurd (omega (arith, (refused_within text n l e).0, ap number x))
      by-reading (accepted P) e (lines, right, x) = record {
        policy = P;
        read = e;
        lines = lines;
        right = right;
        size = ap value x ∙ value-length lines lent.room;
        room = ap room_left x ∙ (room_of lines lent.room).0 (sym (ap number x) ∙ z);
      }

      go : (first : ℕ) → ComesTo places first text a lent o → Accepted text a lent o
      go zero x = by-reading (reading text) refl x
      go (suc n) x = absurd (omega (arith, ap number x))

  -- Every other number, 17 too, keeps the room.
  pub room_kept : (number o ≡ 0 → ⊥) → room_left o ≡ lent.room
  room_kept ne = go (early (length text) (length lent.store) work a) asked
    where
      by-reading : (r : Reading) → Comes places r a lent o → room_left o ≡ lent.room
      by-reading (refused n l) x = ap room_left x
      by-reading (accepted P) (lines, right, x) = ap room_left x ∙ (room_of lines lent.room).1 (λ e. ne (ap number x ∙ e))

      go : (first : ℕ) → ComesTo places first text a lent o → room_left o ≡ lent.room
      go zero x = by-reading (reading text) x
      go (suc n) x = ap room_left x

-- One number and one value.
pub numbers_unique : (first : ℕ) (text : List ℕ) (a : Asked) (room : ℕ) {m n v w : ℕ} → NumberAndValue first text a room m v → NumberAndValue first text a room n w → (m ≡ n) × (v ≡ w)
numbers_unique zero text a room x y = go (reading text) x y
  where
    go : (r : Reading) {m n v w : ℕ} → NumberAndValueOf r a room m v → NumberAndValueOf r a room n w → (m ≡ n) × (v ≡ w)
    go (refused k line) x y = (x.0 ∙ sym y.0, x.1 ∙ sym y.1)
    go (accepted P) (ls, l, c, d) (ks, k, e, f) =
        let same = lines_unique l k in
        (c ∙ ap (λ (lines : List ℕ). cond (leb (length lines) room) 0 17) same ∙ sym e, d ∙ ap (λ (lines : List ℕ). length lines) same ∙ sym f)
numbers_unique (suc k) text a room x y = (x.0 ∙ sym y.0, x.1 ∙ sym y.1)
