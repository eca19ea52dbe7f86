-- The loop that writes the places from a state back to the start.
-- Assumes nothing.
use mathlib.Core.Path.{◌≡◌, refl, sym, ap, ◌∙◌}
use mathlib.Core.List.{List, [], ◌∷◌, ◌++◌, append_assoc, append-nil}
use Prim.Native.Nat.{ℕ, suc, ◌+◌, ◌-◌, ◌≤◌, ◌<◌}
use native.Mathlib.Omega.{arith}
use native.Mathlib.Numerals.{add-one}
use lib.ListN.{length, get_or, set, drop, length-append}
use lib.Seq.{drop-cons, set_at}
use borrow.Author.Tests.{eq-eqb, ne_eqb}
use Rattle.walk.specs.Walk.{queued, mark, trail}
use Rattle.walk.specs.Needed.{Rooted}

module _ (area : List ℕ) (k : ℕ) where
  -- At place `at` of the queue, with n places written.
  pub record Back (was is : List ℕ) (at n : ℕ) : Type 0 where
    pub done : List ℕ
    pub size : length done ≡ n
    pub written : is ≡ done ++ drop n was
    pub left : trail area 8192 k ≡ done ++ trail area (8192 - n) at
    pub falls : n + at ≤ k

  pub starts : (was : List ℕ) → Back was was k 0
  starts was = record { done = []; size = refl; written = refl; left = refl; falls = omega arith }

  module _ (rooted : Rooted area k) {was is : List ℕ} (room : k ≤ length was) {at n : ℕ} (b : Back was is at n) where
    pub goes_back : (at ≡ 0 → ⊥) → Back was (set is n at) (mark area (queued area at) - 1) (n + 1)
    unfolding trail
    goes_back nz =
        let within : k < 8192 = omega (arith, rooted.within, rooted.few) in
        let few : n + at ≤ k = b.falls in
        let early : (0 < mark area (queued area at)) × (mark area (queued area at) ≤ at) = rooted.earlier at (omega arith) (omega arith) in
        let fuel : 8192 - n ≡ suc (8192 - (n + 1)) = omega arith in
        let step : trail area (8192 - n) at ≡ at ∷ trail area (8192 - (n + 1)) (mark area (queued area at) - 1) = rw (fuel, ne_eqb at 0 nz) refl in
        record {
          done = b.done ++ at ∷ [];
          size = length-append b.done (at ∷ []) ∙ rw b.size refl;
          written = ap (λ (l : List ℕ). set l n at) (b.written ∙ ap (λ (l : List ℕ). b.done ++ l) (drop-cons was n 0 (omega arith)))
              ∙ set_at b.done (get_or was n 0) (drop (suc n) was) at n b.size
              ∙ rw add-one (sym (append_assoc b.done (at ∷ []) (drop (suc n) was)));
          left = b.left ∙ ap (λ (l : List ℕ). b.done ++ l) step ∙ sym (append_assoc b.done (at ∷ []) (trail area (8192 - (n + 1)) (mark area (queued area at) - 1)));
          falls = omega arith;
        }

    pub back_ends : at ≡ 0 → trail area 8192 k ≡ b.done
    unfolding trail
    back_ends z =
        let within : k < 8192 = omega (arith, rooted.within, rooted.few) in
        let few : n + at ≤ k = b.falls in
        let fuel : 8192 - n ≡ suc (8192 - (n + 1)) = omega arith in
        b.left ∙ rw (fuel, eq-eqb at 0 z) (append-nil b.done)
