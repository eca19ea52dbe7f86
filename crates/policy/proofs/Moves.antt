-- At most 210 moves: each is one of 30 roles with one of 7 special ones, and none is there twice.
-- Assumes nothing.
use mathlib.Core.Path.{◌≡◌, sym, ap₂}
use mathlib.Core.List.Memᴰ
use mathlib.Core.List.{List, [], ◌∷◌, ◌++◌, map, Memᴰ}
use Prim.Native.Nat.{ℕ, zero, suc, ◌+◌, ◌*◌, ◌≤◌, ◌<◌}
use native.Mathlib.Nat.{not-suc-le-zero, zero-add, suc-mul, mul-le-mul_left}
use native.Mathlib.Decide.{dec_lt}
use native.Mathlib.Omega.{arith}
use lib.ListN.{length, length-append, length-map}
use Rattle.gran.specs.Lists.{places, All, Distinct}
use Rattle.gran.specs.Policy.{Policy, Role, Move, SPECIAL}
use Rattle.gran.specs.Role.{of_kind, no_role}
use Rattle.gran.proofs.Members.{all-mem, places-has, places-length}
use Rattle.gran.proofs.Counting.{distinct_le, few_roles}
use Rattle.policy.specs.Sound.{SoundMove, SoundPolicy}
use Rattle.policy.proofs.More.{all_both, all_imply, all_map}

-- ---- a grid of numbers

-- A role's number and a special role's in one number.
abbrev code : ℕ → ℕ → ℕ
code r s = r * 256 + s

abbrev grid : ℕ → List ℕ → List ℕ
grid zero ss = []
grid (suc n) ss = map (code n) ss ++ grid n ss

grid-length : (n : ℕ) (ss : List ℕ) → length (grid n ss) ≡ n * length ss
grid-length zero ss = omega arith
grid-length (suc n) ss = simp (length-append, length-map) (omega (arith, grid-length n ss, suc-mul n (length ss)))

grid-has : (n : ℕ) (ss : List ℕ) {r s : ℕ} → r < n → Memᴰ s ss → Memᴰ (code r s) (grid n ss)
grid-has zero ss l m = absurd (not-suc-le-zero l)
grid-has (suc n) ss {r} {s} l m = go (dec_lt r n) (λ h. grid-has n ss h m)
  where
    go : Dec (r < n) → (r < n → Memᴰ (code r s) (grid n ss)) → Memᴰ (code r s) (grid (suc n) ss)
    go (yes h) ih = Memᴰ.append_right (map (code n) ss) (ih h)
    go (no h) ih = let e : r ≡ n = omega arith in rw e (Memᴰ.append_left (grid n ss) (Memᴰ.map (code n) m))

-- ---- moves

abbrev move_code : Move → ℕ
move_code m = code m.role m.special

-- Distinct moves of few roles have distinct numbers.
codes_distinct : (rs : List Role) → length rs ≤ 30 → (ms : List Move) → All (SoundMove rs) ms → Distinct ms → Distinct (map move_code ms)
codes_distinct rs few [] h d = tt
codes_distinct rs few (m ∷ ms) h d = (
  all_map move_code (λ (n : ℕ). move_code m ≡ n → ⊥) ms (all_imply (λ (x : Move). (m ≡ x → ⊥) × SoundMove rs x) (λ (x : Move). move_code m ≡ move_code x → ⊥) apart ms (all_both (λ (x : Move). m ≡ x → ⊥) (SoundMove rs) ms d.0 h.1)),
  codes_distinct rs few ms h.1 d.1,
)
  where
    apart : (x : Move) → (m ≡ x → ⊥) × SoundMove rs x → move_code m ≡ move_code x → ⊥
    apart x k e =
        let role : m.role ≡ x.role = omega (arith, h.0.to, k.1.to) in
        let special : m.special ≡ x.special = omega (arith, h.0.to, k.1.to) in
        k.0 (ap₂ (λ (r s : ℕ). record { role = r; special = s }) role special)

pub few_moves : (P : Policy) → SoundPolicy P → length P.moves ≤ 210
few_moves P sound =
    let few : length rs ≤ 30 = few_roles rs sound.roles.good sound.roles.few_users sound.roles.few_groups sound.roles.few_specials sound.roles.few_defaults in
    let codes = distinct_le (map move_code P.moves) (grid (length rs) specials) (codes_distinct rs few P.moves sound.moves.good sound.moves.distinct) within in
    let wide : length rs * length specials ≤ length rs * 7 = mul-le-mul_left (length rs) (omega (arith, places-length (of_kind SPECIAL) 0 rs, sound.roles.few_specials)) in
    omega (arith, wide, grid-length (length rs) specials, length-map P.moves move_code)
  where
    rs : List Role
    rs = P.roles

    specials : List ℕ
    specials = places (of_kind SPECIAL) 0 rs

    within : (n : ℕ) → Memᴰ n (map move_code P.moves) → Memᴰ n (grid (length rs) specials)
    within n k =
        let (m, at, e) = Memᴰ.of_map move_code P.moves k in
        let s = all-mem (SoundMove rs) P.moves sound.moves.good at in
        Memᴰ.cast (sym e) (grid-has (length rs) specials s.from (rw zero-add at (places-has (of_kind SPECIAL) no_role 0 rs m.special s.to s.special)))
