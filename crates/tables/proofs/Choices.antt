-- The choices of a kind as a loop over the roles finds them, and what each of them is.
-- Assumes nothing.
use mathlib.Core.Path.{◌≡◌, refl, ap, ◌∙◌}
use mathlib.Core.Logic.{inl, inr}
use mathlib.Core.Bool.{Bool, true, false, cond, So}
use mathlib.Core.List.{List, [], ◌∷◌}
use Prim.Native.Nat.{ℕ, zero, suc, ◌+◌, ◌≤◌, ◌<◌, zero-le}
use native.Mathlib.Nat.{not-suc-le-zero, le_of_suc-le-suc}
use native.Mathlib.Numerals.{add-one}
use native.Mathlib.Omega.{arith}
use lib.Dec.{eqb}
use lib.ListN.{length, get_or, drop, set, drop_of_length-le}
use lib.Seq.{drop-cons}
use Rattle.gran.specs.Lists.{none, places, only, numbers}
use Rattle.gran.specs.Policy.{Policy}
use Rattle.gran.specs.Role.{of_kind, no_role}
use Rattle.gran.specs.Good.{roles_of}
use Rattle.gran.proofs.Members.{places-length}
use Rattle.runs.specs.Steps.{choices}
use Rattle.store.specs.Held.{Loaded}
use Rattle.fields.specs.Fields.{role_count, role_kind}
use Rattle.fields.proofs.Header.{role-count}
use Rattle.fields.proofs.Roles.{role-kind}
use Rattle.tables.specs.Regions.{Written, Choice}
use Rattle.tables.proofs.Front.{written_more}

module _ {A : Type 0} (test : A → Bool) (d : A) where
  -- Number j of a row of places, counted from i, is that of an element that passes.
  abbrev Found : List ℕ → ℕ → ℕ → List A → Type 0
  Found ps j i xs = (m : ℕ) × (get_or ps j none ≡ i + m) × (m < length xs) × So (test (get_or xs m d))

  later : (i : ℕ) (x : A) (xs : List A) (ps : List ℕ) (j : ℕ) → Found ps j (suc i) xs → Found ps j i (x ∷ xs)
  later i x xs ps j (m, e, l, t) = (suc m, omega arith, omega arith, t)

  places_at : (i : ℕ) (xs : List A) (j : ℕ) → j < length (places test i xs) → Found (places test i xs) j i xs
  places_at i [] j h = absurd (not-suc-le-zero h)
  places_at i (x ∷ xs) j h = go (test x) refl j h (places_at (suc i) xs)
    where
      ps : List ℕ
      ps = places test (suc i) xs

      go : (b : Bool) → test x ≡ b → (j : ℕ) → j < length (cond b (i ∷ ps) ps) → ((j : ℕ) → j < length ps → Found ps j (suc i) xs) → Found (cond b (i ∷ ps) ps) j i (x ∷ xs)
      go true e zero h ih = (0, omega arith, omega arith, e)
      go true e (suc j) h ih = later i x xs ps j (ih j (le_of_suc-le-suc h))
      go false e j h ih = later i x xs ps j (ih j h)

  -- The places from i on, where the element there passes and where it does not.
  module _ (i : ℕ) (xs : List A) (h : i < length xs) where
    pub places_here : So (test (get_or xs i d)) → places test i (drop i xs) ≡ i ∷ places test (i + 1) (drop (i + 1) xs)
    places_here t = rw (add-one, drop-cons xs i d h, t)

    pub places-not : test (get_or xs i d) ≡ false → places test i (drop i xs) ≡ places test (i + 1) (drop (i + 1) xs)
    places-not t = rw (add-one, drop-cons xs i d h, t)

module _ (P : Policy) (k : ℕ) where
  pub choices-length : length (choices P k) ≡ suc (length (roles_of P k))
  unfolding choices
  choices-length = ap suc (places-length (of_kind k) 0 P.roles)

  pub choice_is : (j : ℕ) → j < length (choices P k) → Choice P k (get_or (choices P k) j none)
  unfolding choices
  choice_is zero h = inl refl
  choice_is (suc j) h = go (places_at (of_kind k) no_role 0 P.roles j (le_of_suc-le-suc h))
    where
      r : ℕ
      r = get_or (places (of_kind k) 0 P.roles) j none

      go : Found (of_kind k) no_role (places (of_kind k) 0 P.roles) j 0 P.roles → Choice P k r
      go (m, e, l, t) = let at : r ≡ m = omega arith in inr (omega arith, rw at t)

-- ---- the choices among the numbers of all roles

module _ {P : Policy} {rest s : List ℕ} (L : Loaded P rest s) (k : ℕ) where
  abbrev counts : ℕ → Bool
  counts r = eqb (role_kind s r) k

  from_role : (r n : ℕ) → r + n ≡ length P.roles → places (of_kind k) r (drop r P.roles) ≡ only counts (numbers r n)
  from_role r zero e = let past : length P.roles ≤ r = omega arith in rw (drop_of_length-le P.roles past)
  from_role r (suc n) e = go (of_kind k (get_or P.roles r no_role)) refl (rw add-one (from_role (suc r) n (omega arith)))
    where
      inside : r < length P.roles
      inside = omega arith

      same : counts r ≡ of_kind k (get_or P.roles r no_role)
      same = ap (λ (n : ℕ). eqb n k) (role-kind L r inside)

      go : (b : Bool) → of_kind k (get_or P.roles r no_role) ≡ b → places (of_kind k) (r + 1) (drop (r + 1) P.roles) ≡ only counts (numbers (suc r) n)
          → places (of_kind k) r (drop r P.roles) ≡ cond (counts r) (r ∷ only counts (numbers (suc r) n)) (only counts (numbers (suc r) n))
      go true t rest-is = rw (same, t) (places_here (of_kind k) no_role r P.roles inside t ∙ ap (λ (l : List ℕ). r ∷ l) rest-is)
      go false t rest-is = rw (same, t) (places-not (of_kind k) no_role r P.roles inside t ∙ rest-is)

  pub choices_begin : (part : List ℕ) → length (choices P k) ≤ length part → Written (choices P k) 1 (set part 0 none) (only counts (numbers 0 (role_count s)))
  unfolding choices
  choices_begin part room = rw (← from_role 0 (role_count s) (omega (arith, role-count L))) (written_more {at = 0} {part = part} none _ room (record { inside = zero-le; is = refl }))
