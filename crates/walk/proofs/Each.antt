-- What holds of the target of each step of a list: put together as the loops go, and taken apart again.
-- Assumes nothing.
use mathlib.Core.Bool.{Bool, So, true, false, false≢true, cond}
use mathlib.Core.Path.{◌≡◌, refl}
use mathlib.Core.List.{List, [], ◌∷◌, ◌++◌}
use Prim.Native.Nat.{ℕ, zero, suc, ◌+◌, ◌<◌}
use native.Mathlib.Omega.{arith}
use Rattle.numbered.specs.Candidates.{Step, offered, flat}

abbrev pub Each : (ℕ → Type 0) → List Step → Type 0
Each P [] = Unit {0}
Each P (x ∷ xs) = P x.target × Each P xs

pub each_map : (P Q : ℕ → Type 0) → ((n : ℕ) → P n → Q n) → (xs : List Step) → Each P xs → Each Q xs
each_map P Q f [] all = tt
each_map P Q f (x ∷ xs) all = (f x.target all.0, each_map P Q f xs all.1)

module _ (P : ℕ → Type 0) where
  pub each_append : (xs ys : List Step) → Each P xs → Each P ys → Each P (xs ++ ys)
  each_append [] ys a b = b
  each_append (x ∷ xs) ys a b = (a.0, each_append xs ys a.1 b)

  each-flat : (f : ℕ → List Step) (k n : ℕ) → ((j : ℕ) → j < k + n → Each P (f j)) → Each P (flat f k n)
  unfolding flat
  each-flat f k zero h = tt
  each-flat f k (suc n) h = each_append (f k) (flat f (k + 1) n) (h k (omega arith)) (each-flat f (k + 1) n (λ j lt. h j (omega arith)))

  pub each_range : (f : ℕ → List Step) (n : ℕ) → ((j : ℕ) → j < n → Each P (f j)) → Each P (flat f 0 n)
  each_range f n h = each-flat f 0 n (λ j lt. h j (omega arith))

  pub each-offered : (b : Bool) (c n : ℕ) → (So b → P n) → Each P (offered b c n)
  each-offered true c n h = (h refl, tt)
  each-offered false c n h = tt

  pub each-cond : (b : Bool) (xs : List Step) → (So b → Each P xs) → Each P (cond b xs [])
  each-cond true xs h = h refl
  each-cond false xs h = tt

  -- ---- and back

  pub left-each : (xs ys : List Step) → Each P (xs ++ ys) → Each P xs
  left-each [] ys all = tt
  left-each (x ∷ xs) ys all = (all.0, left-each xs ys all.1)

  pub right-each : (xs ys : List Step) → Each P (xs ++ ys) → Each P ys
  right-each [] ys all = all
  right-each (x ∷ xs) ys all = right-each xs ys all.1

  flat-each : (f : ℕ → List Step) (k n j : ℕ) → j < n → Each P (flat f k n) → Each P (f (k + j))
  unfolding flat
  flat-each f k zero j h all = absurd (omega arith)
  flat-each f k (suc n) zero h all =
      let e : k + 0 ≡ k = omega arith in
      rw e (left-each (f k) (flat f (k + 1) n) all)
  flat-each f k (suc n) (suc j) h all =
      let e : k + suc j ≡ k + 1 + j = omega arith in
      rw e (flat-each f (k + 1) n j (omega arith) (right-each (f k) (flat f (k + 1) n) all))

  pub range-each : (f : ℕ → List Step) (n j : ℕ) → j < n → Each P (flat f 0 n) → Each P (f j)
  range-each f n j h all =
      let e : 0 + j ≡ j = omega arith in
      rw e at (flat-each f 0 n j h all)

  pub offered-each : (b : Bool) (c n : ℕ) → So b → Each P (offered b c n) → P n
  offered-each true c n h all = all.0
  offered-each false c n h all = absurd (false≢true h)

  pub cond-each : (b : Bool) (xs : List Step) → So b → Each P (cond b xs []) → Each P xs
  cond-each true xs h all = all
  cond-each false xs h all = absurd (false≢true h)
