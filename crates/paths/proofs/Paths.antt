-- `under`: an order with the chain property, and for good paths the order of the bytes.
-- Assumes nothing.
use mathlib.Core.Path.{◌≡◌, refl, sym, ap, ap₂, subst, ◌∙◌}
use mathlib.Core.Logic.{◌⊎◌, inl, inr}
use mathlib.Core.Bool.{Bool, true, false, cond, ◌&&◌, So, false≢true}
use mathlib.Core.List.{List, [], ◌∷◌, ◌++◌}
use Prim.Native.Nat.{ℕ, ◌≤◌}
use lib.Dec.{eqb, leb}
use lib.ListN.{length}
use borrow.Author.Tests.{eqb-false, ne_eqb, leb-true}
use Rattle.paths.specs.Path.{slash, spelled, is_path, good_path, lead, ended, names, same, first, under, Under, begins}
use Rattle.paths.proofs.Bools.{decide, both, left, right, eqb_of, eqb-to}

pub same_refl : (ys : List ℕ) → So (same ys ys)
same_refl [] = refl
same_refl (b ∷ ys) = both (eqb_of {m = b} refl) (same_refl ys)

pub same→≡ : (ys zs : List ℕ) → So (same ys zs) → ys ≡ zs
same→≡ [] [] t = refl
same→≡ [] (c ∷ zs) t = absurd (false≢true t)
same→≡ (b ∷ ys) [] t = absurd (false≢true t)
same→≡ (b ∷ ys) (c ∷ zs) t = ap₂ ◌∷◌ (eqb-to b c (left _ _ t)) (same→≡ ys zs (right (eqb b c) _ t))

-- ---- the order of lists of names

first-refl : (ns : List (List ℕ)) → So (first ns ns)
first-refl [] = refl
first-refl (n ∷ ns) = both (same_refl n) (first-refl ns)

first_trans : (xs ys zs : List (List ℕ)) → So (first xs ys) → So (first ys zs) → So (first xs zs)
first_trans [] ys zs s t = refl
first_trans (a ∷ xs) [] zs s t = absurd (false≢true s)
first_trans (a ∷ xs) (b ∷ ys) [] s t = absurd (false≢true t)
first_trans (a ∷ xs) (b ∷ ys) (c ∷ zs) s t =
    both
    (subst (λ (n : List ℕ). So (same a n)) (same→≡ b c (left _ _ t)) (left _ _ s))
    (first_trans xs ys zs (right (same a b) _ s) (right (same b c) _ t))

first_chain : (xs ys zs : List (List ℕ)) → So (first xs zs) → So (first ys zs) → So (first xs ys) ⊎ So (first ys xs)
first_chain [] ys zs s t = inl refl
first_chain (a ∷ xs) [] zs s t = inr refl
first_chain (a ∷ xs) (b ∷ ys) [] s t = absurd (false≢true s)
first_chain (a ∷ xs) (b ∷ ys) (c ∷ zs) s t =
    longer (first_chain xs ys zs (right (same a c) _ s) (right (same b c) _ t))
  where
    a≡b : a ≡ b
    a≡b = same→≡ a c (left _ _ s) ∙ sym (same→≡ b c (left _ _ t))

    longer : So (first xs ys) ⊎ So (first ys xs) → So (first (a ∷ xs) (b ∷ ys)) ⊎ So (first (b ∷ ys) (a ∷ xs))
    longer (inl u) = inl (both (subst (λ (n : List ℕ). So (same a n)) a≡b (same_refl a)) u)
    longer (inr u) = inr (both (subst (λ (n : List ℕ). So (same n a)) a≡b (same_refl a)) u)

first_append : (xs rest : List (List ℕ)) → So (first xs (xs ++ rest))
first_append [] rest = refl
first_append (a ∷ xs) rest = both (same_refl a) (first_append xs rest)

first_rest : (xs ys : List (List ℕ)) → So (first xs ys) → (rest : List (List ℕ)) × (ys ≡ xs ++ rest)
first_rest [] ys t = (ys, refl)
first_rest (a ∷ xs) [] t = absurd (false≢true t)
first_rest (a ∷ xs) (b ∷ ys) t =
    let r = first_rest xs ys (right (same a b) _ t) in
    (r.0, ap₂ ◌∷◌ (sym (same→≡ a b (left _ _ t))) r.1)

-- ---- the order of paths

pub under-refl : (p : List ℕ) → So (under p p)
unfolding under
under-refl p = first-refl (names p)

pub under_trans : (p q r : List ℕ) → So (under p q) → So (under q r) → So (under p r)
unfolding under
under_trans p q r s t = first_trans (names r) (names q) (names p) t s

-- Proposition 1 of 001: two paths that one path is under are comparable.
pub under_chain : (p q r : List ℕ) → So (under p q) → So (under p r) → So (under q r) ⊎ So (under r q)
unfolding under
under_chain p q r s t = first_chain (names r) (names q) (names p) t s

-- The test says what 01 says.
pub under→Under : (p q : List ℕ) → So (under p q) → Under p q
unfolding under Under
under→Under p q t = first_rest (names q) (names p) t

pub Under→under : (p q : List ℕ) → Under p q → So (under p q)
unfolding under Under
Under→under p q u = rw u.1 (first_append (names q) u.0)

-- ---- bytes

first-lead : (b : ℕ) (ns ms : List (List ℕ)) → first (lead b ns) (lead b ms) ≡ first ns ms
first-lead b [] ms = refl
first-lead b (n ∷ ns) [] = refl
first-lead b (n ∷ ns) (m ∷ ms) = rw (eqb_of {m = b} refl)

-- A byte that both have decides nothing.
pub first-same : (b : ℕ) (q p : List ℕ) → first (ended (b ∷ q)) (ended (b ∷ p)) ≡ first (ended q) (ended p)
first-same b q p = go (eqb b slash)
  where
    go : (x : Bool) → first (cond x ([] ∷ ended q) (lead b (ended q))) (cond x ([] ∷ ended p) (lead b (ended p))) ≡ first (ended q) (ended p)
    go true = refl
    go false = first-lead b (ended q) (ended p)

-- Two bytes that part; x, y: the byte is a slash.
first_parts : (b c : ℕ) (x y : Bool) (ns ms : List (List ℕ)) → eqb b c ≡ false → (x ≡ true → y ≡ true → ⊥)
    → first (cond x ([] ∷ ns) (lead b ns)) (cond y ([] ∷ ms) (lead c ms)) ≡ first (cond x ([] ∷ ns) (lead b ns)) []
first_parts b c true true ns ms e d = absurd (d refl refl)
first_parts b c true false ns [] e d = refl
first_parts b c true false ns (m ∷ ms) e d = refl
first_parts b c false y [] ms e d = refl
first_parts b c false true (n ∷ ns) ms e d = refl
first_parts b c false false (n ∷ ns) [] e d = refl
first_parts b c false false (n ∷ ns) (m ∷ ms) e d = rw e

-- Where the bytes part, q may have no further name.
pub first_other : (b c : ℕ) (q p : List ℕ) → (b ≡ c → ⊥) → first (ended (b ∷ q)) (ended (c ∷ p)) ≡ first (ended (b ∷ q)) []
first_other b c q p apart =
    first_parts b c (eqb b slash) (eqb c slash) (ended q) (ended p) (ne_eqb b c apart) (λ e d. apart (eqb-to b slash e ∙ sym (eqb-to c slash d)))

pub first-lead-[] : (b : ℕ) (ns : List (List ℕ)) → first (lead b ns) [] ≡ first ns []
first-lead-[] b [] = refl
first-lead-[] b (n ∷ ns) = refl

-- What may follow a slash or a byte of a name is empty, or has a name.
some_name : (inside : Bool) (b : ℕ) (q : List ℕ) → So (spelled inside (b ∷ q)) → first (ended (b ∷ q)) [] ≡ false
some_name inside b [] t = go (eqb b slash) t
  where
    go : (x : Bool) → So (cond x (inside && true) false) → first (cond x ([] ∷ []) []) [] ≡ false
    go true u = refl
    go false u = absurd (false≢true u)
some_name inside b (c ∷ q) t = go (eqb b slash) t (some_name true c q)
  where
    go : (x : Bool) → So (cond x (inside && spelled false (c ∷ q)) (spelled true (c ∷ q)))
        → (So (spelled true (c ∷ q)) → first (ended (c ∷ q)) [] ≡ false)
        → first (cond x ([] ∷ ended (c ∷ q)) (lead b (ended (c ∷ q)))) [] ≡ false
    go true u ih = refl
    go false u ih = first-lead-[] b (ended (c ∷ q)) ∙ ih u

spelled_rest : (inside : Bool) (b : ℕ) (q : List ℕ) → So (spelled inside (b ∷ q)) → (i : Bool) × So (spelled i q)
spelled_rest inside b q t = go (eqb b slash) t
  where
    go : (x : Bool) → So (cond x (inside && spelled false q) (spelled true q)) → (i : Bool) × So (spelled i q)
    go true u = (false, right inside _ u)
    go false u = (true, u)

-- Of what follows a slash, the order of names is the order of bytes.
first_bytes : (inside : Bool) (q p : List ℕ) → So (spelled inside q) → first (ended q) (ended p) ≡ begins q p
first_bytes inside [] p t = refl
first_bytes inside (b ∷ q) [] t = some_name inside b q t
first_bytes inside (b ∷ q) (c ∷ p) t =
    let r = spelled_rest inside b q t in
    go (decide (eqb b c)) (first_bytes r.0 q p r.1)
  where
    go : So (eqb b c) ⊎ (eqb b c ≡ false) → first (ended q) (ended p) ≡ begins q p
        → first (ended (b ∷ q)) (ended (c ∷ p)) ≡ (eqb b c && begins q p)
    go (inl s) ih = rw (s, ← eqb-to b c s) (first-same b q p ∙ ih)
    go (inr e) ih = rw e (first_other b c q p (eqb-false b c e) ∙ some_name inside b q t)

-- For good paths p is under q exactly when p's bytes begin with q's.
pub under_bytes : (p q : List ℕ) → So (is_path p) → So (is_path q) → under p q ≡ begins q p
unfolding under names is_path
under_bytes [] q s t = absurd (false≢true s)
under_bytes (c ∷ p) [] s t = absurd (false≢true t)
under_bytes (c ∷ p) (b ∷ q) s t =
    first_bytes false q p (right (eqb b slash) _ t)
    ∙ sym (ap (λ (z : Bool). z && begins q p) (eqb_of (eqb-to b slash (left _ _ t) ∙ sym (eqb-to c slash (left _ _ s)))))

begins_antisym : (p q : List ℕ) → So (begins p q) → So (begins q p) → p ≡ q
begins_antisym [] [] s t = refl
begins_antisym [] (c ∷ q) s t = absurd (false≢true t)
begins_antisym (b ∷ p) [] s t = absurd (false≢true s)
begins_antisym (b ∷ p) (c ∷ q) s t = ap₂ ◌∷◌ (eqb-to b c (left _ _ s)) (begins_antisym p q (right (eqb b c) _ s) (right (eqb c b) _ t))

pub under_antisym : (p q : List ℕ) → So (is_path p) → So (is_path q) → So (under p q) → So (under q p) → p ≡ q
under_antisym p q gp gq s t = begins_antisym p q (rw (under_bytes q p gq gp) at t) (rw (under_bytes p q gp gq) at s)

-- Every path is under `/`, and under what is no path for want of a byte.
pub under_root : (p : List ℕ) → So (under p (slash ∷ []))
unfolding under names
under_root p = refl

pub under-empty : (p : List ℕ) → So (under p [])
unfolding under names
under-empty p = refl

-- ---- the parts of a good path

module _ (policy : Bool) (p : List ℕ) (good : So (good_path policy p)) where
  pub good_short : length p ≤ 64
  unfolding good_path
  good_short = leb-true (length p) 64 (left _ _ good)

  pub good-is_path : So (is_path p)
  unfolding good_path
  good-is_path = left (is_path p) _ (right (leb (length p) 64) _ good)
