-- Allowed ids reach a role where they have its own id; the roles of a kind are few, and each has its own.
-- Assumes nothing.
use mathlib.Core.Path.{◌≡◌, refl, sym, ◌∙◌}
use mathlib.Core.Logic.{inl, inr}
use mathlib.Core.Bool.{Bool, true, false, cond, ◌&&◌, So, false≢true, and-true}
use mathlib.Core.List.{List, [], ◌∷◌, map}
use Prim.Native.Nat.{ℕ, zero, suc, ◌+◌, ◌≤◌, ◌<◌}
use native.Mathlib.Nat.{not-suc-le-zero, le_of_suc-le-suc}
use native.Mathlib.Omega.{arith}
use lib.Dec.{eqb}
use lib.ListN.{length, get_or}
use Rattle.paths.proofs.Bools.{to-false, eqb_of, eqb-to}
use Rattle.gran.specs.Lists.{none, All, Distinct, only, place}
use Rattle.gran.specs.Policy.{Policy, Allowed}
use Rattle.gran.specs.Role.{of_kind, no_role, role_of, allows}
use Rattle.gran.specs.Good.{Good, roles_of}
use Rattle.gran.specs.Good as good
use Rattle.gran.specs.Abstract.{id_for, reaches}
use Rattle.store.specs.Held.{Loaded}
use Rattle.fields.specs.Fields.{role_id}
use Rattle.fields.proofs.Roles.{role-id}
use Rattle.ids.specs.Ids.{kind_of}
use Rattle.ids.specs.declared.Ids.{Ids}
use Rattle.ids.specs.declared.Ids.TheVariants.{Users, Groups}
use Rattle.tables.specs.Regions.{Named, Choice}

-- The place of the one that passes and has a key, where keys are distinct among those that pass.
module _ {A : Type 0} (test : A → Bool) (key : A → ℕ) (d : A) where
  apart : (n : ℕ) (xs : List A) → All (λ (y : ℕ). n ≡ y → ⊥) (map key (only test xs)) → (j : ℕ) → j < length xs → So (test (get_or xs j d)) → n ≡ key (get_or xs j d) → ⊥
  apart n [] all j l t e = not-suc-le-zero l
  apart n (x ∷ xs) all j l t e = go (test x) refl all j l t e (apart n xs)
    where
      go : (b : Bool) → test x ≡ b → All (λ (y : ℕ). n ≡ y → ⊥) (map key (cond b (x ∷ only test xs) (only test xs)))
          → (j : ℕ) → j < length (x ∷ xs) → So (test (get_or (x ∷ xs) j d)) → n ≡ key (get_or (x ∷ xs) j d)
          → (All (λ (y : ℕ). n ≡ y → ⊥) (map key (only test xs)) → (j : ℕ) → j < length xs → So (test (get_or xs j d)) → n ≡ key (get_or xs j d) → ⊥) → ⊥
      go true b all zero l t e ih = all.0 e
      go true b all (suc j) l t e ih = ih all.1 j (le_of_suc-le-suc l) t e
      go false b all zero l t e ih = false≢true (sym b ∙ t)
      go false b all (suc j) l t e ih = ih all j (le_of_suc-le-suc l) t e

  place_own : (i : ℕ) (xs : List A) → Distinct (map key (only test xs)) → (j : ℕ) → j < length xs → So (test (get_or xs j d))
      → place (λ (x : A). test x && eqb (key x) (key (get_or xs j d))) i xs ≡ i + j
  place_own i [] dis j l t = absurd (not-suc-le-zero l)
  place_own i (x ∷ xs) dis zero l t = rw (t, eqb_of {m = key x} refl) (omega arith)
  place_own i (x ∷ xs) dis (suc j) l t = go (test x) refl dis (place_own (suc i) xs)
    where
      n : ℕ
      n = key (get_or xs j d)

      go : (b : Bool) → test x ≡ b → Distinct (map key (cond b (x ∷ only test xs) (only test xs)))
          → (Distinct (map key (only test xs)) → (j : ℕ) → j < length xs → So (test (get_or xs j d)) → place (λ (x : A). test x && eqb (key x) (key (get_or xs j d))) (suc i) xs ≡ suc i + j)
          → cond (b && eqb (key x) n) i (place (λ (y : A). test y && eqb (key y) n) (suc i) xs) ≡ i + suc j
      go true b dis ih =
          let other : eqb (key x) n ≡ false = to-false (eqb (key x) n) (λ s. apart (key x) xs dis.0 j (le_of_suc-le-suc l) t (eqb-to (key x) n s)) in
          rw other (omega (arith, ih dis.1 j (le_of_suc-le-suc l) t))
      go false b dis ih = omega (arith, ih dis j (le_of_suc-le-suc l) t)

module _ (P : Policy) (k : ℕ) (a : Allowed) (r : ℕ) (h : r < length P.roles) (t : So (of_kind k (get_or P.roles r no_role))) where
  own-role : Distinct (map good.role_id (roles_of P k)) → role_of P k (get_or P.roles r no_role).id ≡ r
  unfolding role_of
  own-role dis = place_own (of_kind k) good.role_id no_role 0 P.roles dis r h t ∙ omega arith

  pub reaches-role : Distinct (map good.role_id (roles_of P k)) → length P.roles < none → reaches P k a r ≡ allows a (get_or P.roles r no_role).id
  unfolding reaches id_for
  reaches-role dis few =
      let some : eqb r none ≡ false = to-false (eqb r none) (λ e. omega (arith, eqb-to r none e)) in
      rw (some, own-role dis, eqb_of {m = r} refl) (and-true (allows a (get_or P.roles r no_role).id))

-- ---- in a loaded store

-- Ids are those of user or group roles.
pub named : (ids : Ids) → Named (kind_of ids)
named Users = inl refl
named Groups = inr refl

pub few_roles : {P : Policy} → Good P → (k : ℕ) → Named k → length (roles_of P k) ≤ 15
few_roles good k (inl e) = rw e good.few_users
few_roles good k (inr e) = rw e (omega (arith, good.few_groups))

distinct_ids : {P : Policy} → Good P → (k : ℕ) → Named k → Distinct (map good.role_id (roles_of P k))
distinct_ids good k (inl e) = rw e good.users_distinct
distinct_ids good k (inr e) = rw e good.groups_distinct

module _ {P : Policy} {rest s : List ℕ} (L : Loaded P rest s) (k : ℕ) (named : Named k) (a : Allowed) (r : ℕ) where
  pub own_id : (r ≡ none → ⊥) → Choice P k r → allows a (role_id s r) ≡ reaches P k a r
  own_id some (inl e) = absurd (some e)
  own_id some (inr (h, t)) = rw (role-id L r h) (sym (reaches-role P k a r h t (distinct_ids L.good k named) (omega (arith, L.fits.roles))))
