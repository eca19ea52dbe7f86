-- One role more, and what its tests give.
-- Assumes nothing.
use mathlib.Core.Path.{◌≡◌, refl, sym, ap, ◌∙◌}
use mathlib.Core.Logic.{◌⊎◌, inl, inr}
use mathlib.Core.Bool.{Bool, true, false, not, cond, ◌&&◌, ◌||◌, So, false≢true}
use mathlib.Core.List.{List, [], ◌∷◌, ◌++◌, map}
use Prim.Native.Nat.{ℕ, ◌≤◌, ◌<◌}
use native.Mathlib.Omega.{arith}
use borrow.Author.Tests.{leb-false, eqb-false, not-true}
use lib.Dec.{eqb, leb}
use lib.ListN.{length}
use Rattle.paths.proofs.Bools.{decide, neither, both, left, right, either, or_left, or_right, eqb_of, eqb-to}
use Rattle.gran.specs.Lists.{any, only, All, Distinct}
use Rattle.gran.specs.Policy.{Policy, Role, USER, GROUP, SPECIAL, DEFAULT, no_id}
use Rattle.gran.specs.Role.{of_kind, is_role}
use Rattle.gran.specs.Good.{GoodRole, role_id, roles_of}
use Rattle.gran.proofs.Lists.{length_more}
use Rattle.policy.specs.Frames.{good_role, has_role, full_of}
use Rattle.policy.specs.Sound.{SoundRoles}
use Rattle.policy.proofs.More.{map_more, all_more, distinct_more, only-taken, only_left}

-- The test of a role's fields says `GoodRole`.
pub good-role : (r : Role) → r.id ≤ no_id → So (good_role r) → GoodRole r
unfolding good_role
good-role r h t = go (decide (of_kind USER r || of_kind GROUP r)) t
  where
    named : Bool
    named = of_kind USER r || of_kind GROUP r

    -- a special or default role is no user and no group role
    other : So (of_kind SPECIAL r || of_kind DEFAULT r) → named ≡ false
    other u = cases (either (of_kind SPECIAL r) _ u)
      where
        cases : So (of_kind SPECIAL r) ⊎ So (of_kind DEFAULT r) → named ≡ false
        cases (inl e) = rw (eqb-to r.kind SPECIAL e)
        cases (inr e) = rw (eqb-to r.kind DEFAULT e)

    go : So named ⊎ (named ≡ false) → So (cond named (not (eqb r.id no_id)) ((of_kind SPECIAL r || of_kind DEFAULT r) && eqb r.id 0)) → GoodRole r
    go (inl n) u =
        let ne : r.id ≡ no_id → ⊥ = eqb-false r.id no_id (not-true _ (rw n at u)) in
        record {
          known = or_left (of_kind DEFAULT r) (or_left (of_kind SPECIAL r) n);
          id_range = omega arith;
          id_zero = λ v. absurd (false≢true (sym (other v) ∙ n));
        }
    go (inr n) u =
        let v = rw n at u in
        let zero : r.id ≡ 0 = eqb-to r.id 0 (right (of_kind SPECIAL r || of_kind DEFAULT r) _ v) in
        record { known = rw n (left (of_kind SPECIAL r || of_kind DEFAULT r) _ v); id_range = omega arith; id_zero = λ w. zero }

-- ---- the roles of a kind

-- No role of the kind has the id.
kind_apart : (k n : ℕ) (rs : List Role) → any (is_role k n) rs ≡ false → All (λ (i : ℕ). i ≡ n → ⊥) (map role_id (only (of_kind k) rs))
kind_apart k n [] e = tt
kind_apart k n (r ∷ rs) e = go (of_kind k r) e (kind_apart k n rs)
  where
    go : (b : Bool) → (b && eqb r.id n || any (is_role k n) rs) ≡ false
        → (any (is_role k n) rs ≡ false → All (λ (i : ℕ). i ≡ n → ⊥) (map role_id (only (of_kind k) rs)))
        → All (λ (i : ℕ). i ≡ n → ⊥) (map role_id (cond b (r ∷ only (of_kind k) rs) (only (of_kind k) rs)))
    go true d ih = let p = neither (eqb r.id n) _ d in (eqb-false r.id n p.0, ih p.1)
    go false d ih = ih d

-- No default role has the id 0, so there is none.
default_apart : (rs : List Role) → All GoodRole rs → any (is_role DEFAULT 0) rs ≡ false → length (only (of_kind DEFAULT) rs) ≡ 0
default_apart [] h e = refl
default_apart (r ∷ rs) h e =
    let p = neither (is_role DEFAULT 0 r) _ e in
    go (decide (of_kind DEFAULT r)) p.0 (default_apart rs h.1 p.1)
  where
    go : So (of_kind DEFAULT r) ⊎ (of_kind DEFAULT r ≡ false) → is_role DEFAULT 0 r ≡ false → length (only (of_kind DEFAULT) rs) ≡ 0
        → length (only (of_kind DEFAULT) (r ∷ rs)) ≡ 0
    go (inl t) f ih = absurd (false≢true (sym f ∙ both t (eqb_of (h.0.id_zero (or_right (of_kind SPECIAL r) t)))))
    go (inr d) f ih = rw d ih

module _ (k : ℕ) (rs : List Role) (r : Role) where
  few_more : (n : ℕ) → length (only (of_kind k) rs) ≤ n → (So (of_kind k r) → length (only (of_kind k) rs) < n) → length (only (of_kind k) (rs ++ r ∷ [])) ≤ n
  few_more n h f = go (decide (of_kind k r))
    where
      go : So (of_kind k r) ⊎ (of_kind k r ≡ false) → length (only (of_kind k) (rs ++ r ∷ [])) ≤ n
      go (inl t) = rw (only-taken (of_kind k) rs r t, length_more) (f t)
      go (inr e) = rw (only_left (of_kind k) rs r e) h

  -- No other role has the kind and the id.
  new_kind : eqb k SPECIAL ≡ false → has_role rs r ≡ false → So (of_kind k r) → any (is_role k r.id) rs ≡ false
  unfolding has_role
  new_kind d e t = let same = eqb-to r.kind k t in rw (same, d) at e

  ids_more : eqb k SPECIAL ≡ false → has_role rs r ≡ false → Distinct (map role_id (only (of_kind k) rs)) → Distinct (map role_id (only (of_kind k) (rs ++ r ∷ [])))
  ids_more d e h = go (decide (of_kind k r))
    where
      go : So (of_kind k r) ⊎ (of_kind k r ≡ false) → Distinct (map role_id (only (of_kind k) (rs ++ r ∷ [])))
      go (inl t) = rw (only-taken (of_kind k) rs r t, map_more) (distinct_more (map role_id (only (of_kind k) rs)) r.id h (kind_apart k r.id rs (new_kind d e t)))
      go (inr f) = rw (only_left (of_kind k) rs r f) h

-- The table of a kind is not full.
room : (P : Policy) (r : Role) (k n : ℕ) → full_of P k ≡ leb n (length (roles_of P k)) → full_of P r.kind ≡ false → So (of_kind k r) → length (roles_of P k) < n
room P r k n e f t = leb-false n (length (roles_of P k)) (sym e ∙ ap (full_of P) (sym (eqb-to r.kind k t)) ∙ f)

pub sound-role : (P : Policy) (r : Role) → SoundRoles P.roles → GoodRole r → has_role P.roles r ≡ false → full_of P r.kind ≡ false → SoundRoles (P.roles ++ r ∷ [])
unfolding full_of
sound-role P r sound good new free = record {
  good = all_more GoodRole P.roles r sound.good good;
  users_distinct = ids_more USER P.roles r refl new sound.users_distinct;
  groups_distinct = ids_more GROUP P.roles r refl new sound.groups_distinct;
  few_users = few_more USER P.roles r 15 sound.few_users (room P r USER 15 refl free);
  few_groups = few_more GROUP P.roles r 7 sound.few_groups (room P r GROUP 7 refl free);
  few_specials = few_more SPECIAL P.roles r 7 sound.few_specials (room P r SPECIAL 7 refl free);
  few_defaults = few_more DEFAULT P.roles r 1 sound.few_defaults first;
}
  where
    first : So (of_kind DEFAULT r) → length (roles_of P DEFAULT) < 1
    first t =
        let zero : r.id ≡ 0 = good.id_zero (or_right (of_kind SPECIAL r) t) in
        omega (arith, default_apart P.roles sound.good (rw zero at (new_kind DEFAULT P.roles r refl new t)))
