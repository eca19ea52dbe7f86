-- The number of `/` decides the tests after the last line; and the loops over paths, roles and entries, by what is left.
-- Assumes nothing.
use mathlib.Core.Path.{◌≡◌, ◌∙◌, refl, sym, ap}
use mathlib.Core.Logic.{◌⊎◌, inl, inr}
use mathlib.Core.Bool.{Bool, true, false, not, cond, ◌&&◌, ◌||◌, So, and-false}
use mathlib.Core.List.{List, [], ◌∷◌, map}
use Prim.Native.Nat.{ℕ, zero, suc, ◌+◌, ◌-◌, ◌<◌}
use native.Mathlib.Nat.{not-suc-le-zero, le_of_suc-le-suc}
use native.Mathlib.Numerals.{add-one}
use native.Mathlib.Omega.{arith}
use borrow.Author.Tests.{ne_eqb}
use lib.Dec.{eqb}
use lib.ListN.{length, get_or, drop}
use lib.Seq.{drop-cons}
use Rattle.paths.specs.Path.{slash, is_slash, good_path, is_path}
use Rattle.paths.proofs.Bools.{left, or_left, or_right, iff-≡, eqb_of, eqb-to}
use Rattle.paths.proofs.Paths.{same→≡}
use Rattle.gran.specs.Lists.{none, any, only, place, member, numbers, All}
use Rattle.gran.specs.Policy.{Policy, Object, Entry, DEFAULT}
use Rattle.gran.specs.Match.{no_entry, subject_path, object_path, of_role, is_entry, subjects_of, objects_of}
use Rattle.gran.specs.Role.{of_kind}
use Rattle.gran.specs.Good.{is_root, roles_of}
use Rattle.gran.proofs.Lists.{all_at, distinct_at, place_is, place-any, numbers-next}
use Rattle.store.specs.Layout.{root_of}
use Rattle.policy.specs.Load.{lacks_entry, lacks_object, unrooted}
use Rattle.policy.specs.Sound.{SoundObject, SoundEntry, SoundPolicy}

-- ---- loops

module _ {A : Type 0} (test : A → Bool) (xs : List A) (d : A) (i : ℕ) where
  pub place-next : i < length xs → (r : Bool) → r ≡ test (get_or xs i d) → place test i (drop i xs) ≡ cond r i (place test (i + 1) (drop (i + 1) xs))
  place-next h r e = rw (add-one, drop-cons xs i d h, e)

module _ (test : ℕ → Bool) (n i : ℕ) where
  pub number-next : i < n → (r : Bool) → r ≡ test i → any test (numbers i (n - i)) ≡ (r || any test (numbers (i + 1) (n - (i + 1))))
  number-next h r e = rw (numbers-next i n h, e)

-- ---- a default role

some_is : {A : Type 0} (test : A → Bool) (xs : List A) → any test xs ≡ not (eqb (length (only test xs)) 0)
some_is test [] = refl
some_is test (x ∷ xs) = go (test x) (some_is test xs)
  where
    go : (b : Bool) → any test xs ≡ not (eqb (length (only test xs)) 0) → (b || any test xs) ≡ not (eqb (length (cond b (x ∷ only test xs) (only test xs))) 0)
    go true ih = rw (ne_eqb (length (x ∷ only test xs)) 0 (λ e. omega arith))
    go false ih = ih

module _ (P : Policy) (n : ℕ) (e : n ≡ length (roles_of P DEFAULT)) where
  pub no_default : n ≡ 0 → unrooted P ≡ true
  unfolding unrooted
  no_default z = rw (some_is (of_kind DEFAULT) P.roles, ← e, z)

  pub with_default : (n ≡ 0 → ⊥) → unrooted P ≡ (any (lacks_entry P) (numbers 0 (length P.roles)) || any (lacks_object P) P.entries)
  unfolding unrooted
  with_default z = rw (some_is (of_kind DEFAULT) P.roles, ← e, ne_eqb n 0 z)

-- ---- `/`

-- a good path of one byte, and no other, is `/`
pub slash_one : (p : List ℕ) → So (good_path true p) → is_slash p ≡ eqb (length p) 1
unfolding good_path is_path
slash_one [] g = refl
slash_one (b ∷ []) g = rw (left (eqb b slash) true (left (eqb b slash && true) _ g))
slash_one (b ∷ (c ∷ bs)) g = and-false (eqb b slash) ∙ sym (ne_eqb (length (b ∷ (c ∷ bs))) 1 (λ e. omega arith))

any_at : {A : Type 0} (test : A → Bool) (xs : List A) (d : A) (i : ℕ) → i < length xs → So (test (get_or xs i d)) → So (any test xs)
any_at test [] d i h t = absurd (not-suc-le-zero h)
any_at test (x ∷ xs) d zero h t = or_left _ t
any_at test (x ∷ xs) d (suc i) h t = or_right (test x) (any_at test xs d i (le_of_suc-le-suc h) t)

module _ (P : Policy) (sound : SoundPolicy P) where
  root_is : (c : ℕ) → c < length P.paths → is_root P c ≡ eqb (root_of P) c
  unfolding root_of
  root_is c l = go (place_is is_slash [] 0 P.paths)
    where
      go : (place is_slash 0 P.paths ≡ none) ⊎ ((j : ℕ) × (place is_slash 0 P.paths ≡ 0 + j) × (j < length P.paths) × So (is_slash (get_or P.paths j []))) → is_root P c ≡ eqb (place is_slash 0 P.paths) c
      go (inl e) =
          iff-≡ _ _ (λ t. absurd (omega (arith, place-any is_slash 0 P.paths (any_at is_slash P.paths [] c l t), sound.paths.few)))
          (λ t. absurd (omega (arith, eqb-to _ c t, sound.paths.few)))
      go (inr (j, e, m, s)) =
          iff-≡ _ _ (λ t. eqb_of (e ∙ omega (arith, distinct_at P.paths [] sound.paths.distinct c j l m (same→≡ _ _ t ∙ sym (same→≡ _ _ s)))))
          (λ t. let at : c ≡ j = omega (arith, eqb-to _ c t) in rw at s)

  subjects_root : (r : ℕ) (es : List Entry) → All (SoundEntry (length P.roles) (length P.paths)) es →
      any (is_root P) (map subject_path (only (of_role r) es)) ≡ any (is_entry r (root_of P)) es
  subjects_root r [] h = refl
  subjects_root r (e ∷ es) h = go (of_role r e) (subjects_root r es h.1)
    where
      go : (b : Bool) → any (is_root P) (map subject_path (only (of_role r) es)) ≡ any (is_entry r (root_of P)) es →
          any (is_root P) (map subject_path (cond b (e ∷ only (of_role r) es) (only (of_role r) es))) ≡ (b && eqb (root_of P) e.subject || any (is_entry r (root_of P)) es)
      go true ih = rw (root_is e.subject h.0.subject, ih)
      go false ih = ih

  objects_root : (os : List Object) → All (SoundObject (length P.paths)) os → any (is_root P) (map object_path os) ≡ member (root_of P) (map object_path os)
  objects_root [] h = refl
  objects_root (o ∷ os) h = rw (root_is o.path h.0.path, objects_root os h.1)

  pub lacks-entry : (r root : ℕ) (b : Bool) → root ≡ root_of P → b ≡ any (is_entry r root) P.entries → not b ≡ lacks_entry P r
  unfolding lacks_entry subjects_of
  lacks-entry r root b e f = rw (f, e) (sym (ap not (subjects_root r P.entries sound.entries.good)))

  pub lacks-object : (n : ℕ) → n < length P.entries → (root : ℕ) (b : Bool) → root ≡ root_of P → b ≡ member root (objects_of (get_or P.entries n no_entry)) → not b ≡ lacks_object P (get_or P.entries n no_entry)
  unfolding lacks_object objects_of
  lacks-object n l root b e f = rw (f, e) (sym (ap not (objects_root (get_or P.entries n no_entry).objects (all_at _ P.entries no_entry sound.entries.good n l).objects)))

  pub root_here : (n : ℕ) → n < length P.paths → is_slash (get_or P.paths n []) ≡ eqb (length (get_or P.paths n [])) 1
  root_here n l = slash_one _ (all_at _ P.paths [] sound.paths.good n l)
