-- Laws of digests and their marks.
-- Assumes nothing.
use mathlib.Core.Path.{◌≡◌, refl, sym, ap, ◌∙◌}
use mathlib.Core.Logic.{◌⊎◌, inl, inr}
use mathlib.Core.Bool.{Bool, true, false, cond, So, false≢true}
use mathlib.Core.List.{List, [], ◌∷◌, ◌++◌}
use Prim.Native.Nat.{ℕ, suc, ◌+◌, ◌*◌, ◌≤◌, ◌<◌}
use native.Mathlib.Nat.{add_assoc, mul-le-mul_right}
use native.Mathlib.Numerals.{add-one}
use native.Mathlib.Omega.{arith}
use lib.ListN.{length, get_or, drop, set, drop_of_length-le}
use lib.Seq.{drop-cons, get_or-set_same, get_or-set_other}
use Rattle.lines.specs.declared.Frame.{Frame}
use Rattle.paths.specs.Path.{same}
use Rattle.paths.proofs.Bools.{or_left, or_right, either, eqb-to}
use Rattle.paths.proofs.Paths.{same→≡}
use Rattle.gran.specs.Lists.{any}
use Rattle.gran.specs.Policy.{Policy}
use Rattle.store.specs.Grow.{with_path}
use Rattle.policy.specs.Frames.{type_of, is_type, path_from}
use Rattle.policy.specs.Load.{add}
use Rattle.judge.specs.Noted.{weighed, digest_of, Noted}

-- one byte more, and no byte more
module _ (path : List ℕ) (i : ℕ) where
  pub weighed-next : (sum b : ℕ) → i < length path → b ≡ get_or path i 0 → sum + weighed (i + 1) (drop i path) ≡ sum + (i + 1) * b + weighed (i + 1 + 1) (drop (i + 1) path)
  unfolding weighed
  weighed-next sum b h e = rw (drop-cons path i 0 h, e, add-one i, add-one (suc i)) (sym (add_assoc sum _ _))

  pub weighed-end : length path ≤ i → weighed (i + 1) (drop i path) ≡ 0
  unfolding weighed
  weighed-end h = rw (drop_of_length-le path {i = i} h)

pub product_most : (n b : ℕ) → n ≤ 80 → b < 256 → n * b ≤ 20480
product_most n b h l = omega (arith, mul-le-mul_right b h)

-- ---- a policy with one path more

-- a path of the longer table is one of the shorter, or the last
any_last : (path last : List ℕ) (paths : List (List ℕ)) → So (any (same path) (paths ++ last ∷ [])) → So (any (same path) paths) ⊎ (path ≡ last)
any_last path last [] t = go (either (same path last) false t)
  where
    go : So (same path last) ⊎ So false → So false ⊎ (path ≡ last)
    go (inl u) = inr (same→≡ path last u)
    go (inr u) = inl u
any_last path last (p ∷ paths) t = go (either (same path p) _ t) (any_last path last paths)
  where
    go : So (same path p) ⊎ So (any (same path) (paths ++ last ∷ [])) → (So (any (same path) (paths ++ last ∷ [])) → So (any (same path) paths) ⊎ (path ≡ last)) → So (any (same path) (p ∷ paths)) ⊎ (path ≡ last)
    go (inl u) more = inl (or_left _ u)
    go (inr u) more = past (more u)
      where
        past : So (any (same path) paths) ⊎ (path ≡ last) → So (any (same path) (p ∷ paths)) ⊎ (path ≡ last)
        past (inl v) = inl (or_right (same path p) v)
        past (inr v) = inr v

noted_path : (P : Policy) (marks last : List ℕ) → digest_of last < length marks → Noted P marks → Noted (with_path P last) (set marks (digest_of last) 1)
noted_path P marks last inside noted path listed none = go (any_last path last P.paths listed)
  where
    marked : digest_of path ≡ digest_of last → ⊥
    marked e = omega (arith, get_or-set_same marks (digest_of last) 1 0 inside, rw e at none)

    go : So (any (same path) P.paths) ⊎ (path ≡ last) → ⊥
    go (inl u) = noted path u (sym (get_or-set_other marks (digest_of last) (digest_of path) 1 0 marked) ∙ none)
    go (inr e) = marked (ap digest_of e)

-- what a frame adds: of either policy the paths are these, so of the one that is picked
picked : {paths : List (List ℕ)} (test : Bool) (P Q : Policy) → P.paths ≡ paths → Q.paths ≡ paths → (cond test P Q).paths ≡ paths
picked true P Q p q = p
picked false P Q p q = q

other_paths : (P : Policy) (f : Frame) → is_type 0x20 f ≡ false → (add P f).paths ≡ P.paths
unfolding add
other_paths P f other =
    picked (is_type 0x10 f) _ _ refl
    (rw other
    (picked (is_type 0x30 f) _ _ refl
    (picked (is_type 0x40 f) _ _ refl
    (picked (is_type 0x41 f) _ _ refl
    (picked (is_type 0x42 f) _ _ refl
    (picked (is_type 0x43 f) _ _ refl refl))))))

pub noted_other : (P : Policy) (f : Frame) (marks : List ℕ) → is_type 0x20 f ≡ false → Noted P marks → Noted (add P f) marks
noted_other P f marks other noted path listed = noted path (rw (other_paths P f other) at listed)

pub noted_added : (P : Policy) (f : Frame) (marks : List ℕ) → is_type 0x20 f ≡ true → digest_of (path_from f) < length marks → Noted P marks → Noted (add P f) (set marks (digest_of (path_from f)) 1)
unfolding add
noted_added P f marks is inside noted = rw (no-role is, is) (noted_path P marks (path_from f) inside noted)
  where
    no-role : is_type 0x20 f ≡ true → is_type 0x10 f ≡ false
    no-role e = rw (eqb-to (type_of f) 0x20 e)

pub noted-none : (P : Policy) (marks : List ℕ) → P.paths ≡ [] → Noted P marks
noted-none P marks none path listed = absurd (false≢true (rw none at listed))
