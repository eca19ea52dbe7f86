-- A loop over the places of a list gives what the model's list of acts gives.
-- Assumes nothing.
use mathlib.Core.Path.{◌≡◌, refl, ap, ◌∙◌}
use mathlib.Core.Bool.{Bool, true, false, not, cond, ◌&&◌}
use mathlib.Core.List.{List, [], ◌∷◌, ◌++◌, map, map-append}
use Prim.Native.Nat.{ℕ, suc, ◌+◌, ◌<◌}
use native.Mathlib.Omega.{arith}
use lib.Dec.{eqb}
use lib.ListN.{length, get_or}
use Rattle.paths.proofs.Bools.{eqb_of}
use Rattle.gran.specs.Lists.{none, only}
use Rattle.gran.specs.Policy.{Policy, Allowed}
use Rattle.gran.specs.Exec.{exec_may}
use Rattle.gran.specs.Abstract.{Act, reaches}
use Rattle.runs.specs.Steps.{each, is_other, kept_first, can_set, can_follow}
use Rattle.numbered.specs.Candidates.{Step, offered, flat}

-- ---- one act for each that passes

module _ (mark : Act → Step) where
  -- What the loop does at a place: the acts of what stands there, if it passes.
  abbrev pub At-place : (ℕ → List Step) → (ℕ → Bool) → (ℕ → List Act) → ℕ → ℕ → Type 0
  At-place f test acts i x = f i ≡ cond (test x) (map mark (acts x)) []

  module _ (f : ℕ → List Step) (test : ℕ → Bool) (acts : ℕ → List Act) where
    flat-from : (k : ℕ) (xs : List ℕ) → ((i j : ℕ) → i ≡ k + j → j < length xs → At-place f test acts i (get_or xs j none)) → flat f k (length xs) ≡ map mark (each (only test xs) acts)
    unfolding flat
    flat-from k [] h = refl
    flat-from k (x ∷ xs) h = rw (h k 0 (omega arith) (omega arith)) (go (test x) (flat-from (k + 1) xs (λ i j e l. h i (suc j) (omega arith) (omega arith))))
      where
        go : (b : Bool) → flat f (k + 1) (length xs) ≡ map mark (each (only test xs) acts)
            → cond b (map mark (acts x)) [] ++ flat f (k + 1) (length xs) ≡ map mark (each (cond b (x ∷ only test xs) (only test xs)) acts)
        go true ih = rw (ih, map-append mark (acts x) (each (only test xs) acts))
        go false ih = ih

    pub loop_is : (xs : List ℕ) → ((j : ℕ) → j < length xs → At-place f test acts j (get_or xs j none)) → flat f 0 (length xs) ≡ map mark (each (only test xs) acts)
    loop_is xs h = flat-from 0 xs (λ i j e l. let same : i ≡ j = omega arith in rw same (h j l))

  -- One act each.
  abbrev pub single : (ℕ → Act) → ℕ → List Act
  single act x = act x ∷ []

  each_single : (act : ℕ → Act) (xs : List ℕ) → each xs (single act) ≡ map act xs
  each_single act [] = refl
  each_single act (x ∷ xs) = ap (◌∷◌ (act x)) (each_single act xs)

  pub offered_is : (b c : Bool) (label target : ℕ) (act : Act) → b ≡ c → mark act ≡ record { label = label; target = target } → offered b label target ≡ cond c (mark act ∷ []) []
  offered_is true c label target act e m = rw (← e, m)
  offered_is false c label target act e m = rw (← e)

  pub row_is : (f : ℕ → List Step) (test : ℕ → Bool) (act : ℕ → Act) (xs : List ℕ)
      → ((j : ℕ) → j < length xs → At-place f test (single act) j (get_or xs j none)) → flat f 0 (length xs) ≡ map mark (map act (only test xs))
  row_is f test act xs h = loop_is f test (single act) xs h ∙ ap (map mark) (each_single act (only test xs))

-- ---- roles that can be set, and roles after an exec

module _ (P : Policy) (k : ℕ) (a : Allowed) where
  unable : (rs : List ℕ) → only (can_set P k false a) rs ≡ []
  unfolding can_set
  unable [] = refl
  unable (r ∷ rs) = unable rs

  -- With the capability those that are reached, without it none.
  pub set_is : (mark : Act → Step) (cap : Bool) (f : ℕ → List Step) (act : ℕ → Act) (rs : List ℕ)
      → ((j : ℕ) → j < length rs → At-place mark f (reaches P k a) (single mark act) j (get_or rs j none))
      → cond cap (flat f 0 (length rs)) [] ≡ map mark (map act (only (can_set P k cap a) rs))
  unfolding can_set
  set_is mark true f act rs h = row_is mark f (can_set P k true a) act rs h
  set_is mark false f act rs h = rw (unable rs)

  module _ (kept : ℕ) where
    -- Another role than the kept one, which is reached.
    abbrev pub other : ℕ → Bool
    other r = is_other kept r && reaches P k a r

    others : (rs : List ℕ) → only (can_follow P k a kept) (only (is_other kept) rs) ≡ only other rs
    unfolding is_other can_follow exec_may
    others [] = refl
    others (r ∷ rs) = go (eqb r kept) refl (others rs)
      where
        rest : List ℕ
        rest = only (is_other kept) rs

        go : (b : Bool) → eqb r kept ≡ b → only (can_follow P k a kept) rest ≡ only other rs
            → only (can_follow P k a kept) (cond (not b) (r ∷ rest) rest) ≡ cond (not b && reaches P k a r) (r ∷ only other rs) (only other rs)
        go true e ih = ih
        go false e ih = rw (e, ih)

    kept-first : (rs : List ℕ) → only (can_follow P k a kept) (kept_first kept rs) ≡ kept ∷ only other rs
    unfolding kept_first can_follow exec_may
    kept-first rs = rw (eqb_of {m = kept} refl) (ap (◌∷◌ kept) (others rs))

    -- The kept one first, then the others.
    pub after_is : (mark : Act → Step) (f : ℕ → List Step) (acts : ℕ → List Act) (first : List Step) (rs : List ℕ)
        → first ≡ map mark (acts kept)
        → ((j : ℕ) → j < length rs → At-place mark f other acts j (get_or rs j none))
        → first ++ flat f 0 (length rs) ≡ map mark (each (only (can_follow P k a kept) (kept_first kept rs)) acts)
    after_is mark f acts first rs e h =
        rw (kept-first rs, e, loop_is mark f other acts rs h, map-append mark (acts kept) (each (only other rs) acts))
