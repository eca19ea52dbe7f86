-- Lists with one element more at their end.
-- Assumes nothing.
use mathlib.Core.Path.{◌≡◌, refl, sym, ap, ◌∙◌}
use mathlib.Core.Bool.{Bool, false, So, false≢true}
use mathlib.Core.List.{List, [], ◌∷◌, ◌++◌, map, append-nil}
use Rattle.paths.proofs.Bools.{neither}
use Rattle.gran.specs.Lists.{any, only, All, Distinct}
use Rattle.gran.proofs.Members.{only_append}

pub map_more : {A B : Type 0} (key : A → B) (xs : List A) (x : A) → map key (xs ++ x ∷ []) ≡ map key xs ++ key x ∷ []
map_more key [] x = refl
map_more {B = B} key (y ∷ ys) x = ap (λ (zs : List B). key y ∷ zs) (map_more key ys x)

module _ {A : Type 0} where
  pub all_more : (Q : A → Type 0) (xs : List A) (x : A) → All Q xs → Q x → All Q (xs ++ x ∷ [])
  all_more Q [] x h q = (q, tt)
  all_more Q (y ∷ ys) x h q = (h.0, all_more Q ys x h.1 q)

  pub all_imply : (Q R : A → Type 0) → ((x : A) → Q x → R x) → (xs : List A) → All Q xs → All R xs
  all_imply Q R f [] h = tt
  all_imply Q R f (x ∷ xs) h = (f x h.0, all_imply Q R f xs h.1)

  pub all_both : (Q R : A → Type 0) (xs : List A) → All Q xs → All R xs → All (λ (x : A). Q x × R x) xs
  all_both Q R [] h k = tt
  all_both Q R (x ∷ xs) h k = ((h.0, k.0), all_both Q R xs h.1 k.1)

  pub all_map : {B : Type 0} (key : A → B) (Q : B → Type 0) (xs : List A) → All (λ (x : A). Q (key x)) xs → All Q (map key xs)
  all_map key Q [] h = tt
  all_map key Q (x ∷ xs) h = (h.0, all_map key Q xs h.1)

  pub distinct_more : (xs : List A) (x : A) → Distinct xs → All (λ (y : A). y ≡ x → ⊥) xs → Distinct (xs ++ x ∷ [])
  distinct_more [] x h a = (tt, tt)
  distinct_more (y ∷ ys) x h a = (all_more (λ (z : A). y ≡ z → ⊥) ys x h.0 a.0, distinct_more ys x h.1 a.1)

  -- A test that each element with a key passes, and that none passes: no element has the key.
  pub all_apart : {B : Type 0} (key : A → B) (k : B) (test : A → Bool) → ((x : A) → key x ≡ k → So (test x)) → (xs : List A) → any test xs ≡ false
      → All (λ (x : A). key x ≡ k → ⊥) xs
  all_apart key k test f [] e = tt
  all_apart key k test f (x ∷ xs) e =
      let p = neither (test x) _ e in
      (λ (d : key x ≡ k). false≢true (sym p.0 ∙ f x d), all_apart key k test f xs p.1)

  module _ (test : A → Bool) where
    pub only-taken : (xs : List A) (x : A) → So (test x) → only test (xs ++ x ∷ []) ≡ only test xs ++ x ∷ []
    only-taken xs x t = only_append test xs (x ∷ []) ∙ rw t

    pub only_left : (xs : List A) (x : A) → test x ≡ false → only test (xs ++ x ∷ []) ≡ only test xs
    only_left xs x e = only_append test xs (x ∷ []) ∙ rw e (append-nil (only test xs))
