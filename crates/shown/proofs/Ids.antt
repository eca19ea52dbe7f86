-- The ids that stand for roles, and the ids after an exec, for users and groups alike.
-- Assumes nothing.
use mathlib.Core.Path.{◌≡◌, sym, ◌∙◌}
use mathlib.Core.Logic.{inl, inr}
use mathlib.Core.List.{List}
use Prim.Native.Nat.{ℕ}
use borrow.Author.Tests.{eq-eqb, ne_eqb}
use Rattle.gran.specs.Lists.{none}
use Rattle.gran.specs.Policy.{Policy, Allowed}
use Rattle.gran.specs.Role.{role_of}
use Rattle.gran.specs.Abstract.{free_id, id_for, id_after}
use Rattle.gran.proofs.Policies.{Known}
use Rattle.store.specs.Held.{Loaded}
use Rattle.fields.specs.Fields.{role_id}
use Rattle.fields.proofs.Roles.{role-id}

module _ (P : Policy) (k : ℕ) (a : Allowed) (r : ℕ) where
  pub free_stands : r ≡ none → free_id P k a ≡ id_for P k a r
  unfolding id_for
  free_stands e = rw (eq-eqb r none e)

  pub role_stands : {rest s : List ℕ} → Loaded P rest s → (r ≡ none → ⊥) → Known P r → role_id s r ≡ id_for P k a r
  unfolding id_for
  role_stands loaded some (inl e) = absurd (some e)
  role_stands loaded some (inr h) = rw (ne_eqb r none some) (role-id loaded r h)

  module _ (n kept : ℕ) (has : kept ≡ role_of P k n) where
    pub id_kept : r ≡ kept → n ≡ id_after P k a n r
    unfolding id_after
    id_kept e = rw (eq-eqb r (role_of P k n) (e ∙ has))

    pub id_new : (r ≡ kept → ⊥) → id_for P k a r ≡ id_after P k a n r
    unfolding id_after
    id_new other = rw (ne_eqb r (role_of P k n) (λ e. other (e ∙ sym has)))
