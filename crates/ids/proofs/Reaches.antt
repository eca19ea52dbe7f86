-- Whether an entry allows an id without a role: by the smallest such id, and at once where all but a few are allowed.
-- Assumes nothing.
use mathlib.Core.Path.{◌≡◌, refl, sym, ap, ◌∙◌}
use mathlib.Core.Logic.{◌⊎◌, inl, inr}
use mathlib.Core.Bool.{true, false, not, So, false≢true}
use mathlib.Core.List.{List}
use Prim.Native.Nat.{ℕ, ◌≤◌, ◌<◌}
use lib.Dec.{eqb}
use lib.ListN.{length}
use Rattle.paths.proofs.Bools.{to-false, decide, left, eqb_of, eqb-to}
use Rattle.gran.specs.Lists.{none}
use Rattle.gran.specs.Policy.{Policy, Allowed, no_id}
use Rattle.gran.specs.Role.{allowed_by, allows}
use Rattle.gran.specs.Good.{roles_of}
use Rattle.gran.specs.Abstract.{is_free, free_id, id_for, reaches}
use Rattle.gran.proofs.Policies.{free_id_free}
use Rattle.gran.proofs.Free.{free_id-none, free_exists}
use Rattle.store.specs.Held.{Loaded}
use Rattle.lookup.specs.Lookup.{entry_at}
use Rattle.ids.specs.Ids.{allowed_of, allowed_read}
use Rattle.ids.proofs.Read.{allowed-read}
use Rattle.ids.proofs.Candidates.{good_ids}

module _ (P : Policy) (k : ℕ) (a : Allowed) where
  nobody : allows a no_id ≡ false
  unfolding allows allowed_by
  nobody = refl

  free_is : is_free P k a (free_id P k a) ≡ not (eqb (free_id P k a) no_id)
  free_is = go (decide (is_free P k a (free_id P k a)))
    where
      n : ℕ
      n = free_id P k a

      go : So (is_free P k a n) ⊎ (is_free P k a n ≡ false) → is_free P k a n ≡ not (eqb n no_id)
      go (inl t) =
          let other : eqb n no_id ≡ false = to-false (eqb n no_id) (λ e. false≢true (sym nobody ∙ rw (eqb-to n no_id e) at (left (allows a n) _ t))) in
          rw (t, other)
      go (inr f) =
          let e : n ≡ no_id = free_id-none P k a (λ m. to-false (is_free P k a m) (λ t. false≢true (sym f ∙ free_id_free P k a m t))) in
          f ∙ rw (eqb_of e)

  pub reaches-none : reaches P k a none ≡ not (eqb (free_id P k a) no_id)
  unfolding reaches id_for
  reaches-none = free_is

module _ {P : Policy} {rest s : List ℕ} (L : Loaded P rest s) (k e : ℕ) (known : e < length P.entries) where
  pub always_free : length (roles_of P k) ≤ 15 → ((allowed_read s k e).mode ≡ 1 → ⊥) → true ≡ reaches P k (allowed_of k (entry_at P e)) none
  unfolding reaches id_for
  always_free few other = sym (free_exists P k (allowed_of k (entry_at P e)) few (good_ids L k e known) (λ d. other (ap (λ (a : Allowed). a.mode) (allowed-read L k e known) ∙ d))).0
