-- The smallest free id is among the candidates: the listed ids, or the first 32.
-- Assumes nothing.
use mathlib.Core.Path.{◌≡◌, sym, subst, ◌∙◌}
use mathlib.Core.Logic.{◌⊎◌, inl, inr}
use mathlib.Core.Bool.{Bool, true, false, cond, So, false≢true}
use mathlib.Core.List.{List}
use Prim.Native.Nat.{ℕ, ◌≤◌, ◌<◌}
use native.Mathlib.Omega.{arith}
use lib.Dec.{eqb, ltb}
use lib.ListN.{length}
use Rattle.paths.proofs.Bools.{decide, left, right, eqb_of, eqb-to}
use Rattle.gran.specs.Lists.{member}
use Rattle.gran.specs.Policy.{Policy, Allowed, USER, no_id}
use Rattle.gran.specs.Role.{allowed_by, allows}
use Rattle.gran.specs.Abstract.{is_free, free_id}
use Rattle.gran.specs.Good.{GoodIds, GoodEntry, roles_of}
use Rattle.gran.proofs.Free.{free_exists, free_id_least}
use Rattle.store.specs.Held.{Loaded}
use Rattle.fields.specs.Fields.{row}
use Rattle.fields.proofs.Rows.{row_at, row-length}
use Rattle.lookup.specs.Lookup.{entry_at}
use Rattle.lookup.proofs.Matches.{good-entry}
use Rattle.lookup.proofs.Search.{any_place}
use Rattle.ids.specs.Ids.{allowed_of, id_count, id_at, allowed_read, candidate_count, candidate_at, offered, least_of}
use Rattle.ids.proofs.Read.{allowed-read}
use Rattle.ids.proofs.Least.{Whole, least_free}

-- under mode 1 an allowed id is listed
listed : (a : Allowed) (x : ℕ) → a.mode ≡ 1 → So (allows a x) → So (member x a.ids)
unfolding allows allowed_by
listed a x e t = right (ltb x no_id) _ (rw e at t)

module _ (P : Policy) (s : List ℕ) (k e : ℕ) (good : GoodIds (allowed_read s k e)) (few : length (roles_of P k) ≤ 15) where
  whole : Whole P k (allowed_read s k e) (candidate_at s k e) (candidate_count s k e)
  unfolding candidate_count candidate_at
  whole x t = go (decide (eqb (allowed_read s k e).mode 1))
    where
      go : So (eqb (allowed_read s k e).mode 1) ⊎ (eqb (allowed_read s k e).mode 1 ≡ false)
          → (j : ℕ) × (j < candidate_count s k e) × So (is_free P k (allowed_read s k e) (candidate_at s k e j)) × (candidate_at s k e j ≤ x)
      go (inl m) =
          let r = any_place (eqb x) 0 (row (id_at s k e) 0 (id_count s k e)) (listed (allowed_read s k e) x (eqb-to _ 1 m) (left _ _ t)) in
          let inside : r.0 < id_count s k e = rw (row-length (id_at s k e) (id_count s k e)) at r.1 in
          let is : id_at s k e r.0 ≡ x = sym (eqb-to x _ r.2 ∙ row_at (id_at s k e) 0 (id_count s k e) r.0 inside) in
          rw m (r.0, inside, rw is t, omega (arith, is))
      go (inr m) =
          let F = free_exists P k (allowed_read s k e) few good (λ d. false≢true (sym m ∙ eqb_of d)) in
          let above : x < free_id P k (allowed_read s k e) → ⊥ = λ h. false≢true (sym (free_id_least P k (allowed_read s k e) x h) ∙ t) in
          rw m (free_id P k (allowed_read s k e), F.1, F.0, omega (arith, above))

module _ {P : Policy} {rest s : List ℕ} (L : Loaded P rest s) (k e : ℕ) (known : e < length P.entries) where
  pub good_ids : GoodIds (allowed_of k (entry_at P e))
  good_ids = go (eqb k USER)
    where
      E : GoodEntry P (entry_at P e)
      E = good-entry P L.good e known

      go : (b : Bool) → GoodIds (cond b (entry_at P e).users (entry_at P e).groups)
      go true = E.users
      go false = E.groups

  pub free_found : length (roles_of P k) ≤ 15 → least_of (offered P k (allowed_of k (entry_at P e)) (candidate_at s k e)) (candidate_count s k e) ≡ free_id P k (allowed_of k (entry_at P e))
  free_found few =
      let same = allowed-read L k e known in
      subst (λ (a : Allowed). least_of (offered P k a (candidate_at s k e)) (candidate_count s k e) ≡ free_id P k a) same
      (least_free P k (allowed_read s k e) (candidate_at s k e) (candidate_count s k e) (whole P s k e (subst GoodIds (sym same) good_ids) few))
