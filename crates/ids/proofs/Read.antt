-- What the rows of a loaded store say of the policy's roles, moves and allowed ids.
-- Assumes nothing.
use mathlib.Core.Path.{◌≡◌, refl, sym, ap, ◌∙◌}
use mathlib.Core.Logic.{◌⊎◌, inl, inr}
use mathlib.Core.Bool.{Bool, true, false, cond, ◌||◌, So}
use mathlib.Core.List.{List, [], ◌∷◌}
use Prim.Native.Nat.{ℕ, suc, ◌<◌}
use lib.Dec.{eqb}
use lib.ListN.{length}
use Rattle.paths.proofs.Bools.{decide, or_right}
use Rattle.gran.specs.Lists.{none, any, place, All}
use Rattle.gran.specs.Policy.{Policy, Role, Allowed, USER, SPECIAL, DEFAULT}
use Rattle.gran.specs.Match.{no_entry}
use Rattle.gran.specs.Role.{of_kind, is_role, is_move, role_of, default_role, may_take}
use Rattle.gran.specs.Good.{Good, GoodRole}
use Rattle.store.specs.Held.{Loaded}
use Rattle.fields.specs.Fields.{row, entry_count, role_count, role_read, move_count, move_read, user_mode, group_mode, uid_count, gid_count, uid_at, gid_at, entry_read, policy_in}
use Rattle.fields.proofs.Header.{entry-count}
use Rattle.fields.proofs.Again.{policy-again}
use Rattle.fields.proofs.Rows.{row_at}
use Rattle.lookup.specs.Lookup.{entry_at}
use Rattle.ids.specs.Ids.{allowed_of, id_count, id_at, allowed_read}

-- a default role has the id 0
default-place : (i : ℕ) (rs : List Role) → All GoodRole rs → place (is_role DEFAULT 0) i rs ≡ place (of_kind DEFAULT) i rs
default-place i [] g = refl
default-place i (r ∷ rs) g = go (decide (of_kind DEFAULT r)) (default-place (suc i) rs g.1)
  where
    go : So (of_kind DEFAULT r) ⊎ (of_kind DEFAULT r ≡ false) → place (is_role DEFAULT 0) (suc i) rs ≡ place (of_kind DEFAULT) (suc i) rs
        → place (is_role DEFAULT 0) i (r ∷ rs) ≡ place (of_kind DEFAULT) i (r ∷ rs)
    go (inl t) ih = rw (t, g.0.id_zero (or_right (of_kind SPECIAL r) t))
    go (inr t) ih = rw (t, ih)

pub default_read : (P : Policy) → Good P → role_of P DEFAULT 0 ≡ default_role P
unfolding role_of default_role
default_read P good = default-place 0 P.roles good.roles

-- the allowed ids of a kind, as they are read
read_of : (s : List ℕ) (k e : ℕ) → allowed_read s k e ≡ allowed_of k (entry_read s e)
unfolding id_count id_at
read_of s k e = go (eqb k USER)
  where
    go : (b : Bool) → ◌≡◌ {A = Allowed} (record { mode = cond b (user_mode s e) (group_mode s e); ids = row (λ (i : ℕ). cond b (uid_at s e i) (gid_at s e i)) 0 (cond b (uid_count s e) (gid_count s e)) })
        (cond b (entry_read s e).users (entry_read s e).groups)
    go true = refl
    go false = refl

module _ {P : Policy} {rest s : List ℕ} (L : Loaded P rest s) where
  pub role-read : (k n : ℕ) → place (is_role k n) 0 (row (role_read s) 0 (role_count s)) ≡ role_of P k n
  unfolding role_of policy_in
  role-read k n = ap (λ (Q : Policy). place (is_role k n) 0 Q.roles) (policy-again L)

  pub take_read : (r t : ℕ) → (eqb t none || any (is_move r t) (row (move_read s) 0 (move_count s))) ≡ may_take P r t
  unfolding may_take policy_in
  take_read r t = ap (λ (Q : Policy). eqb t none || any (is_move r t) Q.moves) (policy-again L)

  pub allowed-read : (k e : ℕ) → e < length P.entries → allowed_read s k e ≡ allowed_of k (entry_at P e)
  unfolding policy_in
  allowed-read k e l = read_of s k e ∙ ap (allowed_of k) (sym (row_at (entry_read s) no_entry (entry_count s) e (rw (entry-count L) l)) ∙ ap (λ (Q : Policy). entry_at Q e) (policy-again L))
