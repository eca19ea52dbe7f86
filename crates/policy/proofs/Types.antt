-- By a frame's type: the seven that add to the policy, and the others.
-- Assumes nothing.
use mathlib.Core.Path.{◌≡◌}
use Prim.Native.Nat.{ℕ}
use native.Mathlib.Decide.{ℕ_discrete}
use borrow.Author.Tests.{ne_eqb}
use Rattle.lines.specs.declared.Frame.{Frame}
use Rattle.gran.specs.Policy.{Policy}
use Rattle.policy.specs.Frames.{type_of}
use Rattle.policy.specs.Load.{add}

-- None of the seven.
pub record Other (t : ℕ) : Type 0 where
  pub not_10 : t ≡ 0x10 → ⊥
  pub not_20 : t ≡ 0x20 → ⊥
  pub not_30 : t ≡ 0x30 → ⊥
  pub not_40 : t ≡ 0x40 → ⊥
  pub not_41 : t ≡ 0x41 → ⊥
  pub not_42 : t ≡ 0x42 → ⊥
  pub not_43 : t ≡ 0x43 → ⊥

module _ {Q : Type 0} (n : ℕ) where
  is_or-not : (t : ℕ) → (n ≡ t → Q) → ((n ≡ t → ⊥) → Q) → Q
  is_or-not t is is-not = go (ℕ_discrete n t)
    where
      go : Dec (n ≡ t) → Q
      go (yes e) = is e
      go (no d) = is-not d

  pub by_type : (n ≡ 0x10 → Q) → (n ≡ 0x20 → Q) → (n ≡ 0x30 → Q) → (n ≡ 0x40 → Q) → (n ≡ 0x41 → Q) → (n ≡ 0x42 → Q) → (n ≡ 0x43 → Q) → (Other n → Q) → Q
  by_type role path move entry object uid gid other =
      is_or-not 0x10 role
      (λ a. is_or-not 0x20 path
      (λ b. is_or-not 0x30 move
      (λ c. is_or-not 0x40 entry
      (λ d. is_or-not 0x41 object
      (λ e. is_or-not 0x42 uid
      (λ f. is_or-not 0x43 gid
      (λ g. other (record { not_10 = a; not_20 = b; not_30 = c; not_40 = d; not_41 = e; not_42 = f; not_43 = g }))))))))

-- A frame of another type adds nothing.
pub add_other : (P : Policy) (f : Frame) → Other (type_of f) → add P f ≡ P
unfolding add
add_other P f o =
    rw (ne_eqb _ _ o.not_10, ne_eqb _ _ o.not_20, ne_eqb _ _ o.not_30, ne_eqb _ _ o.not_40, ne_eqb _ _ o.not_41, ne_eqb _ _ o.not_42, ne_eqb _ _ o.not_43)
