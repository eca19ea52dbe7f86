-- Which steps there are, by what the code found.
-- Assumes nothing.
use mathlib.Core.Path.{◌≡◌, refl}
use mathlib.Core.Bool.{Bool, cond}
use mathlib.Core.List.{List, []}
use Prim.Native.Nat.{ℕ}
use Rattle.gran.specs.Policy.{SET_UID, SET_GID}
use Rattle.gran.specs.Access.{has}
use Rattle.fields.specs.Fields.{entry_caps}
use Rattle.tables.specs.Tables.{cell, force_cell}
use Rattle.numbered.specs.Number.{digits_of}
use Rattle.numbered.specs.Candidates.{Step, flat, role_at, entry_number, user_step, group_step, user_steps, group_steps, steps_with, candidates}
use Rattle.numbered.specs.declared.Sizes.{Sizes}
use Rattle.numbered.specs.declared.Digits.{Digits}

module _ (s t : List ℕ) (z : Sizes) (d : Digits) (e : ℕ) where
  pub users_if : {leave : Bool} {xs : List Step} → leave ≡ has (entry_caps s e) SET_UID → xs ≡ flat (user_step t z d e) 0 z.users → cond leave xs [] ≡ user_steps s t z d e
  unfolding user_steps
  users_if h is = rw (h, is)

  pub groups_if : {leave : Bool} {xs : List Step} → leave ≡ has (entry_caps s e) SET_GID → xs ≡ flat (group_step t z d e) 0 z.groups → cond leave xs [] ≡ group_steps s t z d e
  unfolding group_steps
  groups_if h is = rw (h, is)

-- The digits, the role and the entry, each computed once.
pub steps_are : (s t : List ℕ) (z : Sizes) (n : ℕ) (d : Digits) (r e : ℕ) → d ≡ digits_of z n → r ≡ role_at t d → e ≡ cell t (force_cell d.subject r) → steps_with s t z d r e ≡ candidates s t z n
unfolding candidates entry_number
steps_are s t z n d r e hd hr he = rw (he, hr, hd) refl
