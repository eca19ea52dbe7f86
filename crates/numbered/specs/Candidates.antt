-- The steps of a state as the loops go through them, over the tables' bytes t and the store's bytes s.
-- Laws say that they are the model's steps, in order, each once.
-- Assumes nothing.
use Rattle.std.specs.Prelude.{Bool, true, false, not, cond, ◌&&◌, ◌||◌, List, [], ◌∷◌, ◌++◌, ℕ, zero, suc, ◌+◌, eqb}
use Rattle.gran.specs.Lists.{place}
use Rattle.gran.specs.Policy.{Policy, EXEC, SET_UID, SET_GID}
use Rattle.gran.specs.Match.{objects_of}
use Rattle.gran.specs.Role.{chosen}
use Rattle.gran.specs.Access.{has, sees}
use Rattle.gran.specs.Abstract.{Act, set_special, set_user, set_group, exec, entry, next}
use Rattle.gran.specs.declared.State.{State}
use Rattle.fields.specs.Fields.{entry_caps, object_count, object_path_at, object_modes_at}
use Rattle.tables.specs.Tables.{cell, is_set, special_cell, user_cell, group_cell, stand_cell, grant_cell, take_cell, default_cell, group_reach_cell, user_reach_cell, force_cell, object_cell}
use Rattle.numbered.specs.Number.{number_of, digits_of, state_number}
use Rattle.numbered.specs.declared.Sizes.{Sizes}
use Rattle.numbered.specs.declared.Digits.{Digits}

-- A step: how it is marked, 96 to 98 for 81 to 83, below that the object's place for 84; and the number of the state that it leads to.
pub record Step : Type 0 where
  pub label : ℕ
  pub target : ℕ

-- One step, or none where it may not be done.
abbrev pub offered : Bool → ℕ → ℕ → List Step
offered true label target = record { label = label; target = target } ∷ []
offered false label target = []

-- The lists f k, f (k + 1), .., n of them, one after the other.
unfoldable pub flat : (ℕ → List Step) → ℕ → ℕ → List Step
flat f k zero = []
flat f k (suc n) = f k ++ flat f (k + 1) n

-- ---- what is in force

-- The role, and the entry, in force in a state.
unfoldable pub role_at : List ℕ → Digits → ℕ
role_at t d = chosen (cell t (special_cell d.special)) (cell t (user_cell d.user)) (cell t (group_cell d.group)) (cell t default_cell)

unfoldable pub entry_number : List ℕ → Digits → ℕ
entry_number t d = cell t (force_cell d.subject (role_at t d))

-- The access is granted in the state of a number.
unfoldable pub goal_at : List ℕ → Sizes → ℕ → Bool
goal_at t z n = is_set t (grant_cell (entry_number t (digits_of z n)))

-- ---- 81, 82, 83

-- To special role, user or group j.
abbrev pub with_special : Digits → ℕ → Digits
with_special d j = record { special = j; user = d.user; group = d.group; subject = d.subject }

abbrev pub with_user : Digits → ℕ → Digits
with_user d j = record { special = d.special; user = j; group = d.group; subject = d.subject }

abbrev pub with_group : Digits → ℕ → Digits
with_group d j = record { special = d.special; user = d.user; group = j; subject = d.subject }

abbrev pub with_subject : Digits → ℕ → Digits
with_subject d k = record { special = d.special; user = d.user; group = d.group; subject = k }

unfoldable pub special_step : List ℕ → Sizes → Digits → ℕ → ℕ → List Step
special_step t z d r j = offered (is_set t (take_cell r j)) 96 (number_of z (with_special d j))

unfoldable pub user_step : List ℕ → Sizes → Digits → ℕ → ℕ → List Step
user_step t z d e j = offered (is_set t (user_reach_cell e j)) 97 (number_of z (with_user d j))

unfoldable pub group_step : List ℕ → Sizes → Digits → ℕ → ℕ → List Step
group_step t z d e j = offered (is_set t (group_reach_cell e j)) 98 (number_of z (with_group d j))

unfoldable pub special_steps : List ℕ → Sizes → Digits → ℕ → List Step
special_steps t z d r = flat (special_step t z d r) 0 z.specials

unfoldable pub user_steps : List ℕ → List ℕ → Sizes → Digits → ℕ → List Step
user_steps s t z d e = cond (has (entry_caps s e) SET_UID) (flat (user_step t z d e) 0 z.users) []

unfoldable pub group_steps : List ℕ → List ℕ → Sizes → Digits → ℕ → List Step
group_steps s t z d e = cond (has (entry_caps s e) SET_GID) (flat (group_step t z d e) 0 z.groups) []

-- ---- 84

-- Subject k is in the image of the object at place i of entry e, whose path is c.
unfoldable pub in_image : List ℕ → ℕ → ℕ → ℕ → ℕ → Bool
in_image t e i c k = eqb (cell t (object_cell k e)) i || eqb (cell t (stand_cell c)) k

-- By new subject.
unfoldable pub subject_step : List ℕ → Sizes → Digits → ℕ → ℕ → ℕ → ℕ → List Step
subject_step t z d e i c k = offered (in_image t e i c k) i (number_of z (with_subject d k))

unfoldable pub by_subject : List ℕ → Sizes → Digits → ℕ → ℕ → ℕ → List Step
by_subject t z d e i c = flat (subject_step t z d e i c) 0 z.subjects

-- By group: the kept one first, then the others that are allowed.
unfoldable pub other_group : List ℕ → Sizes → Digits → ℕ → ℕ → ℕ → ℕ → List Step
other_group t z d e i c j = cond (not (eqb j d.group) && is_set t (group_reach_cell e j)) (by_subject t z (with_group d j) e i c) []

unfoldable pub by_group : List ℕ → Sizes → Digits → ℕ → ℕ → ℕ → List Step
by_group t z d e i c = by_subject t z d e i c ++ flat (other_group t z d e i c) 0 z.groups

-- By user, the same.
unfoldable pub other_user : List ℕ → Sizes → Digits → ℕ → ℕ → ℕ → ℕ → List Step
other_user t z d e i c j = cond (not (eqb j d.user) && is_set t (user_reach_cell e j)) (by_group t z (with_user d j) e i c) []

unfoldable pub by_user : List ℕ → Sizes → Digits → ℕ → ℕ → ℕ → List Step
by_user t z d e i c = by_group t z d e i c ++ flat (other_user t z d e i c) 0 z.users

-- By object, those that can be executed.
unfoldable pub object_step : List ℕ → List ℕ → Sizes → Digits → ℕ → ℕ → List Step
object_step s t z d e i = cond (sees (object_modes_at s e i) EXEC) (by_user t z d e i (object_path_at s e i)) []

unfoldable pub object_steps : List ℕ → List ℕ → Sizes → Digits → ℕ → List Step
object_steps s t z d e = flat (object_step s t z d e) 0 (object_count s e)

-- ---- all

unfoldable pub steps_with : List ℕ → List ℕ → Sizes → Digits → ℕ → ℕ → List Step
steps_with s t z d r e = special_steps t z d r ++ (user_steps s t z d e ++ (group_steps s t z d e ++ object_steps s t z d e))

-- The steps of the state of a number.
unfoldable pub candidates : List ℕ → List ℕ → Sizes → ℕ → List Step
candidates s t z n = steps_with s t z (digits_of z n) (role_at t (digits_of z n)) (entry_number t (digits_of z n))

-- ---- the model's steps as such

-- How an act of α is marked.
unfoldable pub label_of : Policy → State → Act → ℕ
label_of P α (set_special s) = 96
label_of P α (set_user u) = 97
label_of P α (set_group g) = 98
label_of P α (exec o u g s) = place (eqb o) 0 (objects_of (entry P α))

-- The step of an act of α.
unfoldable pub step_of : Policy → State → Act → Step
step_of P α a = record { label = label_of P α a; target = state_number P (next α a) }
