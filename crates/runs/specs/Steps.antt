-- The steps of an abstract state in the order of document 01, "Which steps", in the shape in which loops visit them.
-- Assumes nothing.
use Rattle.std.specs.Prelude.{Bool, not, ◌&&◌, List, [], ◌∷◌, ◌++◌, map, ℕ, eqb}
use Rattle.gran.specs.Lists.{none, only, places}
use Rattle.gran.specs.Policy.{Policy, Entry, Allowed, USER, GROUP, SPECIAL, SET_UID, SET_GID, EXEC}
use Rattle.gran.specs.Match.{paths_of_s, objects_of, modes_of}
use Rattle.gran.specs.Role.{of_kind, may_take}
use Rattle.gran.specs.Access.{has, sees}
use Rattle.gran.specs.Exec.{exec_may}
use Rattle.gran.specs.Abstract.{Act, set_special, set_user, set_group, exec, role, entry, reaches, image}
use Rattle.gran.specs.declared.State.{State}

-- What each of a list gives, one after the other.
abbrev pub each : {A B : Type 0} → List A → (A → List B) → List B
each [] f = []
each (x ∷ xs) f = f x ++ each xs f

-- ---- the choices

-- None, then the roles of a kind by number.
unfoldable pub choices : Policy → ℕ → List ℕ
choices P k = none ∷ places (of_kind k) 0 P.roles

-- Another role than the kept one.
unfoldable pub is_other : ℕ → ℕ → Bool
is_other kept r = not (eqb r kept)

-- The kept role, then the others.
unfoldable pub kept_first : ℕ → List ℕ → List ℕ
kept_first kept rs = kept ∷ only (is_other kept) rs

-- ---- the tests, for users and groups alike

-- A role can be set: the entry has the capability, and an allowed id has the role.
unfoldable pub can_set : Policy → ℕ → Bool → Allowed → ℕ → Bool
can_set P k cap a r = cap && reaches P k a r

-- A role can be had after an exec: it is the kept one, or an allowed id has it.
unfoldable pub can_follow : Policy → ℕ → Allowed → ℕ → ℕ → Bool
can_follow P k a kept r = exec_may (eqb r kept) (reaches P k a r)

-- The entry lets the object be executed.
unfoldable pub executable : Entry → ℕ → Bool
executable e o = sees (modes_of e o) EXEC

-- ---- what a step may choose, with entry e in force

-- Special roles that the role r may take.
unfoldable pub specials_from : Policy → ℕ → List ℕ
specials_from P r = only (may_take P r) (choices P SPECIAL)

-- User and group roles that can be set.
unfoldable pub users_set : Policy → Entry → List ℕ
users_set P e = only (can_set P USER (has e.caps SET_UID) e.users) (choices P USER)

unfoldable pub groups_set : Policy → Entry → List ℕ
groups_set P e = only (can_set P GROUP (has e.caps SET_GID) e.groups) (choices P GROUP)

-- Objects that can be executed, as the entry lists them.
unfoldable pub executables : Entry → List ℕ
executables e = only (executable e) (objects_of e)

-- User and group roles after an exec.
unfoldable pub users_after : Policy → Entry → ℕ → List ℕ
users_after P e kept = only (can_follow P USER e.users kept) (kept_first kept (choices P USER))

unfoldable pub groups_after : Policy → Entry → ℕ → List ℕ
groups_after P e kept = only (can_follow P GROUP e.groups kept) (kept_first kept (choices P GROUP))

-- Subjects after an exec of the object o.
unfoldable pub subjects_after : Policy → Entry → ℕ → List ℕ
subjects_after P e o = only (image P e o) (paths_of_s P)

-- ---- the steps

-- The execs of o with the user u and the group g after it, by new subject.
unfoldable pub execs_to : Policy → Entry → ℕ → ℕ → ℕ → List Act
execs_to P e o u g = map (exec o u g) (subjects_after P e o)

-- The execs of o with the user u after it, by group.
unfoldable pub execs_as : Policy → Entry → List ℕ → ℕ → ℕ → List Act
execs_as P e groups o u = each groups (execs_to P e o u)

-- The execs of o, by user.
unfoldable pub execs_of : Policy → Entry → List ℕ → List ℕ → ℕ → List Act
execs_of P e users groups o = each users (execs_as P e groups o)

-- The execs, by object.
unfoldable pub execs : Policy → Entry → State → List Act
execs P e α = each (executables e) (execs_of P e (users_after P e α.user) (groups_after P e α.group))

-- 81, 82, 83, 84.
unfoldable pub steps_in : Policy → Entry → State → List Act
steps_in P e α = map set_special (specials_from P (role P α)) ++ (map set_user (users_set P e) ++ (map set_group (groups_set P e) ++ execs P e α))

-- The steps of a state.
unfoldable pub steps : Policy → State → List Act
steps P α = steps_in P (entry P α) α
