-- Abstract steps (Table III of 001, as document 01 decides it), in the shape of `Real`, and how the two stand for one another.
-- Assumes nothing.
use Rattle.std.specs.Prelude.{Bool, true, cond, ◌&&◌, ◌||◌, List, [], ◌∷◌, ℕ, eqb, get_or}
use Rattle.gran.specs.Lists.{none, member, first_from}
use Rattle.gran.specs.Policy.{Policy, Entry, Allowed, USER, GROUP, SET_UID, SET_GID, EXEC, no_id}
use Rattle.gran.specs.Match.{path_at, subjects, subject_of, objects_of, entry_in, object_in, modes_of}
use Rattle.gran.specs.Role.{no_role, role_of, in_force, may_take, allows}
use Rattle.gran.specs.Access.{has, sees, grants}
use Rattle.gran.specs.Exec.{exec_may}
use Rattle.gran.specs.Real
use Rattle.gran.specs.declared.State.{State}

-- A state is the code's own: special, user and group role, or none, and a path of S.
pub data Act : Type 0 where
  set_special : ℕ → Act
  set_user : ℕ → Act
  set_group : ℕ → Act
  -- the object, and the user, the group and the subject after it
  exec : ℕ → ℕ → ℕ → ℕ → Act

-- What a real state stands for: a user without a user role counts as none, a group likewise, a file as the most specific path of S that it is under.
unfoldable pub abstract : Policy → Real.State → State
abstract P σ = record {
  special = σ.special;
  user = role_of P USER σ.uid;
  group = role_of P GROUP σ.gid;
  subject = subject_of P σ.file;
}

-- A start has no special role.
abbrev pub begun : ℕ → ℕ → ℕ → State
begun u g s = record { special = none; user = u; group = g; subject = s }

-- The role in force.
unfoldable pub role : Policy → State → ℕ
role P α = in_force P α.special α.user α.group

-- The entry in force.
unfoldable pub entry : Policy → State → Entry
entry P α = entry_in P (role P α) (path_at P.paths α.subject)

-- An id is allowed, and has no role of the kind.
abbrev pub is_free : Policy → ℕ → Allowed → ℕ → Bool
is_free P k a n = allows a n && eqb (role_of P k n) none

-- The smallest allowed id without a role, or the one that names nobody.
unfoldable pub free_id : Policy → ℕ → Allowed → ℕ
free_id P k a = first_from (is_free P k a) no_id 0

-- The id that stands for a role, or for none.
unfoldable pub id_for : Policy → ℕ → Allowed → ℕ → ℕ
id_for P k a r = cond (eqb r none) (free_id P k a) (get_or P.roles r no_role).id

-- Some allowed id has the role r, or none (a law says so): the one that stands for r does.
unfoldable pub reaches : Policy → ℕ → Allowed → ℕ → Bool
reaches P k a r = allows a (id_for P k a r) && eqb (role_of P k (id_for P k a r)) r

-- The image of an object: each subject of S whose object in e it is, and the most specific path of S that it is under.
unfoldable pub image : Policy → Entry → ℕ → ℕ → Bool
image P e o s = member s (subjects P) && (eqb (object_in P e (path_at P.paths s)) o || eqb (subject_of P (path_at P.paths o)) s)

-- With entry e in force α may execute the object o, and have the roles u and g and the subject s after it.
unfoldable pub may_exec : Policy → Entry → State → ℕ → ℕ → ℕ → ℕ → Bool
may_exec P e α o u g s =
    member o (objects_of e)
    && sees (modes_of e o) EXEC
    && exec_may (eqb u α.user) (reaches P USER e.users u)
    && exec_may (eqb g α.group) (reaches P GROUP e.groups g)
    && image P e o s

-- The policy lets α do the act.
unfoldable pub may : Policy → State → Act → Bool
may P α (set_special s) = may_take P (role P α) s
may P α (set_user r) = has (entry P α).caps SET_UID && reaches P USER (entry P α).users r
may P α (set_group r) = has (entry P α).caps SET_GID && reaches P GROUP (entry P α).groups r
may P α (exec o u g s) = may_exec P (entry P α) α o u g s

-- The state after the act.
abbrev pub next : State → Act → State
next α (set_special s) = record { special = s; user = α.user; group = α.group; subject = α.subject }
next α (set_user r) = record { special = α.special; user = r; group = α.group; subject = α.subject }
next α (set_group r) = record { special = α.special; user = α.user; group = r; subject = α.subject }
next α (exec o u g s) = record { special = α.special; user = u; group = g; subject = s }

-- A run is its acts, each of which its state may do.
abbrev pub run : Policy → State → List Act → Bool
run P α [] = true
run P α (b ∷ rest) = may P α b && run P (next α b) rest

-- Where a run ends.
abbrev pub last : State → List Act → State
last α [] = α
last α (b ∷ rest) = last (next α b) rest

-- The access to t is granted in α.
unfoldable pub access : Policy → ℕ → List ℕ → State → Bool
access P kind t α = grants P kind (entry P α) t

-- ---- from one to the other

-- What a real act stands for.
unfoldable pub abstract_act : Policy → Real.State → Real.Act → Act
abstract_act P σ (Real.set_special s) = set_special s
abstract_act P σ (Real.set_uid u) = set_user (role_of P USER u)
abstract_act P σ (Real.set_gid g) = set_group (role_of P GROUP g)
abstract_act P σ (Real.exec f u g) = exec (object_in P (Real.entry P σ) f) (role_of P USER u) (role_of P GROUP g) (subject_of P f)

-- The executed path: the new subject if its object is the named one, else the object itself.
unfoldable pub executed : Policy → Entry → ℕ → ℕ → ℕ
executed P e o s = cond (eqb (object_in P e (path_at P.paths s)) o) s o

-- The id after an exec: kept where its role is, else the one that stands for the new role.
unfoldable pub id_after : Policy → ℕ → Allowed → ℕ → ℕ → ℕ
id_after P k a n r = cond (eqb r (role_of P k n)) n (id_for P k a r)

-- The real act that shows an abstract one.
unfoldable pub real_act : Policy → Real.State → Act → Real.Act
real_act P σ (set_special s) = Real.set_special s
real_act P σ (set_user r) = Real.set_uid (id_for P USER (Real.entry P σ).users r)
real_act P σ (set_group r) = Real.set_gid (id_for P GROUP (Real.entry P σ).groups r)
real_act P σ (exec o u g s) =
    Real.exec (path_at P.paths (executed P (Real.entry P σ) o s))
    (id_after P USER (Real.entry P σ).users σ.uid u)
    (id_after P GROUP (Real.entry P σ).groups σ.gid g)

-- The same along a run.
abbrev pub abstract_acts : Policy → Real.State → List Real.Act → List Act
abstract_acts P σ [] = []
abstract_acts P σ (a ∷ rest) = abstract_act P σ a ∷ abstract_acts P (Real.next σ a) rest

abbrev pub real_acts : Policy → Real.State → List Act → List Real.Act
real_acts P σ [] = []
real_acts P σ (b ∷ rest) = real_act P σ b ∷ real_acts P (Real.next σ (real_act P σ b)) rest
