-- Real steps (Table II of 001, as document 01 decides it): states, acts, which acts a state may do, and what comes of them.
-- Assumes nothing.
use Rattle.std.specs.Prelude.{Bool, true, cond, ◌&&◌, List, [], ◌∷◌, ℕ, suc, eqb}
use Rattle.paths.specs.Path.{is_path}
use Rattle.gran.specs.Lists.{none}
use Rattle.gran.specs.Policy.{Policy, Entry, USER, GROUP, SET_UID, SET_GID, EXEC}
use Rattle.gran.specs.Match.{path_at, entry_in, object_in, modes_of}
use Rattle.gran.specs.Role.{role_of, in_force, may_take, allows}
use Rattle.gran.specs.Access.{has, sees, grants}
use Rattle.gran.specs.Exec.{exec_may}
use Rattle.gran.specs.declared.Process.{Process}

-- Special role or none, UID, GID, file.
pub record State : Type 0 where
  pub special : ℕ
  pub uid : ℕ
  pub gid : ℕ
  pub file : List ℕ

pub data Act : Type 0 where
  set_special : ℕ → Act
  set_uid : ℕ → Act
  set_gid : ℕ → Act
  -- the file, and the ids after it
  exec : List ℕ → ℕ → ℕ → Act

-- The role in force.
unfoldable pub role : Policy → State → ℕ
role P σ = in_force P σ.special (role_of P USER σ.uid) (role_of P GROUP σ.gid)

-- The entry in force.
unfoldable pub entry : Policy → State → Entry
entry P σ = entry_in P (role P σ) σ.file

-- With entry e in force σ may execute the file f, whose object has x and not h, and have the ids u and g after it.
unfoldable pub may_exec : Policy → Entry → State → List ℕ → ℕ → ℕ → Bool
may_exec P e σ f u g =
    is_path f
    && sees (modes_of e (object_in P e f)) EXEC
    && exec_may (eqb u σ.uid) (allows e.users u)
    && exec_may (eqb g σ.gid) (allows e.groups g)

-- The policy lets σ do the act.
unfoldable pub may : Policy → State → Act → Bool
may P σ (set_special s) = may_take P (role P σ) s
may P σ (set_uid u) = has (entry P σ).caps SET_UID && allows (entry P σ).users u
may P σ (set_gid g) = has (entry P σ).caps SET_GID && allows (entry P σ).groups g
may P σ (exec f u g) = may_exec P (entry P σ) σ f u g

-- The state after the act.
abbrev pub next : State → Act → State
next σ (set_special s) = record { special = s; uid = σ.uid; gid = σ.gid; file = σ.file }
next σ (set_uid u) = record { special = σ.special; uid = u; gid = σ.gid; file = σ.file }
next σ (set_gid g) = record { special = σ.special; uid = σ.uid; gid = g; file = σ.file }
next σ (exec f u g) = record { special = σ.special; uid = u; gid = g; file = f }

-- A run is its acts, each of which its state may do.
abbrev pub run : Policy → State → List Act → Bool
run P σ [] = true
run P σ (a ∷ rest) = may P σ a && run P (next σ a) rest

-- Where a run ends.
abbrev pub last : State → List Act → State
last σ [] = σ
last σ (a ∷ rest) = last (next σ a) rest

-- A file system is any set of paths, and may be another at each step.
abbrev pub Files : Type 1
Files = ℕ → List ℕ → Type 0

abbrev pub later : Files → Files
later fs i = fs (suc i)

-- An exec needs its file in the set.
abbrev pub There : (List ℕ → Type 0) → Act → Type 0
There fs (set_special s) = Unit
There fs (set_uid u) = Unit
There fs (set_gid g) = Unit
There fs (exec f u g) = fs f

-- Each file that a run executes is there at its step.
abbrev pub On : Files → List Act → Type 0
On fs [] = Unit
On fs (a ∷ rest) = There (fs 0) a × On (later fs) rest

-- The access to t is granted in σ.
unfoldable pub access : Policy → ℕ → List ℕ → State → Bool
access P kind t σ = grants P kind (entry P σ) t

-- A start has no special role.
abbrev pub start : ℕ → ℕ → List ℕ → State
start u g f = record { special = none; uid = u; gid = g; file = f }

-- ---- a state as code holds it: the file by its path number, or none for the start's own

-- The file of a number.
unfoldable pub file_of : Policy → List ℕ → ℕ → List ℕ
file_of P begin n = cond (eqb n none) begin (path_at P.paths n)

-- The state that a process is in, which began in the file `begin`.
unfoldable pub state_of : Policy → List ℕ → Process → State
state_of P begin p = record { special = p.special; uid = p.uid; gid = p.gid; file = file_of P begin p.file }

-- A process at its start, and after each of the four acts.
abbrev pub started : ℕ → ℕ → Process
started u g = record { special = none; uid = u; gid = g; file = none }

abbrev pub taken : Process → ℕ → Process
taken p s = record { special = s; uid = p.uid; gid = p.gid; file = p.file }

abbrev pub user_set : Process → ℕ → Process
user_set p u = record { special = p.special; uid = u; gid = p.gid; file = p.file }

abbrev pub group_set : Process → ℕ → Process
group_set p g = record { special = p.special; uid = p.uid; gid = g; file = p.file }

abbrev pub executing : Process → ℕ → ℕ → ℕ → Process
executing p f u g = record { special = p.special; uid = u; gid = g; file = f }
