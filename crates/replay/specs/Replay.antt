-- Replay: a row of step records against the real steps (document 01, "Replay").
-- Assumes nothing.
use Rattle.std.specs.Prelude.{◌≡◌, Bool, true, false, cond, ◌&&◌, List, [], ◌∷◌, map, ℕ, ◌+◌, eqb, ltb, length}
use Rattle.gran.specs.Lists.{none}
use Rattle.gran.specs.Policy.{Policy}
use Rattle.gran.specs.Match.{path_at, object_in}
use Rattle.gran.specs.Real.{State, Act, set_special, set_uid, set_gid, exec, entry, may, access, state_of, started}
use Rattle.gran.specs.Reach.{Question}
use Rattle.gran.specs.declared.Process.{Process}
use Rattle.fields.specs.Fields.{path_in, path_place, Pointer}
use Rattle.records.specs.declared.Step.{Step}
unfoldable pub use Rattle.records.specs.Record.{after}
use Rattle.store.specs.Held.{Loaded}
use Rattle.replay.specs.declared.Verdict.{Verdict}
use Rattle.replay.specs.declared.Verdict.TheVariants.{Holds, NoStep, Denied}

-- A record by its fields.
abbrev pub step_of : ℕ → ℕ → ℕ → ℕ → ℕ → ℕ → Step
step_of kind role uid gid object file = record { kind = kind; role = role; uid = uid; gid = gid; object = object; file = file }

-- The kind is a step line's type, and the fields that its line does not carry are 0.
unfoldable pub plainly : Step → Bool
plainly r =
    cond (eqb r.kind 0x81) (eqb r.uid 0 && eqb r.gid 0 && eqb r.object 0 && eqb r.file 0)
    (cond (eqb r.kind 0x82) (eqb r.role 0 && eqb r.gid 0 && eqb r.object 0 && eqb r.file 0)
    (cond (eqb r.kind 0x83) (eqb r.role 0 && eqb r.uid 0 && eqb r.object 0 && eqb r.file 0)
    (cond (eqb r.kind 0x84) (eqb r.role 0) false)))

-- The executed file is a path of the policy, and the object is the file's.
unfoldable pub names : Policy → State → Step → Bool
names P σ r = cond (eqb r.kind 0x84) (ltb r.file (length P.paths) && eqb r.object (object_in P (entry P σ) (path_at P.paths r.file))) true

-- The real act that the record says.
unfoldable pub act_of : Policy → Step → Act
act_of P r =
    cond (eqb r.kind 0x81) (set_special r.role)
    (cond (eqb r.kind 0x82) (set_uid r.uid)
    (cond (eqb r.kind 0x83) (set_gid r.gid) (exec (path_at P.paths r.file) r.uid r.gid)))

-- The real acts that a row says.
abbrev pub acts_said : Policy → List Step → List Act
acts_said P rows = map (act_of P) rows

-- The record is a real step from σ.
unfoldable pub is_step : Policy → State → Step → Bool
is_step P σ r = plainly r && names P σ r && may P σ (act_of P r)

-- What the rest of a row says, from the record number `at` on: the first record that is no real step;
-- else holds, with the last file's path number, or that the access is not granted at the end.
unfoldable pub follow : Policy → Question → List ℕ → Process → ℕ → List Step → Verdict
follow P q begin p at [] = cond (access P q.kind q.target (state_of P begin p)) (Holds p.file) Denied
follow P q begin p at (r ∷ rs) = cond (is_step P (state_of P begin p) r) (follow P q begin (after p r) (at + 1) rs) (NoStep at)

-- What a row of records says for a start.
abbrev pub replay_of : Policy → Question → ℕ → ℕ → List ℕ → List Step → Verdict
replay_of P q uid gid begin rows = follow P q begin (started uid gid) 0 rows

-- What a replay over a loaded store answers.
abbrev pub Replayed : List ℕ → List ℕ → List ℕ → ℕ → ℕ → ℕ → List Step → Verdict → Type 0
Replayed store begin target uid gid kind rows r = (P : Policy) (rest : List ℕ) → Loaded P rest store → r ≡ replay_of P (record { kind = kind; target = target }) uid gid begin rows

-- The last file's path, by its number: the start where nothing was executed, else what the store's bytes say.
unfoldable pub last_file : List ℕ → List ℕ → ℕ → List ℕ
last_file start store number = cond (eqb number none) start (path_in store number)

-- Where it stands: in the start from its front on, else in the store from the path's place on.
unfoldable pub last_area : Pointer → Pointer → ℕ → Pointer
last_area start store number = cond (eqb number none) start store

unfoldable pub last_place : List ℕ → ℕ → ℕ
last_place store number = cond (eqb number none) 0 (path_place store number)
