-- Step records, and the lines that show them (document 01, "What is asked and what comes back", "Replay").
-- Assumes nothing.
use Rattle.std.specs.Prelude.{cond, List, [], ◌∷◌, ◌++◌, ◌≡◌, ℕ, ◌+◌, ◌-◌, eqb, length, take, drop}
use Rattle.gran.specs.Policy.{Policy, USER, GROUP}
use Rattle.gran.specs.Real
use Rattle.gran.specs.Real.{taken, user_set, group_set, executing}
use Rattle.gran.specs.Abstract.{Act, set_special, set_user, set_group, exec, id_for, id_after, executed, real_act}
use Rattle.gran.specs.declared.Process.{Process}
use Rattle.lines.specs.Line.{line_of, zeros}
use Rattle.store.specs.Layout.{two, four}
use Rattle.records.specs.declared.Step.{Step}
use Rattle.records.specs.declared.Line.{Line}

-- The record of the real step that shows an abstract one from the real state σ; fields that its line does not carry are 0.
unfoldable pub record_of : Policy → Real.State → Act → Step
record_of P σ (set_special s) = record { kind = 0x81; role = s; uid = 0; gid = 0; object = 0; file = 0 }
record_of P σ (set_user r) = record { kind = 0x82; role = 0; uid = id_for P USER (Real.entry P σ).users r; gid = 0; object = 0; file = 0 }
record_of P σ (set_group r) = record { kind = 0x83; role = 0; uid = 0; gid = id_for P GROUP (Real.entry P σ).groups r; object = 0; file = 0 }
record_of P σ (exec o u g s) = record {
  kind = 0x84;
  role = 0;
  uid = id_after P USER (Real.entry P σ).users σ.uid u;
  gid = id_after P GROUP (Real.entry P σ).groups σ.gid g;
  object = o;
  file = executed P (Real.entry P σ) o s;
}

-- The records of a run, from the first step on.
abbrev pub records_of : Policy → Real.State → List Act → List Step
records_of P σ [] = []
records_of P σ (a ∷ rest) = record_of P σ a ∷ records_of P (Real.next σ (real_act P σ a)) rest

-- The process after the record.
unfoldable pub after : Process → Step → Process
after p r =
    cond (eqb r.kind 0x81) (taken p r.role)
    (cond (eqb r.kind 0x82) (user_set p r.uid)
    (cond (eqb r.kind 0x83) (group_set p r.gid) (executing p r.file r.uid r.gid)))

-- The bytes of a step's line: `81` special role or ff; `82` UID; `83` GID; `84` object path, executed path, UID, GID after it.
unfoldable pub step_bytes : Step → List ℕ
step_bytes r =
    cond (eqb r.kind 0x81) (r.kind ∷ r.role ∷ [])
    (cond (eqb r.kind 0x82) (r.kind ∷ four r.uid)
    (cond (eqb r.kind 0x83) (r.kind ∷ four r.gid)
    (r.kind ∷ r.object ∷ r.file ∷ (four r.uid ++ four r.gid))))

-- The lines of the steps.
abbrev pub step_lines : List Step → List ℕ
step_lines [] = []
step_lines (r ∷ rs) = line_of (step_bytes r) ++ step_lines rs

-- The first line: `80` verdict, states opened, steps.
unfoldable pub summary : ℕ → ℕ → ℕ → List ℕ
summary verdict opened steps = line_of (0x80 ∷ verdict ∷ (two opened ++ two steps))

-- At most 11 bytes, zero filled to 11, and how many they are.
unfoldable pub filled : List ℕ → Line
filled bytes = record { size = length bytes; bytes = bytes ++ zeros (11 - length bytes) }

-- A line at a place of a room: what lies before it and behind it is kept.
unfoldable pub written : List ℕ → ℕ → List ℕ → List ℕ
written line at room = take at room ++ (line ++ drop (at + length line) room)

-- Putting a line at a place of a room that held `before` answers the place behind it, and leaves `after`.
pub record PutAs (line : List ℕ) (at : ℕ) (before : List ℕ) (answer : ℕ) (after : List ℕ) : Type 0 where
  pub next : answer ≡ at + length line
  pub room : after ≡ written line at before
