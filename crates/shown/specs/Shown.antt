-- What is known where a step of a run is shown, and what is read for it (document 01, "Which steps").
-- Assumes nothing.
use Rattle.std.specs.Prelude.{◌≡◌, List, ℕ, get_or}
use Rattle.gran.specs.Lists.{none}
use Rattle.gran.specs.Policy.{Policy, Entry, USER, GROUP}
use Rattle.gran.specs.Match.{objects_of}
use Rattle.gran.specs.Real.{state_of}
use Rattle.gran.specs.Abstract.{abstract, id_after, executed}
use Rattle.gran.specs.Reach.{Question}
use Rattle.gran.specs.declared.State.{State}
use Rattle.gran.specs.declared.Process.{Process}
use Rattle.records.specs.declared.Step.{Step}
use Rattle.tables.specs.Tables.{Tabled}
use Rattle.numbered.specs.Number.{Inside, sizes_of, places_of}
use Rattle.numbered.specs.declared.Sizes.{Sizes}
use Rattle.shown.specs.declared.Seen.{Seen}

-- A process that began in the file `begin` stands for the state α, which has a number of the sizes z, and t holds the tables.
pub record Going (P : Policy) (q : Question) (t : List ℕ) (z : Sizes) (begin : List ℕ) (p : Process) (α : State) : Type 0 where
  pub sizes : z ≡ sizes_of P
  pub tabled : Tabled P q t
  pub inside : Inside P α
  pub stands : abstract P (state_of P begin p) ≡ α

-- The parts of a state, and the place of its subject among the paths of S.
abbrev pub seen_of : Policy → State → Seen
seen_of P α = record { special = α.special; user = α.user; group = α.group; subject = α.subject; place = (places_of P α).subject }

-- The record of an exec by a process, in entry e, of the object at place i, to the roles and the subject of β.
unfoldable pub exec_record : Policy → Entry → Process → ℕ → State → Step
exec_record P e p i β = record {
  kind = 0x84;
  role = 0;
  uid = id_after P USER e.users p.uid β.user;
  gid = id_after P GROUP e.groups p.gid β.group;
  object = get_or (objects_of e) i none;
  file = executed P e (get_or (objects_of e) i none) β.subject;
}
