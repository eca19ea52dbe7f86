-- What lines mean is what their bytes tell, whatever stands behind them.
-- Assumes nothing.
use mathlib.Core.Path.{◌≡◌, refl, sym, ap, subst}
use mathlib.Core.Logic.{inl, inr}
use mathlib.Core.List.{List, [], ◌++◌, append-nil}
use Prim.Native.Nat.{ℕ}
use native.Mathlib.Omega.{arith}
use lib.ListN.{length, drop}
use Rattle.gran.specs.Lists.{All}
use Rattle.gran.specs.Policy.{Policy}
use Rattle.gran.specs.Good.{Good}
use Rattle.gran.specs.Real.{started}
use Rattle.records.specs.declared.Step.{Step}
use Rattle.records.specs.Record.{summary}
use Rattle.policy.specs.Load.{accepted, reading}
use Rattle.policy.proofs.Accepted.{accepted_good}
use Rattle.ask.specs.Ask.{Asked, question_of, Areas, Outcome}
use Rattle.ask.proofs.Numbers.{Accepted}
use Rattle.replay.proofs.Rows.{holds-run}
use Rattle.meaning.specs.Read.{Said, answer_lines, said_in}
use Rattle.meaning.specs.Means.{Recipe, Means, Tells, TellsOf, FourByteIds}
use Rattle.meaning.proofs.Steps.{Narrow}
use Rattle.meaning.proofs.Back.{said-again}
use Rattle.meaning.proofs.Rows.{steps_narrow}

recipe_narrow : (P : Policy) → Good P → (a : Asked) → FourByteIds a → (rows : List Step) → Recipe P a rows → All Narrow rows
recipe_narrow P good a ids rows recipe =
    steps_narrow P good a.start (started a.uid a.gid) (record { known = inl refl; uid = ids.uid; gid = ids.gid }) rows
    (holds-run P good a.start (question_of a) (started a.uid a.gid) 0 rows recipe.file recipe.holds).steps

pub means_tell : {P : Policy} {a : Asked} {lines : List ℕ} → Good P → FourByteIds a → (rest : List ℕ) → Means P a lines → Tells P a (lines ++ rest)
means_tell good ids rest (Means.never opened few no_run) =
    let said : Said = record { verdict = 0; opened = opened; steps = [] } in
    let again = rw append-nil at (said-again said (record { verdict = omega arith; opened = omega arith; count = omega arith; steps = tt }) rest) in
    let v : (said_in (summary 0 opened 0 ++ rest)).verdict ≡ 0 = ap (λ (x : Said). x.verdict) again in
    record { verdict = inl v; never = λ e. no_run; reached = λ e. absurd (omega (arith, v, e)) }
means_tell {P} {a} good ids rest (Means.reached rows opened few short recipe) =
    let said : Said = record { verdict = 1; opened = opened; steps = rows } in
    let again = said-again said (record { verdict = omega arith; opened = omega arith; count = omega arith; steps = recipe_narrow P good a ids rows recipe }) rest in
    let v : (said_in (answer_lines said ++ rest)).verdict ≡ 1 = ap (λ (x : Said). x.verdict) again in
    record { verdict = inr v; never = λ e. absurd (omega (arith, v, e)); reached = λ e. subst (λ (x : Said). Recipe P a x.steps) (sym again) recipe }

-- an accepted ask whose lines mean so
pub accepted_tells : {text : List ℕ} {a : Asked} {lent : Areas} {o : Outcome} → FourByteIds a → (x : Accepted text a lent o) → Means x.policy a x.lines → TellsOf text a o.left.room
accepted_tells {text} {a} {lent} ids x means =
    record { policy = x.policy; read = x.read; tells = rw x.room (means_tell (accepted_good text x.policy x.read) ids (drop (length x.lines) lent.room) means) }

-- printed lines that mean so
pub printed_so : {text : List ℕ} {a : Asked} {out : List ℕ} → FourByteIds a → (P : Policy) → reading text ≡ accepted P → Means P a out → TellsOf text a out
printed_so {text} {a} {out} ids P read means =
    record { policy = P; read = read; tells = rw append-nil at (means_tell (accepted_good text P read) ids [] means) }
