-- `Loading::has_role` meets its contract: the rows that are searched are those of the policy.
use borrow.Author.Tests.{ne_eqb}
use native.Mathlib.Omega.{arith}
use mathlib.Core.Path.{◌∙◌, sym}
use Rattle.gran.specs.Policy.{SPECIAL}
use Rattle.policy.specs.Frames.{has_role}
use Rattle.store.specs.Layout.{four}
use Rattle.judge.proofs.Found.{found-role}
use Rattle.judge.proofs.loading.Loading.has_role.Goals as goal

pub returns : goal.returns
unfolding has_role four
returns c P rest sound h =
    let l = c.args.self in
    c.has_row.ensures
    ∙ rw (c.id_bytes-number.ensures, c.roles-count.ensures, ne_eqb c.args.kind SPECIAL (λ e. c.if-kind-code.false (e ∙ sym c.code.ensures)))
    (found-role P rest l.tally l.bytes.now l.bounded h sound c.args.kind c.args.id (omega arith))
