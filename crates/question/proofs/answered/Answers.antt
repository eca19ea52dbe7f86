-- `answered` meets its contract: a question line that is missing or bad, or what the three lines ask.
use Rattle.std.specs.Prelude.{◌≡◌, refl, Some, None}
use Rattle.std.proofs.lemmas.Result.{err_from_is_err_and}
use native.Mathlib.Omega.{arith}
use Rattle.question.specs.declared.Unasked.TheVariants.{Account, Start, Target}
use Rattle.question.proofs.Checking.{misses-first, misses_second, misses_third, misses-none, have_paths, asks}
use Rattle.question.proofs.answered.Goals as goal

pub returns-in_err-account : goal.returns-in_err-account
returns-in_err-account c =
    let p = err_from_is_err_and c.from_residual.result c.from_residual.ensures.1 in
    let u : c.in_err-account.field-0.0 ≡ Account = grind arith in
    let e : c.first_line.result ≡ None = grind arith in
    rw (p.1, p.2, u) (misses-first c.args.input.now (rw e at c.first_line.ensures), refl)

pub returns-in_err-start : goal.returns-in_err-start
returns-in_err-start c =
    let p = err_from_is_err_and c.from_residual-in_err-start.result c.from_residual-in_err-start.ensures.1 in
    let u : c.in_err-start.field-0.0 ≡ Start = grind arith in
    let a : c.first_line.result ≡ Some c.in_ok-account.account = grind arith in
    let e : c.first_line-2.result ≡ None = grind arith in
    let one = rw a at c.first_line.ensures in
    rw (p.1, p.2, u) (misses_second c.args.input.now one.0 (rw (e, one.1.rest) at c.first_line-2.ensures), refl)

pub returns-in_err-target : goal.returns-in_err-target
returns-in_err-target c =
    let p = err_from_is_err_and c.from_residual-in_err-target.result c.from_residual-in_err-target.ensures.1 in
    let u : c.in_err-target.field-0.0 ≡ Target = grind arith in
    let a : c.first_line.result ≡ Some c.in_ok-account.account = grind arith in
    let b : c.first_line-2.result ≡ Some c.in_ok-start.start = grind arith in
    let e : c.first_line-3.result ≡ None = grind arith in
    let one = rw a at c.first_line.ensures in
    let two = rw b at c.first_line-2.ensures in
    rw (p.1, p.2, u) (misses_third c.args.input.now one.0 (rw one.1.rest at two.0) (rw (e, two.1.rest, one.1.rest) at c.first_line-3.ensures), refl)

pub respond-requires : goal.respond-requires
respond-requires c =
    let a : c.first_line.result ≡ Some c.in_ok-account.account = grind arith in
    let b : c.first_line-2.result ≡ Some c.in_ok-start.start = grind arith in
    let d : c.first_line-3.result ≡ Some c.in_ok-target.target = grind arith in
    let one = rw a at c.first_line.ensures in
    let two = rw b at c.first_line-2.ensures in
    let three = rw d at c.first_line-3.ensures in
    have_paths one.1 two.1 three.1 two.0 three.0

pub returns : goal.returns
returns c =
    let a : c.first_line.result ≡ Some c.in_ok-account.account = grind arith in
    let b : c.first_line-2.result ≡ Some c.in_ok-start.start = grind arith in
    let d : c.first_line-3.result ≡ Some c.in_ok-target.target = grind arith in
    let one = rw a at c.first_line.ensures in
    let two = rw b at c.first_line-2.ensures in
    let three = rw d at c.first_line-3.ensures in
    (misses-none c.args.input.now one.0 (rw one.1.rest at two.0) (rw (two.1.rest, one.1.rest) at three.0), asks one.1 two.1 three.1 c.respond.ensures)
