-- `loaded` meets its contract: the first refusals and the load, each from the call that gave it.
use Rattle.std.specs.Prelude.{refl}
use Rattle.std.proofs.lemmas.Result.{err_from_is_err_and}
use Rattle.policy.proofs.Numbers.{some_number}
use Rattle.ask.specs.Ask.{asked_of}
use Rattle.leveecrumb.proofs.Outcomes.{loads-early, loads-after}
use Rattle.leveecrumb.proofs.loaded.Goals as goal

pub returns-in_err-early : goal.returns-in_err-early
returns-in_err-early c =
    let p = err_from_is_err_and c.from_residual.result c.from_residual.ensures.1 in
    rw (p.1, p.2)
    (loads-early c.args.text.now (asked_of c.args.asked) c.args.work c.args.store.now _ c.in_err-early.ensures (some_number _))

pub returns : goal.returns
returns c =
    loads-after c.args.text.now (asked_of c.args.asked) c.args.work c.args.store.now _ c.in_ok-early.ensures refl _ _ _ c.load.ensures
