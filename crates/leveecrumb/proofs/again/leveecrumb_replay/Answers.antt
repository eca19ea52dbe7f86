-- `leveecrumb_replay` meets its contract: the load and the walk of its records, each from the call that gave it.
use Rattle.std.specs.Prelude.{refl}
use Rattle.policy.proofs.Numbers.{some_number}
use Rattle.ask.specs.Ask.{asked_of}
use Rattle.leveecrumb.proofs.Replays.{ends_refused, ends_told}
use Rattle.leveecrumb.proofs.again.leveecrumb_replay.Goals as goal

pub returns-in-Ok : goal.returns-in-Ok
returns-in-Ok c =
    rw c.into.ensures (ends_told c.args.text.now (asked_of c.args.asked) c.args.steps.now c.args.store.now _ _ _ c.in-Ok.ensures refl _ c.replay_loaded.ensures)

pub returns-in-Err : goal.returns-in-Err
returns-in-Err c =
    rw c.into-in-Err.ensures (ends_refused c.args.text.now (asked_of c.args.asked) c.args.steps.now c.args.store.now _ _ _ c.in-Err.ensures (some_number _))
