-- `load::fill` meets its contract: a refused line, a refusal at the end, the policy's layout.
use mathlib.Core.Path.{◌∙◌, refl, ap}
use lib.ListN.{drop}
use Rattle.std.proofs.lemmas.Result.{err_from_is_err_and}
use Rattle.policy.specs.Refused.{refusal_number}
use Rattle.policy.proofs.Numbers.{some_number}
use Rattle.load.proofs.Outcomes.{ends_by}
use Rattle.load.proofs.fill.Goals as goal

pub returns-in_err-tally : goal.returns-in_err-tally
returns-in_err-tally c =
    let r = c.in_err-tally.ensures in
    let p = err_from_is_err_and c.from_residual.result c.from_residual.ensures.1 in
    rw (p.1, p.2) (record { kept = r.kept; past = r.past; whole = tt; stopped = r.stopped })

pub returns-in_err-settle : goal.returns-in_err-settle
returns-in_err-settle c =
    let r = c.in_ok-tally.ensures in
    let s = c.in_err-settle.ensures in
    let refusal = c.in_err-settle.field-0.0 in
    let ends = ends_by c.args.text.now _ _ _ r.whole (refusal_number refusal) (s.lowest r.whole.load.policy _ r.whole.sound.policy r.whole.held) in
    let p = err_from_is_err_and c.from_residual-in_err-settle.result c.from_residual-in_err-settle.ensures.1 in
    rw (p.1, p.2) (record { kept = s.kept ∙ r.kept; past = ap (drop 16384) (s.same (some_number refusal)) ∙ r.past; whole = tt; stopped = ends.1 (some_number refusal) })

pub returns : goal.returns
returns c =
    let r = c.in_ok-tally.ensures in
    let s = c.in_ok-settle.ensures in
    let ends = ends_by c.args.text.now _ _ _ r.whole 0 (s.lowest r.whole.load.policy _ r.whole.sound.policy r.whole.held) in
    record { kept = s.kept ∙ r.kept; past = tt; whole = (r.whole.load.policy, ends.0 refl, s.stored refl r.whole.load.policy _ r.whole.sound.policy r.whole.held); stopped = tt }
