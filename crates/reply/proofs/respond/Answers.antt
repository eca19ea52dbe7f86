-- `respond` meets its contract: the tables, the search, the answer, and a clean work area.
use mathlib.Core.Path.{◌≡◌, ap, ◌∙◌}
use lib.ListN.{length}
use Rattle.lines.specs.Line.{zeros}
use Rattle.ask.specs.Ask.{asked_of}
use Rattle.reply.proofs.Digits.{ready_sized}
use Rattle.reply.proofs.Ends.{ready_of, clear_of, start_state, rest, ended_of}
use Rattle.reply.proofs.respond.Goals as goal

pub search-end-requires : goal.search-end-requires
search-end-requires c =
    let a = asked_of c.args.asked in
    let r = ready_of a c.requires.held (c.fill.ensures _ _ c.requires.held) c.sizes-sizes.ensures in
    (clear_of c.requires.blank r.sizes, (ready_sized r, start_state a r _ c.start_number-from.ensures))

pub told-answer-requires : goal.told-answer-requires
told-answer-requires c =
    let a = asked_of c.args.asked in
    let r = ready_of a c.requires.held (c.fill.ensures _ _ c.requires.held) c.sizes-sizes.ensures in
    ended_of a r _ c.start_number-from.ensures (clear_of c.requires.blank r.sizes) c.search-end.result c.search-end.ensures _ c.start.ensures

pub wipe-requires : goal.wipe-requires
wipe-requires c =
    let a = asked_of c.args.asked in
    let r = ready_of a c.requires.held (c.fill.ensures _ _ c.requires.held) c.sizes-sizes.ensures in
    (ready_sized r, rest a r _ c.start_number-from.ensures (clear_of c.requires.blank r.sizes) c.search-end.result c.search-end.ensures c.requires.blank.zero)

pub returns : goal.returns
unfolding ended_of
returns c =
    let a = asked_of c.args.asked in
    let r = ready_of a c.requires.held (c.fill.ensures _ _ c.requires.held) c.sizes-sizes.ensures in
    let same : length c.search-end.new.area ≡ length c.args.area.now = c.search-end.auto.area in
    let ended = ended_of a r _ c.start_number-from.ensures (clear_of c.requires.blank r.sizes) c.search-end.result c.search-end.ensures _ c.start.ensures in
    record {
      answers = c.told-answer.ensures ended;
      cleared = c.wipe.ensures ∙ ap zeros same;
    }
