-- `respond` meets its contract: the ask's outcome, and what was told of it.
use borrow.Author.Rules.{rules}
use Rattle.policy.specs.Frames.{path_from}
use Rattle.question.specs.Steps.{asked_by}
use Rattle.question.proofs.Printing.{responded}
use Rattle.question.proofs.respond.Goals as goal

pub returns : goal.returns
unfolding path_from
returns c =
    responded
    c.args.text.now
    (asked_by c.args.account.now c.args.start.now c.args.target.now)
    (record { store = c.fresh_store-store.result; work = c.fresh_work-work.result; room = c.args.output.now })
    _
    _
    _
    (search rules)
    (search rules)
    (rw (c.number4.ensures c.args.account.now.size, c.number4-2.ensures c.args.account.now.size, c.byte.ensures) at c.ask-answer.ensures)
    c.tell.ensures
