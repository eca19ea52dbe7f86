-- `told` meets its contract: the two answers.
use borrow.Author.Tests.{not-true}
use Rattle.records.specs.Record.{summary}
use Rattle.ask.specs.Ask.{never}
use Rattle.reply.proofs.told.Goals as goal

pub returns-then-not-end : goal.returns-then-not-end
returns-then-not-end c g =
    record { lines = summary 0 c.args.searched.end.count 0; right = never c.args.searched.end.count (g.never (not-true _ c.if-not-end.true)); told = c.never.ensures }
