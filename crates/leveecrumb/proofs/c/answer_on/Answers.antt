-- `answer_on` meets its contract: numbers that are zero as they are made serve for a work area.
use Rattle.std.specs.Prelude.{refl}
use Rattle.lines.specs.Line.{zeros}
use Rattle.reply.proofs.Loads.{blank_of}
use Rattle.leveecrumb.proofs.c.answer_on.Goals as goal

pub respond-requires : goal.respond-requires
unfolding zeros
respond-requires g c = record { held = c.requires.held; blank = blank_of _ g.row.SIZE refl c.requires.long }

pub returns : goal.returns
returns g c = c.respond.ensures.answers
