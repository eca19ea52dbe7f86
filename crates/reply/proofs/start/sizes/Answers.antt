-- `sizes` meets its contract: the header's counts.
use mathlib.Core.Path.{◌∙◌}
use Rattle.reply.proofs.Digits.{sizes_are}
use Rattle.reply.proofs.start.sizes.Goals as goal

pub returns : goal.returns
returns c =
    sizes_are c.requires _ _ _ _ (c.from.ensures ∙ c.special_count.ensures) (c.from-2.ensures ∙ c.user_count.ensures) (c.from-3.ensures ∙ c.group_count.ensures) (c.from-4.ensures ∙ c.subject_count.ensures)
