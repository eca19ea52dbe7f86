-- `has_free` meets its contract: under modes 0 and 2 an id is free, under mode 1 the smallest free one is no id where there is none.
use mathlib.Core.Path.{sym, ap, ◌∙◌}
use mathlib.Core.Bool.{not}
use Prim.Native.Nat.{ℕ}
use borrow.Author.Tests.{ne_eqb}
use lib.Dec.{eqb}
use Rattle.gran.specs.Policy.{no_id}
use Rattle.ids.proofs.Reaches.{reaches-none, always_free}
use Rattle.ids.proofs.has_free.Goals as goal

pub returns-then-mode-ne1 : goal.returns-then-mode-ne1
returns-then-mode-ne1 c P rest L known few = rw (ne_eqb _ _ c.if-mode-ne1.true) (always_free L _ _ known few (λ d. c.if-mode-ne1.true (c.mode.ensures ∙ d)))

pub returns-else-mode-ne1 : goal.returns-else-mode-ne1
returns-else-mode-ne1 c P rest L known few = ap (λ (n : ℕ). not (eqb n no_id)) (c.least_free.ensures P rest L known few) ∙ sym (reaches-none P _ _)
