-- `walk::wipe` meets its contract: the states' numbers are cleared, and what lies behind them is zero.
use mathlib.Core.Path.{ap, ◌∙◌}
use mathlib.Core.List.{List, ◌++◌}
use Prim.Native.Nat.{ℕ, ◌*◌}
use lib.ListN.{drop}
use lib.Seq.{length-take-le}
use Rattle.lines.specs.Line.{zeros}
use Rattle.walk.specs.Needed.{Rest}
use Rattle.walk.proofs.Rests.{rest-none}
use Rattle.walk.proofs.wipe.Goals as goal
use Rattle.walk.proofs.wipe.Goals.{After-all_states-size}

-- The rest, with the states as they were counted.
rest : (c : After-all_states-size) → Rest c.all_states-size.result c.args.area.now
rest c = rw c.all_states-size.ensures c.requires.1

pub returns : goal.returns
returns c =
    let area = c.args.area.now in
    let size : ℕ = 3 * c.all_states-size.result in
    ap (λ (l : List ℕ). l ++ drop size area) (c.clear.ensures ∙ ap zeros (length-take-le size area (rest (goal.at.returns c).After-all_states-size).long)) ∙ rest-none (rest (goal.at.returns c).After-all_states-size)
