-- `walk::none_opened` meets its contract: no flag is set.
use Rattle.walk.proofs.Again.{unset}
use Rattle.walk.proofs.none_opened.Goals as goal

pub returns : goal.returns
returns c i = unset 2048 i
