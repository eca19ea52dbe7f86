use mathlib.Core.Path.{◌≡◌, ◌∙◌}
use native.Mathlib.Omega.{arith}
use Rattle.ids.proofs.Candidates.{free_found}
use Rattle.ids.proofs.Allowed.least_free.Goals as goal

pub returns : goal.returns
returns c P rest L known few =
    let all : c.loop-i.i ≡ c.candidate_count-i-end.result = omega arith in
    c.loop-i.invariant P rest L known ∙ rw (all, c.candidate_count-i-end.ensures) (free_found L _ _ known few)
