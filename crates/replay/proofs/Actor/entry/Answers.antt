-- `entry` meets its contract: the entry that is looked up.
use native.Mathlib.Omega.{arith}
use Prim.Native.Nat.{◌<◌}
use lib.ListN.{length}
use Rattle.gran.specs.Real.{entry, role, state_of}
use Rattle.fields.proofs.Header.{role-count}
use Rattle.replay.proofs.Actor.entry.Goals as goal

pub returns : goal.returns
unfolding entry role state_of
returns c P rest L =
    let known : c.role-role.result < length P.roles = omega (arith, role-count L) in
    let found = c.entry_in.ensures P rest _ L (c.grades.ensures P rest L) known in
    (found.inside, rw (← c.role-role.ensures P rest L) found.is)
