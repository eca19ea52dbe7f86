-- `grade_beside` meets its contract: another path that is not shorter has no grade.
use mathlib.Core.Path.{sym, ap, ◌∙◌}
use Prim.Native.Nat.{◌≤◌}
use native.Mathlib.Omega.{arith}
use lib.ListN.{length}
use Rattle.gran.specs.Match.{path_at}
use Rattle.gran.proofs.Policies.{table}
use Rattle.fields.proofs.Paths.{size_read}
use Rattle.lookup.proofs.Greatest.{grade-beside}
use Rattle.lookup.proofs.Found.{grade_read}
use Rattle.lookup.proofs.grade_beside.Goals as goal

pub returns-then-file-from : goal.returns-then-file-from
returns-then-file-from c P rest L own is named =
    let a = c.args in
    let long : length (path_at P.paths a.c) ≤ length (path_at P.paths a.q) = omega (arith, ap length is, c.path_size.ensures, size_read L a.q named) in
    rw is (sym (grade-beside P (table P L.good) a.c a.q own named c.if-q-c.true long))

pub returns : goal.returns
returns c P rest L own is named = c.grade.ensures ∙ grade_read L _ _ named
