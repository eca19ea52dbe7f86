-- `load::read_lines` meets its contract. The invariant is `Loading`: a load lies in the store, and the lines that are left decide.
use mathlib.Core.Path.{◌≡◌}
use lib.ListN.{length, drop}
use Rattle.load.proofs.AllLines.{Loading}
use Rattle.load.proofs.read_lines.Given as goal

abbrev pub invariant-loop-rest : goal.invariant-loop-rest
invariant-loop-rest l =
    record {
      loading : Loading l.text (drop 16384 l.initial.store) l.store l.marks l.tally l.last l.line l.rest;
      kept : length l.store ≡ length l.initial.store;
      marks : length l.marks ≡ 1024;
    }

abbrev pub decreases-loop-rest : goal.decreases-loop-rest
decreases-loop-rest l = length l.rest
