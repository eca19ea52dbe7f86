-- `records::Step::line` meets its contract: a record of no other kind is an exec's.
use native.Mathlib.Omega.{arith}
use Rattle.store.specs.Layout.{four}
use Rattle.records.proofs.Bytes.{exec_bytes}
use Rattle.records.proofs.Step.line.Goals as goal

pub returns-in_default : goal.returns-in_default
unfolding four
returns-in_default c = rw (exec_bytes c.args.self (λ e. omega arith) (λ e. omega arith) (λ e. omega arith), c.of-in_default.ensures, c.id_bytes.ensures, c.id_bytes-2.ensures)
