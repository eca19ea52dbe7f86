-- `leveecrumb_last_file` meets its contract: the start, no such path, a path of the store.
use mathlib.Core.Path.{◌≡◌, sym, ap, ◌∙◌}
use mathlib.Core.List.{List}
use Prim.Native.Nat.{ℕ}
use borrow.Author.Tests.{eqb-true, eqb-false}
use lib.ListN.{length}
use Rattle.fields.specs.Fields.{path_in}
use Rattle.leveecrumb.proofs.Placed.{at-start, at_none, at_path}
use Rattle.leveecrumb.proofs.last.leveecrumb_last_file.Goals as goal

pub returns-then-number-eq-NONE : goal.returns-then-number-eq-NONE
returns-then-number-eq-NONE c = let a = c.args in at-start a.start.now a.store.now a.number c.if-number-eq-NONE.true

pub returns-then-is_empty : goal.returns-then-is_empty
returns-then-is_empty c =
    let a = c.args in
    let none = eqb-true _ _ (sym c.is_empty.ensures ∙ c.if-is_empty.true) in
    at_none a.start.now a.store.now a.number c.if-number-eq-NONE.false (sym (ap (λ (l : List ℕ). length l) c.path-path.ensures.bytes) ∙ none)

pub returns : goal.returns
returns c =
    let a = c.args in
    let same : length c.path-path.result.now ≡ length (path_in a.store.now a.number) = ap (λ (l : List ℕ). length l) c.path-path.ensures.bytes in
    let some = eqb-false _ _ (sym c.is_empty.ensures ∙ c.if-is_empty.false) in
    rw (c.from-2.ensures, c.word-place.ensures, c.from.ensures, same) (at_path a.start.now a.store.now a.number c.if-number-eq-NONE.false (λ z. some (same ∙ z)))
