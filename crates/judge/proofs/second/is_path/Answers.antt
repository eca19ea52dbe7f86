-- `judge::second::is_path` meets its contract: the row says where the path's bytes are, and how many.
use Rattle.judge.proofs.Rows.{same_long}
use Rattle.judge.proofs.Found.{path-size, path-place, path-fits, path-same}
use native.Mathlib.Omega.{arith}
use mathlib.Core.Path.{◌∙◌, sym}
use Rattle.judge.proofs.second.is_path.Goals as goal

pub returns-then-path-size : goal.returns-then-path-size
returns-then-path-size c = λ P rest t bounded h l.
    let a = c.args in
    sym (same_long a.path.now _ (λ e. c.if-path-size.true (e ∙ sym (path-size P rest t a.store.now bounded h a.number l) ∙ sym c.from-size.ensures)))

pub returns-then-store-end : goal.returns-then-store-end
returns-then-store-end c P rest t bounded h l =
    let a = c.args in
    absurd (omega (
      arith,
      path-size P rest t a.store.now bounded h a.number l,
      path-place P rest t a.store.now bounded h a.number l,
      path-fits P rest t a.store.now bounded h a.number l,
    ))

pub returns : goal.returns
returns c = λ P rest t bounded h l.
    let a = c.args in
    c.is_same.ensures
    ∙ path-same P rest t a.store.now bounded h a.number l a.path.now _ _
    (omega (arith, path-place P rest t a.store.now bounded h a.number l))
    (c.from-size.ensures ∙ path-size P rest t a.store.now bounded h a.number l)
    c.if-path-size.false
