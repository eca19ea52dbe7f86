use Rattle.std.proofs.Common.{true, false, sym, arith}
use Rattle.std.proofs.lemmas.List.{length_push}
use Rattle.walk.proofs.Images.{listed_hit, listed_miss}
use Rattle.walk.proofs.few.Few.push_where.Goals as goal
use Rattle.walk.proofs.few.Few.push_where.Goals.{then-test, else-test}

pub loop-k-preserved : goal.loop-k-preserved
loop-k-preserved g c =
    let l = c.loop-k in
    let was = c.args.self.now in
    elim c.if-test.branch [
      | then-test w ↦ (
        rw (w.self-is, w.push.ensures, length_push) (omega arith),
        λ p h. let e = listed_hit was p l.k (sym (h l.k c.loop-k-test.true true w.if-test.ensures)) in let so = l.invariant.1 p h in cc,
      )
      | else-test w ↦ (
        rw w.self-is (omega arith),
        λ p h. let e = listed_miss was p l.k (sym (h l.k c.loop-k-test.true false w.if-test.ensures)) in let so = l.invariant.1 p h in cc,
      )
    ]
