use mathlib.Core.Path.{◌≡◌, sym, ap, ◌∙◌}
use Prim.Native.Nat.{ℕ, ◌+◌, ◌*◌, ◌-◌, ◌<◌}
use native.Mathlib.Omega.{arith}
use lib.ListN.{length, get_or-replicate}
use Rattle.gran.specs.Match.{path_at}
use Rattle.fields.proofs.Header.{path-count}
use Rattle.fields.proofs.Paths.{path_read}
use Rattle.lookup.specs.Lookup.{grade_of}
use Rattle.lookup.proofs.Indexing.{entry_index_long, object_index_long}
use Rattle.lookup.proofs.Taking.{path-none, tops-none, tops_more, tops_force, tops_placed}
use Rattle.lookup.proofs.rows_of.Goals as goal
use Rattle.lookup.proofs.rows_of.Goals.{then-grade-ne0, else-grade-ne0}

pub loop-q-init : goal.loop-q-init
loop-q-init c = (
  ap length c.requires.0 ∙ entry_index_long _,
  ap length c.requires.1 ∙ object_index_long _,
  λ P rest L named. (
    tops-none 32 _ _ _ _ (λ k h. rw c.none-force.ensures.0 (get_or-replicate {A = ℕ} 32 k 0 0 h)),
    tops-none 64 _ _ _ _ (λ k h. rw c.none-places.ensures.0 (get_or-replicate {A = ℕ} 64 k 0 0 h)),
  ),
)

pub loop-q-preserved : goal.loop-q-preserved
loop-q-preserved c = (
  c.loop-q.invariant.0,
  c.loop-q.invariant.1,
  λ P rest L named.
      let args = c.args in
      let q = c.loop-q.q in
      let known : q < length P.paths = omega (arith, c.path_count.ensures, path-count L) in
      let grade = c.grade_beside-grade.ensures P rest L named (c.path-file.ensures.bytes ∙ path_read L args.c) known in
      let t = c.loop-q.invariant.2 P rest L named in
      let role : q * 32 + 32 - q * 32 ≡ 32 = omega arith in
      let entry : q * 64 + 64 - q * 64 ≡ 64 = omega arith in
      elim c.if-grade-ne0.branch [
        | then-grade-ne0 w ↦ rw (w.force-is, w.places-is) (
          tops_more 32 args.entries.now (grade_of P _) q _ _ _ _ (rw (w.from-role.ensures, role, grade) at w.take.ensures) t.0,
          tops_more 64 args.objects.now (grade_of P _) q _ _ _ _ (rw (w.from-entry.ensures, entry, grade) at w.take-then-grade-ne0.ensures) t.1,
        )
        | else-grade-ne0 w ↦
            let none : grade_of P _ q ≡ 0 = sym grade ∙ w.if-grade-ne0.false in
            rw (w.force-is, w.places-is) (
              tops_more 32 args.entries.now (grade_of P _) q _ _ _ _ (rw none (path-none _ _ _ 32)) t.0,
              tops_more 64 args.objects.now (grade_of P _) q _ _ _ _ (rw none (path-none _ _ _ 64)) t.1,
            )
      ],
)

pub returns : goal.returns
returns c P rest L named =
    let args = c.args in
    let is = c.path-file.ensures.bytes ∙ path_read L args.c in
    let all : c.loop-q.q ≡ length P.paths = omega (arith, c.path_count.ensures, path-count L, L.good.few_paths) in
    let t = c.loop-q.invariant.2 P rest L named in
    record { force_is = tops_force L (path_at P.paths args.c) (rw (c.requires.0, is, all) at t.0); place_is = tops_placed L (path_at P.paths args.c) (rw (c.requires.1, is, all) at t.1) }
