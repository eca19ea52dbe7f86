use mathlib.Core.Path.{◌≡◌, refl, sym, ap, ◌∙◌}
use Prim.Native.Nat.{ℕ, suc, ◌+◌, ◌≤◌, ◌<◌, ◌-◌}
use native.Mathlib.Omega.{arith}
use Rattle.numbered.specs.Candidates.{goal_at, candidates}
use Rattle.walk.specs.Walk.{Walk, queued, sweep, search}
use Rattle.walk.specs.Needed.{walk_of}
use Rattle.walk.proofs.Walks.{sweep_met, sweep_more, sweep-done}
use Rattle.walk.proofs.Keeping.{kept-empty, kept_count, kept_most, kept-visit, kept-visits}
use Rattle.walk.proofs.Full.{sweep_full}
use Rattle.walk.proofs.Again.{none-set}
use Rattle.walk.proofs.Targets.{inside-candidates}
use Rattle.walk.proofs.search.Goals as goal
use Rattle.walk.proofs.search.Goals.{At-loop-p, then-w-via-then-w, then-w-via-else-w+then-w-p, then-w-via-else-w+else-w-p+then-w-all}

-- The function's and the memory, seen from the loop's head.
abbrev memory : At-loop-p → Walk
memory a = walk_of a.loop-p.area a.loop-p.w

bound : (a : At-loop-p) → a.loop-p.w.count ≤ 8192
bound a = kept_count a.args.z a.loop-p.invariant.0

-- A memory that the rest of the sweep leaves as it is, is that of the whole search.
whole : (a : At-loop-p) → sweep (goal_at a.args.t.now a.args.z) (candidates a.args.store.now a.args.t.now a.args.z) (8192 - a.loop-p.p) a.loop-p.p (memory a) ≡ memory a
    → memory a ≡ search (goal_at a.args.t.now a.args.z) (candidates a.args.store.now a.args.t.now a.args.z) a.args.start a.args.area.now
unfolding search
whole a over =
    sym over ∙ a.loop-p.invariant.1.1.0 ∙ ap (sweep (goal_at a.args.t.now a.args.z) (candidates a.args.store.now a.args.t.now a.args.z) 8192 0) a.visit-w.ensures

pub visit-w-requires : goal.visit-w-requires
visit-w-requires c =
    (record { kept = kept-empty c.args.z c.args.area.now c.requires.0; place = omega arith; sized = c.requires.1.0 }, c.requires.1.1)

pub loop-p-init : goal.loop-p-init
loop-p-init c =
    let z = c.args.z in
    let kept = kept-visit z c.requires.1.0.few (goal_at c.args.t.now z) 0 0 c.args.start c.requires.1.1 (kept-empty z c.args.area.now c.requires.0) in
    let first = c.visit-w in
    (rw first.ensures kept, (omega arith, (refl, none-set (walk_of first.new.area first.result) c.none_opened-opened.ensures)))

pub returns-then-w : goal.returns-then-w
returns-then-w c =
    let s = (goal.at.returns-then-w c).At-loop-p in
    let z = c.args.z in
    let aim = goal_at c.args.t.now z in
    let steps = candidates c.args.store.now c.args.t.now z in
    let p = c.loop-p.p in
    elim c.then-w.branch [
      | then-w-via-then-w w ↦ whole s (sweep_met aim steps (8192 - p) p (memory s) w.if-w.true)
      | then-w-via-else-w+then-w-p w ↦ whole s (sweep-done aim steps (8192 - p) p (memory s) w.if-w-p.true)
      | then-w-via-else-w+else-w-p+then-w-all w ↦
          whole s (sweep_full z c.requires.1.0.few aim (memory s) c.loop-p.invariant.0 (w.if-w-all.true ∙ c.all_states-all.ensures) steps (inside-candidates c.args.store.now c.args.t.now c.requires.1.0) (8192 - p) p)
    ]

pub expand-w-requires : goal.expand-w-requires
expand-w-requires c =
    let s = (goal.at.expand-w-requires c).At-loop-p in
    let l = c.loop-p in
    (record { kept = l.invariant.0; place = omega (arith, bound s); sized = s.requires.1.0 }, (rw c.from-n.ensures (l.invariant.0.states l.p c.if-w-p.false), l.invariant.1.1.1))

pub loop-p-preserved : goal.loop-p-preserved
loop-p-preserved c =
    let s = (goal.at.loop-p-preserved c).At-loop-p in
    let z = s.args.z in
    let aim = goal_at s.args.t.now z in
    let steps = candidates s.args.store.now s.args.t.now z in
    let p : ℕ = c.loop-p.p in
    let w : Walk = memory (goal.at.loop-p-preserved c).At-loop-p in
    let here : p < w.count = c.if-w-p.false in
    let most : w.count ≤ 8192 = bound (goal.at.loop-p-preserved c).At-loop-p in
    let fuel : 8192 - p ≡ suc (8192 - (p + 1)) = omega arith in
    let turned = rw c.from-n.ensures at c.expand-w.ensures.0 in (
      rw turned (kept-visits z s.requires.1.0.few aim p (steps (queued w.area p)) (inside-candidates s.args.store.now s.args.t.now s.requires.1.0 (queued w.area p) (c.loop-p.invariant.0.states p here)) c.loop-p.invariant.0),
      (
        omega arith,
        (
          ap (sweep aim steps (8192 - (p + 1)) (p + 1)) turned
              ∙ sym (sweep_more aim steps (8192 - (p + 1)) p w c.if-w.false here)
              ∙ ap (λ (f : ℕ). sweep aim steps f p w) (sym fuel) ∙ c.loop-p.invariant.1.1.0,
          c.expand-w.ensures.1,
        ),
      ),
    )

pub returns : goal.returns
returns c =
    let s = (goal.at.returns c).At-loop-p in
    whole (goal.at.returns c).At-loop-p (sweep-done (goal_at s.args.t.now s.args.z) (candidates s.args.store.now s.args.t.now s.args.z) (8192 - c.loop-p.p) c.loop-p.p (memory (goal.at.returns c).At-loop-p) (omega (arith, kept_most s.args.z s.requires.1.0.few c.loop-p.invariant.0)))
