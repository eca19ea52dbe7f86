use mathlib.Core.List.{[]}
use mathlib.Core.Path.{◌≡◌, ap, ◌∙◌}
use mathlib.Core.List.{List}
use Prim.Native.Nat.{ℕ, ◌+◌, ◌<◌}
use native.Mathlib.Omega.{arith}
use lib.ListN.{get_or}
use Rattle.numbered.specs.Number.{all_states, number_of}
use Rattle.numbered.specs.Candidates.{Step, goal_at, with_subject, in_image}
use Rattle.numbered.specs.declared.Sizes.{Sizes}
use Rattle.numbered.specs.declared.Digits.{Digits}
use Rattle.walk.specs.Walk.{visits}
use Rattle.walk.specs.Needed.{walk_of}
use Rattle.walk.specs.Image.{image_of}
use Rattle.numbered.proofs.Radix.{number_of_lt}
use Rattle.walk.proofs.Loops.{turns, ends}
use Rattle.walk.proofs.Targets.{among_subject}
use Rattle.walk.proofs.Images.{listed_lt, image-steps}
use Rattle.walk.proofs.execs.exec_subjects.Goals as goal
use Rattle.walk.proofs.execs.exec_subjects.Goals.{At-loop-k, In-loop-k}

-- The number of a row's subject k is the row's first number and k.
row : (z : Sizes) (d : Digits) (base : ℕ) → base ≡ number_of z (with_subject d 0) → (k : ℕ) → base + k ≡ number_of z (with_subject d k)
unfolding number_of
row z d base e k = omega (arith, e)

first : (c : At-loop-k) → (k : ℕ) → c.number-base.result + k ≡ number_of c.args.given.sizes (with_subject c.args.d k)
first c = row c.args.given.sizes c.args.d c.number-base.result c.number-base.ensures

-- A step to a subject of the image leads to a state.
target : (c : In-loop-k) → c.number-base.result + get_or c.args.image.now c.loop-k.k-index 0 < all_states c.args.given.sizes
unfolding image_of
target c =
    let x = c.args.x in
    let at : ℕ = get_or c.args.image.now c.loop-k.k-index 0 in
    let lt : at < c.args.given.sizes.subjects = listed_lt [] (in_image c.args.given.tables.now x.from x.place x.path) c.args.given.sizes.subjects c.requires.1.1 tt c.loop-k.k-index c.loop-k-test.true in
    rw (row c.args.given.sizes c.args.d c.number-base.result c.number-base.ensures at) (number_of_lt (among_subject c.requires.1.0 lt))

pub overflow_add-n : goal.overflow_add-n
overflow_add-n c = omega (arith, target (goal.at.overflow_add-n c).In-loop-k, c.requires.0.sized.few)

pub visit-done-requires : goal.visit-done-requires
visit-done-requires c = (c.loop-k.invariant.going, rw c.from.ensures (target (goal.at.visit-done-requires c).In-loop-k))

pub loop-k-preserved : goal.loop-k-preserved
unfolding visits
loop-k-preserved c = turns c.loop-k.invariant (omega arith) (target (goal.at.loop-k-preserved c).In-loop-k, tt) (rw (c.from.ensures, c.from-label.ensures) at c.visit-done.ensures)

pub returns : goal.returns
returns c =
    let x = c.args.x in
    ends c.loop-k.invariant (omega arith)
    ∙ ap (λ (xs : List Step). visits (goal_at c.args.given.tables.now c.args.given.sizes) c.args.given.place xs (walk_of c.args.area.now c.args.w))
    (image-steps c.args.given.tables.now c.args.given.sizes c.args.d x.from x.place x.path c.number-base.result (first (goal.at.returns c).At-loop-k) c.args.image.now c.requires.1.1)
