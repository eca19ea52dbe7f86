use Rattle.std.proofs.Common.{rules}
use borrow.Author.Tests.{ltb-true}
use mathlib.Core.Path.{sym, ◌∙◌}
use mathlib.Core.Bool.{So, ◌&&◌, and-eq-true_iff}
use Prim.Native.Nat.{◌≤◌}
use lib.Dec.{ltb}
use lib.ListN.{length, get_or, take}
use lib.Seq.{length-take-le}
use Rattle.tables.specs.Tables.{is_set, user_reach_cell}
use Rattle.numbered.specs.Number.{Among}
use Rattle.numbered.specs.Candidates.{goal_at, with_user, with_group, in_image}
use Rattle.walk.specs.Needed.{walk_of, ObjectDone}
use Rattle.walk.specs.Image.{image_of, to_group}
use Rattle.walk.proofs.Walks.{visits_as}
use Rattle.walk.proofs.Loops.{turns, ends}
use Rattle.walk.proofs.Targets.{among_user, among-group, inside-subjects, inside_groups}
use Rattle.walk.proofs.Images.{to_user, user-steps, list_steps, below_front, groups_below, groups_fit, users_below, user_allowed}
use Rattle.walk.proofs.Again.{object_on, groups_enough}
use Rattle.walk.proofs.execs.exec_users.Goals as goal
use Rattle.walk.proofs.execs.exec_users.Goals.{In-loop-j, After-group_count-n, In-loop-group}

-- A user of the list is one of the choices.
with_choice : (c : In-loop-j) → Among c.args.given.sizes (with_user c.args.d (get_or c.args.follow.now.users.now c.loop-j.j 0))
with_choice c =
    let a = c.args in
    among_user c.requires.1.0 (users_below a.given.tables.now a.given.sizes a.d a.x.from c.requires.1.1.1.0 c.requires.1.0.user c.loop-j.j c.loop-j-test.true)

-- Only the kept group, or all groups of the list.
fits : (c : After-group_count-n) → c.group_count-n.result ≤ length c.args.follow.now.groups.now
fits c =
    let a = c.args in
    groups_fit a.given.tables.now a.given.sizes a.d a.x.from (a.follow.now.again && ltb 0 c.loop-j.j) c.requires.1.1.0 c.group_count-n.ensures

-- And so is a group.
with_both : (c : In-loop-group) → Among c.args.given.sizes (with_user c.args.d (get_or c.args.follow.now.users.now c.loop-j.j 0)) → c.group_count-n.result ≤ length c.args.follow.now.groups.now
    → Among c.args.given.sizes (with_group (with_user c.args.d (get_or c.args.follow.now.users.now c.loop-j.j 0)) (get_or (take c.group_count-n.result c.args.follow.now.groups.now) c.loop-group.group-index 0))
with_both c among few =
    let a = c.args in
    among-group among
    (below_front a.given.sizes.groups c.args.follow.now.groups.now (groups_below a.given.tables.now a.given.sizes a.d a.x.from c.requires.1.1.0 c.requires.1.0.group) c.group_count-n.result few c.loop-group.group-index c.loop-group-test.true)

pub slice_bounds-group-items-end : goal.slice_bounds-group-items-end
slice_bounds-group-items-end c = sym (length-take-le c.group_count-n.result c.args.follow.now.groups.now (fits (goal.at.slice_bounds-group-items-end c).After-group_count-n))

pub exec_subjects-done-requires : goal.exec_subjects-done-requires
unfolding image_of
exec_subjects-done-requires c =
    let x = c.args.x in
    let at = goal.at.exec_subjects-done-requires c in (
      c.loop-group.invariant.going,
      (
        rw (c.from.ensures, c.from-in-loop-group.ensures) (with_both at.In-loop-group (with_choice at.In-loop-j) (fits at.After-group_count-n)),
        c.as_slice-subjects.ensures ∙ rw c.new-image.ensures at (c.push_where.ensures (in_image c.args.given.tables.now x.from x.place x.path) (λ k lt b q. search rules)),
      ),
    )

pub loop-group-preserved : goal.loop-group-preserved
loop-group-preserved c =
    let x = c.args.x in
    let at = goal.at.loop-group-preserved c in
    turns c.loop-group.invariant c.loop-group-test.true
    (inside-subjects c.args.given.tables.now x.from x.place x.path (with_both at.In-loop-group (with_choice at.In-loop-j) (fits at.After-group_count-n)))
    (rw (c.from.ensures, c.from-in-loop-group.ensures) at c.exec_subjects-done.ensures)

pub loop-j-preserved : goal.loop-j-preserved
loop-j-preserved c =
    let l = c.loop-j in
    let a = c.args in
    let x = a.x in
    let t = a.given.tables.now in
    let z = a.given.sizes in
    let users = c.requires.1.1.1.0 in
    let aim = goal_at t z in
    let user = get_or c.args.follow.now.users.now l.j 0 in
    let below = users_below t z a.d x.from users c.requires.1.0.user l.j c.loop-j-test.true in
    let alone : So (a.follow.now.again && ltb 0 l.j) → So (is_set t (user_reach_cell x.from user)) × ObjectDone t z x.from x.place x.path a.d.special (walk_of l.area l.done) = λ so.
    let both = (and-eq-true_iff a.follow.now.again (ltb 0 l.j)).0 so in
    (user_allowed t z a.d x.from users l.j (ltb-true 0 l.j both.1) c.loop-j-test.true, l.invariant.1 both.0) in
    let inside = inside_groups t x.from x.place x.path (with_choice (goal.at.loop-j-preserved c).In-loop-j) in
    let done = visits_as aim a.given.place (walk_of l.area l.done) (ends c.loop-group.invariant c.loop-group-test.false)
    (list_steps (to_group t z (with_user a.d user) x.from x.place x.path) (take c.group_count-n.result c.args.follow.now.groups.now)) in
    let is = groups_enough aim l.invariant.0.going c.requires.1.0 user below (a.follow.now.again && ltb 0 l.j) alone c.args.follow.now.groups.now c.requires.1.1.0 c.group_count-n.ensures done in
    (turns l.invariant.0 c.loop-j-test.true inside is, λ again. object_on l.invariant.0.going aim (to_user t z a.d x.from x.place x.path user) inside is (l.invariant.1 again))

pub returns : goal.returns
returns c =
    let a = c.args in
    let x = a.x in
    visits_as (goal_at a.given.tables.now a.given.sizes) a.given.place (walk_of a.area.now a.w) (ends c.loop-j.invariant.0 c.loop-j-test.false)
    (user-steps a.given.tables.now a.given.sizes a.d x.from x.place x.path c.args.follow.now.users.now c.requires.1.1.1.0)
