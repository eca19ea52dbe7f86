-- `execs::exec_users` meets its contract, by the laws of loops that visit steps, with groups that are enough.
use mathlib.Core.Bool.{So}
use lib.ListN.{length}
use Rattle.numbered.specs.Candidates.{goal_at, with_user}
use Rattle.walk.specs.Needed.{walk_of, ObjectDone}
use Rattle.walk.specs.Image.{to_group}
use Rattle.walk.proofs.Loops.{Left}
use Rattle.walk.proofs.Images.{at, to_user}
use Rattle.walk.proofs.execs.exec_users.Given as goal

abbrev pub invariant-loop-j : goal.invariant-loop-j
invariant-loop-j l =
    let t = l.given.tables.now in
    let z = l.given.sizes in
    Left z (goal_at t z) l.given.place (at (to_user t z l.d l.x.from l.x.place l.x.path) l.follow.users.now) (length l.follow.users.now) (walk_of l.initial.area l.initial.done) (walk_of l.area l.done) l.j
    × (So l.follow.again → ObjectDone t z l.x.from l.x.place l.x.path l.d.special (walk_of l.area l.done))

abbrev pub invariant-loop-group : goal.invariant-loop-group
invariant-loop-group l =
    let t = l.given.tables.now in
    let z = l.given.sizes in
    Left z (goal_at t z) l.given.place (at (to_group t z (with_user l.d l.user) l.x.from l.x.place l.x.path) l.group-items) (length l.group-items) (walk_of l.initial.area l.initial.done) (walk_of l.area l.done) l.group-index
