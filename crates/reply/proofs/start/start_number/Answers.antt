-- `start_number` meets its contract: the digits are the places of the start's parts.
use mathlib.Core.Path.{◌≡◌, ◌∙◌}
use native.Mathlib.Omega.{arith}
use lib.ListN.{length-take}
use Rattle.gran.specs.Abstract.{abstract}
use Rattle.ask.specs.Ask.{asked_of, start_of}
use Rattle.fields.specs.Fields.{policy_in}
use Rattle.numbered.specs.Number.{places_of, state_number}
use Rattle.numbered.proofs.Numbers.{places_among}
use Rattle.reply.proofs.Digits.{ready_sized, ready_room, subjects_part, start_digits, start_inside}
use Rattle.reply.proofs.start.start_number.Goals as goal
use Rattle.reply.proofs.start.start_number.Goals.{After-from-3}

-- What is read are the start's places.
digits : (c : After-from-3) → record { special = 0; user = c.from.result; group = c.from-2.result; subject = c.from-3.result }
    ≡ places_of (policy_in c.args.store.now) (abstract (policy_in c.args.store.now) (start_of (asked_of c.args.asked)))
digits c =
    let r = c.requires.1 in
    let L = r.held in
    start_digits r c.args.asked.uid c.args.asked.gid c.args.asked.start.now _ _ _ _ _
    (c.from.ensures ∙ c.place_in-user.ensures) (c.role_of.ensures _ _ L) (c.from-2.ensures ∙ c.place_in-group.ensures) (c.role_of-2.ensures _ _ L)
    (c.from-3.ensures ∙ c.closest_in-subject.ensures _ _ L (subjects_part r))

pub overflow_add-users : goal.overflow_add-users
overflow_add-users c = omega (arith, ready_room c.requires.1)

pub overflow_add-groups : goal.overflow_add-groups
overflow_add-groups c = omega (arith, ready_room c.requires.1)

pub overflow_add-subjects : goal.overflow_add-subjects
overflow_add-subjects c = omega (arith, ready_room c.requires.1)

pub slice_bounds-users-end : goal.slice_bounds-users-end
slice_bounds-users-end c = omega (arith, ready_room c.requires.1)

pub slice_bounds-groups-end : goal.slice_bounds-groups-end
slice_bounds-groups-end c = omega (arith, ready_room c.requires.1)

pub slice_bounds-subjects-end : goal.slice_bounds-subjects-end
slice_bounds-subjects-end c = omega (arith, ready_room c.requires.1)

pub place_in-user-requires : goal.place_in-user-requires
place_in-user-requires c = rw length-take (omega (arith, ready_room c.requires.1))

pub place_in-group-requires : goal.place_in-group-requires
place_in-group-requires c = rw length-take (omega (arith, ready_room c.requires.1))

pub closest_in-subject-requires : goal.closest_in-subject-requires
closest_in-subject-requires c = rw length-take (omega (arith, ready_room c.requires.1))

pub number-requires : goal.number-requires
number-requires c =
    let P = policy_in c.args.store.now in
    let r = c.requires.1 in
    let a = asked_of c.args.asked in
    (ready_sized r, rw (digits (goal.at.number-requires c).After-from-3, r.sizes) (places_among P (abstract P (start_of a)) (start_inside r a.uid a.gid a.start)))

pub returns : goal.returns
unfolding state_number
returns c = c.number.ensures ∙ rw (digits (goal.at.returns c).After-from-3, c.requires.1.sizes)
