-- `walk::expand` meets its contract: four lists of steps, one after the other, and what was found stays found.
use mathlib.Core.Bool.{Bool}
use mathlib.Core.List.{List}
use mathlib.Core.Path.{◌≡◌, ap, ◌∙◌}
use Prim.Native.Nat.{ℕ}
use Rattle.gran.specs.Policy.{SET_UID, SET_GID}
use Rattle.gran.specs.Access.{has}
use Rattle.numbered.specs.declared.Sizes.{Sizes}
use Rattle.numbered.specs.Candidates.{goal_at, special_steps, user_steps, group_steps, object_steps, steps_with}
use Rattle.numbered.specs.Number.{Among}
use Rattle.walk.specs.Walk.{Walk, visits}
use Rattle.walk.specs.Needed.{walk_of, Going, Opened}
use Rattle.numbered.proofs.Radix.{digits_among, among_celled}
use Rattle.walk.proofs.Walks.{visits_as, visits-four}
use Rattle.walk.proofs.Again.{both_on}
use Rattle.walk.proofs.Targets.{inside_specials, inside_users-set, inside_groups-set}
use Rattle.walk.proofs.Tests.{users_if, groups_if, steps_are}
use Rattle.walk.proofs.expand.Goals as goal
use Rattle.walk.proofs.expand.Goals.{After-of-d, After-offer_span-w3, After-offer_span-w2, After-offer_span-w1}

-- The state's digits are below their sizes.
below : (c : After-of-d) → Among c.args.given.sizes c.of-d.result
below c = rw c.of-d.ensures (digits_among c.requires.0.sized c.args.n c.requires.1.0)

-- What was offered are the steps of their kinds.
specials : (c : After-offer_span-w1) → walk_of c.offer_span-w1.new.area c.offer_span-w1.result ≡ visits (goal_at c.args.given.tables.now c.args.given.sizes) c.args.given.place (special_steps c.args.given.tables.now c.args.given.sizes c.of-d.result c.role_at-role.result) (walk_of c.args.area.now c.args.w)
specials c =
    let g = c.args.given in
    visits_as (goal_at g.tables.now g.sizes) g.place (walk_of c.args.area.now c.args.w) c.offer_span-w1.ensures (c.of_specials.ensures.1 g.tables.now)

users : (c : After-offer_span-w2) → walk_of c.offer_span-w2.new.area c.offer_span-w2.result ≡ visits (goal_at c.args.given.tables.now c.args.given.sizes) c.args.given.place (user_steps c.args.given.store.now c.args.given.tables.now c.args.given.sizes c.of-d.result c.entry_at-entry.result) (walk_of c.offer_span-w1.new.area c.offer_span-w1.result)
users c =
    let g = c.args.given in
    visits_as (goal_at g.tables.now g.sizes) g.place (walk_of c.offer_span-w1.new.area c.offer_span-w1.result) c.offer_span-w2.ensures
    (users_if g.store.now g.tables.now g.sizes c.of-d.result c.entry_at-entry.result (c.set_uid.ensures ∙ ap (λ (m : ℕ). has m SET_UID) c.entry_caps.ensures) (c.of_users.ensures.1 g.tables.now))

groups : (c : After-offer_span-w3) → walk_of c.offer_span-w3.new.area c.offer_span-w3.result ≡ visits (goal_at c.args.given.tables.now c.args.given.sizes) c.args.given.place (group_steps c.args.given.store.now c.args.given.tables.now c.args.given.sizes c.of-d.result c.entry_at-entry.result) (walk_of c.offer_span-w2.new.area c.offer_span-w2.result)
groups c =
    let g = c.args.given in
    visits_as (goal_at g.tables.now g.sizes) g.place (walk_of c.offer_span-w2.new.area c.offer_span-w2.result) c.offer_span-w3.ensures
    (groups_if g.store.now g.tables.now g.sizes c.of-d.result c.entry_at-entry.result (c.set_gid.ensures ∙ ap (λ (m : ℕ). has m SET_GID) c.entry_caps.ensures) (c.of_groups.ensures.1 g.tables.now))

-- The search goes on after each list, with its flags.
abbrev Runs : Sizes → ℕ → List ℕ → List ℕ → List Bool → Walk → Type 0
Runs z p store t opened w = Going z p w × Opened store t z opened w

after-specials : (c : After-offer_span-w1) → Among c.args.given.sizes c.of-d.result → Runs c.args.given.sizes c.args.given.place c.args.given.store.now c.args.given.tables.now c.args.opened.now (walk_of c.offer_span-w1.new.area c.offer_span-w1.result)
after-specials c among =
    let g = c.args.given in
    both_on c.requires.1.1 c.requires.0 (goal_at g.tables.now g.sizes) (special_steps g.tables.now g.sizes c.of-d.result c.role_at-role.result)
    (inside_specials g.store.now g.tables.now among c.role_at-role.result) (specials c)

after-users : (c : After-offer_span-w2) → Among c.args.given.sizes c.of-d.result → Runs c.args.given.sizes c.args.given.place c.args.given.store.now c.args.given.tables.now c.args.opened.now (walk_of c.offer_span-w1.new.area c.offer_span-w1.result) → Runs c.args.given.sizes c.args.given.place c.args.given.store.now c.args.given.tables.now c.args.opened.now (walk_of c.offer_span-w2.new.area c.offer_span-w2.result)
after-users c among so =
    let g = c.args.given in
    both_on so.1 so.0 (goal_at g.tables.now g.sizes) (user_steps g.store.now g.tables.now g.sizes c.of-d.result c.entry_at-entry.result)
    (inside_users-set g.store.now g.tables.now among c.entry_at-entry.result) (users c)

after-groups : (c : After-offer_span-w3) → Among c.args.given.sizes c.of-d.result → Runs c.args.given.sizes c.args.given.place c.args.given.store.now c.args.given.tables.now c.args.opened.now (walk_of c.offer_span-w2.new.area c.offer_span-w2.result) → Runs c.args.given.sizes c.args.given.place c.args.given.store.now c.args.given.tables.now c.args.opened.now (walk_of c.offer_span-w3.new.area c.offer_span-w3.result)
after-groups c among so =
    let g = c.args.given in
    both_on so.1 so.0 (goal_at g.tables.now g.sizes) (group_steps g.store.now g.tables.now g.sizes c.of-d.result c.entry_at-entry.result)
    (inside_groups-set g.store.now g.tables.now among c.entry_at-entry.result) (groups c)

pub role_at-role-requires : goal.role_at-role-requires
role_at-role-requires c = among_celled c.requires.0.sized (below (goal.at.role_at-role-requires c).After-of-d)

pub entry_at-entry-requires : goal.entry_at-entry-requires
entry_at-entry-requires c = among_celled c.requires.0.sized (below (goal.at.entry_at-entry-requires c).After-of-d)

pub of_specials-requires : goal.of_specials-requires
of_specials-requires c = (c.requires.0.sized, below (goal.at.of_specials-requires c).After-of-d)

pub of_users-requires : goal.of_users-requires
of_users-requires c = (c.requires.0.sized, below (goal.at.of_users-requires c).After-of-d)

pub offer_span-w2-requires : goal.offer_span-w2-requires
offer_span-w2-requires c =
    let at = goal.at.offer_span-w2-requires c in
    ((after-specials at.After-offer_span-w1 (below at.After-of-d)).0, c.of_users.ensures.0)

pub of_groups-requires : goal.of_groups-requires
of_groups-requires c = (c.requires.0.sized, below (goal.at.of_groups-requires c).After-of-d)

pub offer_span-w3-requires : goal.offer_span-w3-requires
offer_span-w3-requires c =
    let at = goal.at.offer_span-w3-requires c in
    let among = below at.After-of-d in
    ((after-users at.After-offer_span-w2 among (after-specials at.After-offer_span-w1 among)).0, c.of_groups.ensures.0)

pub exec_once-requires : goal.exec_once-requires
exec_once-requires c =
    let at = goal.at.exec_once-requires c in
    let among = below at.After-of-d in
    let so = after-groups at.After-offer_span-w3 among (after-users at.After-offer_span-w2 among (after-specials at.After-offer_span-w1 among)) in
    (so.0, (among, so.1))

pub returns : goal.returns
unfolding steps_with
returns c =
    let at = goal.at.returns c in
    let g = c.args.given in
    let d = c.of-d.result in
    let role = c.role_at-role.result in
    let entry = c.entry_at-entry.result in
    let aim = goal_at g.tables.now g.sizes in
    let w = walk_of c.args.area.now c.args.w in (
      visits_as aim g.place w
          (visits-four aim g.place (special_steps g.tables.now g.sizes d role) (user_steps g.store.now g.tables.now g.sizes d entry)
          (group_steps g.store.now g.tables.now g.sizes d entry) (object_steps g.store.now g.tables.now g.sizes d entry) w
          (specials at.After-offer_span-w1) (users at.After-offer_span-w2) (groups at.After-offer_span-w3) c.exec_once.ensures.0)
          (steps_are g.store.now g.tables.now g.sizes c.args.n d role entry c.of-d.ensures c.role_at-role.ensures c.entry_at-entry.ensures),
      c.exec_once.ensures.1,
    )
