use mathlib.Core.List.{List, []}
use mathlib.Core.Path.{◌≡◌, ◌∙◌}
use Prim.Native.Nat.{ℕ, ◌+◌, ◌-◌, ◌<◌}
use native.Mathlib.Omega.{arith}
use lib.ListN.{length, get_or}
use Rattle.gran.specs.Real
use Rattle.lines.specs.Line.{line_of}
use Rattle.records.specs.Record.{record_of, step_bytes}
use Rattle.records.proofs.Bytes.{step_line_most}
use Rattle.reply.specs.Run.{act_of, real_after, state_after, Marked, Lying, LyingIn}
use Rattle.reply.proofs.Steps.{length_more, length_few, length_none, length_all}
use Rattle.reply.proofs.run.Searched.run_length.Goals as goal
use Rattle.reply.proofs.run.Searched.run_length.Goals.{After-label_length-size}

-- The step whose place stands at i.
here : {area places : List ℕ} (g : Lying area places (length places)) (i : ℕ) → i < length places
    → Marked g.policy area (state_after g.from g.acts (length places - (i + 1))) (act_of g.acts (length places - (i + 1))) (get_or places i 0)
here {area} {places} g i h = g.traced.marked (length places - (i + 1)) i (omega arith)

-- The length of its line, whatever real state it is done in.
size_is : (c : After-label_length-size) (g : LyingIn c.args.self c.args.places.now) (σ : Real.State)
    → c.label_length-size.result ≡ length (line_of (step_bytes (record_of g.policy σ (act_of g.acts (length c.args.places.now - (c.loop-place.place-index + 1))))))
size_is c g σ =
    let m = here g c.loop-place.place-index c.loop-place-test.true in
    let k = length c.args.places.now - (c.loop-place.place-index + 1) in
    c.label_length-size.ensures g.policy σ (state_after g.from g.acts k) (act_of g.acts k) g.good m.may (c.taken.ensures.label ∙ m.label)

pub loop-place-init : goal.loop-place-init
loop-place-init c g σ = length_none g.policy σ g.acts (length c.args.places.now - 0) (omega (arith, g.traced.size))

pub taken-requires-clause-place_in : goal.taken-requires-clause-place_in
taken-requires-clause-place_in c = omega (arith, (here c.requires c.loop-place.place-index c.loop-place-test.true).within)

pub taken-requires-clause-label_in : goal.taken-requires-clause-label_in
taken-requires-clause-label_in c = (here c.requires c.loop-place.place-index c.loop-place-test.true).room

pub overflow_add-size : goal.overflow_add-size
overflow_add-size c =
    let g = c.requires in
    let σ = Real.start 0 0 [] in
    let k = length c.args.places.now - (c.loop-place.place-index + 1) in
    omega (
      arith,
      c.loop-place.invariant g σ,
      size_is (goal.at.overflow_add-size c).After-label_length-size g σ,
      length_few g.policy σ g.acts (length c.args.places.now - c.loop-place.place-index),
      step_line_most (record_of g.policy σ (act_of g.acts k)),
      g.traced.size,
      g.traced.few,
    )

pub loop-place-preserved : goal.loop-place-preserved
loop-place-preserved c g σ =
    let k = length c.args.places.now - (c.loop-place.place-index + 1) in
    omega (
      arith,
      c.loop-place.invariant g σ,
      size_is (goal.at.loop-place-preserved c).After-label_length-size g (real_after g.policy σ g.acts k),
      length_more g.policy σ g.acts k (length c.args.places.now - c.loop-place.place-index) (omega arith) (omega (arith, g.traced.size)),
    )

pub returns : goal.returns
returns c g σ = c.loop-place.invariant g σ ∙ length_all g.policy σ g.acts (length c.args.places.now - c.loop-place.place-index) (omega arith)
