-- The end of a search: the answer that it gives, and the run that is to be written.
-- Assumes nothing.
use mathlib.Core.Path.{◌≡◌, sym, ap, subst, ◌∙◌}
use mathlib.Core.Bool.{true}
use mathlib.Core.List.{List, ◌++◌}
use Prim.Native.Nat.{ℕ, ◌+◌, ◌*◌, ◌-◌, ◌≤◌, ◌<◌}
use native.Mathlib.Nat.{zero-add}
use native.Mathlib.Omega.{arith}
use borrow.Author.Tests.{le-leb, lt-leb}
use lib.ListN.{length, take, length-append}
use Rattle.lines.specs.Line.{zeros, in_front}
use Rattle.gran.specs.Policy.{Policy}
use Rattle.gran.specs.Real.{state_of, started}
use Rattle.gran.specs.Abstract.{Act, abstract}
use Rattle.gran.specs.declared.Process.{Process}
use Rattle.gran.proofs.Processes.{started_is}
use Rattle.fields.specs.Fields.{policy_in}
use Rattle.numbered.specs.Number.{all_states, Inside, sizes_of, state_number}
use Rattle.numbered.specs.Candidates.{goal_at, candidates}
use Rattle.numbered.specs.declared.Sizes.{Sizes}
use Rattle.numbered.proofs.Radix.{number_of_lt}
use Rattle.numbered.proofs.Numbers.{places_among}
use Rattle.records.specs.Record.{records_of, step_lines, summary, written, PutAs}
use Rattle.records.proofs.Bytes.{step_lines_most, records_of-length, summary-length}
use Rattle.records.proofs.Putting.{putting_starts}
use Rattle.tables.specs.Tables.{Tabled}
use Rattle.walk.specs.Walk.{Walk, queued, Cleared, search, trail, Written}
use Rattle.walk.specs.Needed.{walk_of, Kept, Rest}
use Rattle.walk.specs.declared.Progress.{Progress}
use Rattle.walk.proofs.Keeping.{kept_count, zeros-cleared}
use Rattle.walk.proofs.Targets.{search_kept}
use Rattle.walk.proofs.Rests.{search_rest}
use Rattle.walk.proofs.Found.{search-never, search_met}
use Rattle.ask.specs.Ask.{Answered, Short, Asked, Lines, reached, start_of, question_of, room_with, answer_with}
use Rattle.reply.specs.Reply.{Held, Ready, Told, Blank}
use Rattle.reply.specs.Run.{real_after, state_after, Traced, Lying, Writable, Wrote, Ended}
use Rattle.reply.proofs.Digits.{ready_sized, start_inside}
use Rattle.reply.proofs.Places.{shown_acts, traced_of, traced_front}

-- ---- lines and a room

module _ (lines room : List ℕ) (n : ℕ) (size : n ≡ length lines) where
  pub told_short : length room < n → Told lines room (Short n) room
  unfolding answer_with room_with
  told_short h =
      let no = lt-leb (length lines) (length room) (omega arith) in
      record { answer = rw (no, size); room = rw no }

  pub told-whole : n ≤ length room → (is : List ℕ) → is ≡ in_front lines room → Told lines room (Answered n) is
  unfolding answer_with room_with
  told-whole h is e =
      let fits = le-leb (length lines) (length room) (omega arith) in
      record { answer = rw (fits, size); room = rw fits e }

-- a line in front
pub put_first : {line before after : List ℕ} {at : ℕ} → PutAs line 0 before at after → (at ≡ length line) × (after ≡ in_front line before)
unfolding written
put_first p = (p.next ∙ zero-add _, p.room ∙ rw zero-add)

-- ---- a run that was found

module _ {s t area : List ℕ} {z : Sizes} {w : Progress} {start : Process} (g : Ended s t area z w start) where
  module _ (m : w.met ≡ true) where
    -- The run, and the lines of the answer that shows it.
    abbrev pub run_of : List Act
    run_of = shown_acts (g.met m)

    abbrev pub lines_after : ℕ → List ℕ
    lines_after n = summary 1 (w.count - 1) n ++ step_lines (records_of (policy_in s) (start_of g.asked) run_of)

    module _ {was out : List ℕ} {n : ℕ} (x : Written (trail area 8192 (w.count - 1)) was out n) where
      pub traced : Traced (policy_in s) (abstract (policy_in s) (start_of g.asked)) run_of area out n
      traced = traced_of (g.met m) was out n x

      unfoldable pub lying_of : Lying area (take n out) (length (take n out))
      lying_of = record { policy = policy_in s; good = g.ready.held.good; from = abstract (policy_in s) (start_of g.asked); acts = run_of; traced = traced_front traced }

      pub run_few : (k : ℕ) → k ≡ length (step_lines (records_of (policy_in s) (start_of g.asked) run_of)) → k ≤ 188416
      run_few k e = omega (arith, step_lines_most (records_of (policy_in s) (start_of g.asked) run_of), records_of-length (policy_in s) (start_of g.asked) run_of, traced.size, traced.few)

      pub lines-length : (k : ℕ) → k ≡ length (step_lines (records_of (policy_in s) (start_of g.asked) run_of)) → 13 + k ≡ length (lines_after n)
      lines-length k e = omega (arith, summary-length 1 (w.count - 1) n, length-append (summary 1 (w.count - 1) n) (step_lines (records_of (policy_in s) (start_of g.asked) run_of)))

      pub lines_right : Lines (policy_in s) g.asked (lines_after n)
      lines_right = rw traced.size (reached run_of (w.count - 1) (g.met m).shown)

      module _ (before : List ℕ) (fits : length (lines_after n) ≤ length before) where
        unfoldable pub writable_of : Writable s t area (take n out) (length (take n out)) z
        writable_of = record {
          question = question_of g.asked;
          ready = g.ready;
          begin = g.asked.start;
          real = start_of g.asked;
          from = abstract (policy_in s) (start_of g.asked);
          acts = run_of;
          traced = traced_front traced;
          front = summary 1 (w.count - 1) n;
          before = before;
          fits = fits;
        }

        -- Nothing of it is written yet but the first line.
        pub wrote_none : (at : ℕ) (room : List ℕ) → PutAs (summary 1 (w.count - 1) n) 0 before at room → Wrote writable_of 0 (record { at = at; from = queued area 0; process = start }) room
        unfolding writable_of state_after real_after
        wrote_none at room p =
            let some : 0 < length (g.met m).found = omega (arith, (g.met m).some, (g.met m).recorded.count) in
            record {
              from = (g.met m).recorded.states 0 some ∙ ap (state_number (policy_in s)) (g.met m).linked.starts;
              real = g.starts;
              going = record {
                sizes = g.ready.sizes;
                tabled = g.ready.tabled;
                inside = start_inside g.ready g.asked.uid g.asked.gid g.asked.start;
                stands = ap (abstract (policy_in s)) g.starts;
              };
              putting = putting_starts (summary 1 (w.count - 1) n) (records_of (policy_in s) (start_of g.asked) run_of) before p;
            }

-- ---- the search for an ask

pub ready_of : {s t : List ℕ} {z : Sizes} (a : Asked) → Held s → Tabled (policy_in s) (question_of a) t → z ≡ sizes_of (policy_in s) → Ready (question_of a) s t z
ready_of a h t e = record { held = h; tabled = t; sizes = e }

pub clear_of : {P : Policy} {area : List ℕ} → Blank P area → {z : Sizes} → z ≡ sizes_of P → Cleared (all_states z) area
clear_of {P} {area} b {z} e =
    let long : 3 * all_states z ≤ length area = rw e b.long in
    rw b.zero (zeros-cleared long)

module _ {s t : List ℕ} {z : Sizes} (a : Asked) (r : Ready (question_of a) s t z) (from : ℕ) (number : from ≡ state_number (policy_in s) (abstract (policy_in s) (start_of a))) where
  pub inside : Inside (policy_in s) (abstract (policy_in s) (start_of a))
  inside = start_inside r a.uid a.gid a.start

  pub start_state : from < all_states z
  unfolding state_number
  start_state = rw (number, r.sizes) (number_of_lt (places_among (policy_in s) (abstract (policy_in s) (start_of a)) inside))

  module _ {area after : List ℕ} (clear : Cleared (all_states z) area) (w : Progress) (e : walk_of after w ≡ search (goal_at t z) (candidates s t z) from area) where
    -- In an area that was zero, the states' numbers alone are set.
    pub rest : area ≡ zeros (length area) → Rest (all_states z) after
    rest blank =
        let is : after ≡ (search (goal_at t z) (candidates s t z) from (zeros (length area))).area = ap (λ (x : Walk). x.area) e ∙ ap (λ (l : List ℕ). (search (goal_at t z) (candidates s t z) from l).area) blank in
        rw is (search_rest (ready_sized r) s t (goal_at t z) from start_state (length area) clear.long)

    pub kept : Kept z (walk_of after w)
    kept = rw e (search_kept (ready_sized r) s t (goal_at t z) from area start_state clear)

    -- The same with the policy's sizes and the start's number.
    pub found : walk_of after w ≡ search (goal_at t (sizes_of (policy_in s))) (candidates s t (sizes_of (policy_in s))) (state_number (policy_in s) (abstract (policy_in s) (start_of a))) area
    found =
        e ∙ ap (λ (y : Sizes). search (goal_at t y) (candidates s t y) from area) r.sizes
        ∙ ap (λ (n : ℕ). search (goal_at t (sizes_of (policy_in s))) (candidates s t (sizes_of (policy_in s))) n area) number

    pub cleared : Cleared (all_states (sizes_of (policy_in s))) area
    cleared = subst (λ (y : Sizes). Cleared (all_states y) area) r.sizes clear

    unfoldable pub ended_of : (start : Process) → start ≡ started a.uid a.gid → Ended s t after z w start
    ended_of start b = record {
      asked = a;
      ready = r;
      starts = ap (state_of (policy_in s) a.start) b ∙ started_is (policy_in s) a.start a.uid a.gid;
      few = kept_count z kept;
      never = λ m.
          let all = search-never (policy_in s) _ s (question_of a) t r.held r.tabled (abstract (policy_in s) (start_of a)) inside area cleared (ap (λ (x : Walk). x.met) (sym found) ∙ m) in
          rw (ap (λ (x : Walk). x.count) found) all;
      met = λ m. rw found (search_met (policy_in s) _ s (question_of a) t r.held r.tabled (abstract (policy_in s) (start_of a)) inside area cleared (ap (λ (x : Walk). x.met) (sym found) ∙ m));
    }
