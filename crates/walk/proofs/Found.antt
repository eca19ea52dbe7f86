-- The end of a search says which answer holds, in the model's terms.
-- Assumes nothing.
use mathlib.Core.Path.{◌≡◌, refl, sym, ap, ◌∙◌}
use mathlib.Core.Logic.{◌⊎◌, inl, inr}
use mathlib.Core.Bool.{Bool, true, false, So, false≢true}
use mathlib.Core.List.{List, [], ◌∷◌, ◌++◌, map, append_assoc, append-nil}
use Prim.Native.Nat.{ℕ, zero, suc, ◌+◌, ◌-◌, ◌≤◌, ◌<◌}
use native.Mathlib.Omega.{arith}
use native.Mathlib.Decide.{ℕ_discrete, dec_lt}
use native.Mathlib.Numerals.{add-one}
use lib.ListN.{length, length-append}
use borrow.Author.Tests.{eq-eqb, ne_eqb}
use Rattle.gran.specs.Policy.{Policy}
use Rattle.gran.specs.Abstract.{Act, may, next, access}
use Rattle.gran.specs.Reach.{Question}
use Rattle.gran.specs.Run.{Unreached}
use Rattle.gran.specs.declared.State.{State}
use Rattle.store.specs.Held.{Loaded}
use Rattle.tables.specs.Tables.{Tabled}
use Rattle.runs.specs.Steps.{steps}
use Rattle.runs.specs.Trail.{IsStep, to}
use Rattle.runs.specs.Search.{Queued, first, state_at, parent_at, act_at, trail_at, acts_to, Child, Searched}
use Rattle.gran.proofs.Lists.{length_more}
use Rattle.runs.proofs.Trails.{step_at-may}
use Rattle.runs.proofs.Search.{state_old, state_new, each-place, begin, seen, fresh, turn, split_step}
use Rattle.runs.proofs.Answer.{acts_to-start, acts_to-step, never_answer, shown_answer}
use Rattle.numbered.specs.Number.{all_states, Inside, sizes_of, state_number}
use Rattle.numbered.specs.Candidates.{Step, label_of, step_of, goal_at, candidates}
use Rattle.numbered.proofs.Radix.{number_of_lt}
use Rattle.numbered.proofs.Members.{sized}
use Rattle.numbered.proofs.Numbers.{places_among, number_injective, number_lt, next_inside}
use Rattle.numbered.proofs.Force.{goal_is}
use Rattle.numbered.proofs.Steps.{candidates_are}
use Rattle.walk.specs.Walk.{Walk, queued, mark, Cleared, empty, enter, visit, visits, sweep, search, trail}
use Rattle.walk.specs.Found.{Recorded, Linking, Chain, acts_along, Met}
use Rattle.walk.proofs.Walks.{visit_new, visit_old, visits_met, sweep_met, sweep_more, sweep-done}
use Rattle.walk.proofs.Keeping.{kept_count, kept_most}
use Rattle.walk.proofs.Recording.{Known, Stored, stored-none, other, enter_stored}

-- ---- one step

step-may : (P : Policy) (β : State) (i : ℕ) (a : Act) → IsStep P β i a → So (may P β a)
step-may P β i a step = rw (← step.is) (step_at-may P β i step.within)

-- A state's number stands for a state.
number_state : (P : Policy) (β : State) → Inside P β → state_number P β < all_states (sizes_of P)
unfolding state_number
number_state P β inside = number_of_lt (places_among P β inside)

-- ---- places along the parents

module _ {P : Policy} {α : State} {found : List Queued} {p i : ℕ} (g : Searched P α found p i) where
  -- Each place but the start's comes from an earlier one, by an act that may be done there.
  linking : (k : ℕ) → 0 < k → k < length found → Linking P found k
  unfolding to
  linking k pos h =
      let c : Child P found k = g.children k pos h in
      let up : parent_at found k < length found = omega (arith, c.earlier) in
      let fits = (rw c.trail at (g.arrives k h)) in
      record {
        earlier = c.earlier;
        may = step-may P (state_at found (parent_at found k)) c.step (act_at found k) (record { within = rw (← (g.arrives (parent_at found k) up).1) fits.0.1; is = c.act });
        leads = rw (← c.act, ← (g.arrives (parent_at found k) up).1) fits.1;
      }

  -- The acts to a place are those along the places that lead to it.
  acts-along : (k : ℕ) (ks : List ℕ) → Chain found k ks → acts_to found k ≡ acts_along found ks
  acts-along k [] z = rw z (acts_to-start found)
  acts-along k (j ∷ js) (e, pos, h, c) = rw e (acts_to-step g j pos h ∙ ap (λ (l : List Act). l ++ act_at found j ∷ []) (acts-along (parent_at found j) js c))

  -- The marks lead along the parents.
  trail_chain : (w : Walk) → Recorded P w found → (fuel k : ℕ) → k < fuel → k < length found → Chain found k (trail w.area fuel k)
  unfolding trail
  trail_chain w rec zero k lt h = absurd (omega arith)
  trail_chain w rec (suc fuel) k lt h = go (ℕ_discrete k 0) (λ j l b. trail_chain w rec fuel j l b)
    where
      go : Dec (k ≡ 0) → ((j : ℕ) → j < fuel → j < length found → Chain found j (trail w.area fuel j)) → Chain found k (trail w.area (suc fuel) k)
      go (yes z) back = rw (eq-eqb k 0 z) z
      go (no nz) back =
          let up : parent_at found k < k = (g.children k (omega arith) h).earlier in
          let from : mark w.area (state_number P (state_at found k)) - 1 ≡ parent_at found k = omega (arith, rec.parents k h) in
          rw (ne_eqb k 0 nz, rec.states k h, from) (refl, omega arith, h, back (parent_at found k) (omega arith) (omega arith))

-- ---- the search

module _ (P : Policy) (rest s : List ℕ) (q : Question) (t : List ℕ) (loaded : Loaded P rest s) (tabled : Tabled P q t) (α : State) (start : Inside P α) where
  abbrev goal : ℕ → Bool
  goal = goal_at t (sizes_of P)

  abbrev from : ℕ → List Step
  from = candidates s t (sizes_of P)

  granted : State → Bool
  granted β = access P q.kind q.target β

  few : all_states (sizes_of P) ≤ 8192
  few = (sized P loaded.good).few

  -- The memory records what the search has found, and of that only the last can have the access.
  record Stands (w : Walk) (found : List Queued) (p i : ℕ) : Type 0 where
    searched : Searched P α found p i
    stored : Stored P w found
    inside : (k : ℕ) → k < length found → Inside P (state_at found k)
    others : (k : ℕ) → suc k < length found → granted (state_at found k) ≡ false
    last : (k : ℕ) → suc k ≡ length found → granted (state_at found k) ≡ w.met

  -- At step i of place p, whose state is β, with no access met.
  record At (w : Walk) (p : ℕ) (β : State) (i : ℕ) : Type 0 where
    found : List Queued
    stands : Stands w found p i
    here : p < length found
    at : state_at found p ≡ β
    unmet : w.met ≡ false

  -- The access was met.
  record Over (w : Walk) : Type 0 where
    found : List Queued
    place : ℕ
    step : ℕ
    stands : Stands w found place step
    here : place < length found
    met : w.met ≡ true

  -- Before place p, with no access met.
  record Between (w : Walk) (p : ℕ) : Type 0 where
    found : List Queued
    stands : Stands w found p 0
    within : p ≤ length found
    unmet : w.met ≡ false

  refused : (w : Walk) (found : List Queued) (p i : ℕ) → Stands w found p i → w.met ≡ false → (k : ℕ) → k < length found → granted (state_at found k) ≡ false
  refused w found p i s unmet k h = elim (ℕ_discrete (suc k) (length found)) [ yes e ↦ s.last k e ∙ unmet | no ne ↦ s.others k (omega arith) ]

  -- One step: its state is new, or was found before.
  module _ (w : Walk) (p : ℕ) (β : State) (i : ℕ) (g : At w p β i) (a : Act) (step : IsStep P β i a) where
    visit_at : At (visit goal p (label_of P β a) (state_number P (next β a)) w) p β (suc i) ⊎ Over (visit goal p (label_of P β a) (state_number P (next β a)) w)
    unfolding granted few
    visit_at = go (ℕ_discrete (mark w.area n₁) 0)
      where
        c : ℕ
        c = label_of P β a

        β₁ : State
        β₁ = next β a

        n₁ : ℕ
        n₁ = state_number P (next β a)

        found : List Queued
        found = g.found

        st : Stands w found p i
        st = g.stands

        step₁ : IsStep P (state_at found p) i a
        step₁ = rw g.at step

        inside-β : Inside P β
        inside-β = rw (← g.at) (st.inside p g.here)

        inside₁ : Inside P β₁
        inside₁ = next_inside P loaded.good β inside-β a (step-may P β i a step)

        e : Queued
        e = record { state = β₁; parent = p; act = a; trail = i ∷ trail_at found p }

        leads : next (state_at found p) a ≡ β₁
        leads = ap (λ (u : State). next u a) g.at

        entered : mark w.area n₁ ≡ 0 → Stands (enter goal p c n₁ w) (found ++ e ∷ []) p (suc i)
        entered m = record {
          searched = fresh P α found p i st.searched g.here a step₁ β₁ leads
              (λ k h eq. other P few goal w found st.stored e c (number_state P β₁ inside₁) m k h (ap (state_number P) eq));
          stored = enter_stored P few goal w found st.stored e c (number_state P β₁ inside₁) m
              (λ k pos h. (st.searched.children k pos h).earlier)
              (λ pos. (g.here, ap (λ (u : State). label_of P u a) (sym g.at)));
          inside = each-place found e (λ k. Inside P (state_at (found ++ e ∷ []) k)) (λ k h. rw (state_old found e k h) (st.inside k h)) (rw (state_new found e) inside₁);
          others = λ k lt. let h : k < length found = omega (arith, length_more found e) in
              rw (state_old found e k h) (refused w found p i st g.unmet k h);
          last = λ k eq. let h : k ≡ length found = omega (arith, length_more found e) in
              rw (h, state_new found e) (sym (goal_is P q t loaded.good tabled β₁ inside₁));
        }

        here₁ : p < length (found ++ e ∷ [])
        here₁ = omega (arith, length_more found e, g.here)

        known : (mark w.area n₁ ≡ 0 → ⊥) → (mark w.area n₁ ≡ 0) ⊎ Known P found n₁ → Searched P α found p (suc i)
        known ne (inl m) = absurd (ne m)
        known ne (inr (k, h, eq)) = seen P α found p i st.searched g.here a step₁ k h
            (number_injective P (state_at found k) β₁ (st.inside k h) inside₁ eq ∙ sym leads)

        new : (m : mark w.area n₁ ≡ 0) (b : Bool) → goal n₁ ≡ b → At (enter goal p c n₁ w) p β (suc i) ⊎ Over (enter goal p c n₁ w)
        new m true eb = inr (record { found = found ++ e ∷ []; place = p; step = suc i; stands = entered m; here = here₁; met = eb })
        new m false eb = inl (record { found = found ++ e ∷ []; stands = entered m; here = here₁; at = state_old found e p g.here ∙ g.at; unmet = eb })

        go : Dec (mark w.area n₁ ≡ 0) → At (visit goal p c n₁ w) p β (suc i) ⊎ Over (visit goal p c n₁ w)
        go (yes m) = rw (visit_new goal p c n₁ w g.unmet m) (new m (goal n₁) refl)
        go (no ne) = rw (visit_old goal p c n₁ w g.unmet ne) (inl (record {
          found = found;
          stands = record {
            searched = known ne (st.stored.seen n₁ (number_lt P loaded.good β₁ inside₁));
            stored = st.stored;
            inside = st.inside;
            others = st.others;
            last = st.last;
          };
          here = g.here;
          at = g.at;
          unmet = g.unmet;
        }))

  -- The rest of the steps of β, after those that were done.
  visits_at : (p : ℕ) (β : State) (done acts : List Act) → steps P β ≡ done ++ acts → (w : Walk) → At w p β (length done)
      → At (visits goal p (map (step_of P β) acts) w) p β (length (steps P β)) ⊎ Over (visits goal p (map (step_of P β) acts) w)
  unfolding visits step_of
  visits_at p β done [] split w g = inl (rw (split, append-nil) g)
  visits_at p β done (a ∷ acts) split w g = on (λ g₁. visits_at p β (done ++ a ∷ []) acts split₁ w₁ g₁) (visit_at w p β (length done) g a (split_step P β done a acts split))
    where
      w₁ : Walk
      w₁ = visit goal p (label_of P β a) (state_number P (next β a)) w

      split₁ : steps P β ≡ (done ++ a ∷ []) ++ acts
      split₁ = split ∙ sym (append_assoc done (a ∷ []) acts)

      more : length (done ++ a ∷ []) ≡ suc (length done)
      more = length-append done (a ∷ []) ∙ omega arith

      End : Type 0
      End = At (visits goal p (map (step_of P β) acts) w₁) p β (length (steps P β)) ⊎ Over (visits goal p (map (step_of P β) acts) w₁)

      on : (At w₁ p β (length (done ++ a ∷ [])) → End) → At w₁ p β (suc (length done)) ⊎ Over w₁ → End
      on more-steps (inl g₁) = more-steps (rw more g₁)
      on more-steps (inr o) = inr (rw (visits_met goal p (map (step_of P β) acts) w₁ o.met) o)

  -- All steps of place p were tried.
  between : (w : Walk) (p : ℕ) (β : State) → At w p β (length (steps P β)) → Between w (p + 1)
  between w p β g = rw add-one (record {
    found = g.found;
    stands = record {
      searched = turn P α g.found p (length (steps P β)) g.stands.searched g.here (ap (λ (u : State). length (steps P u)) (sym g.at));
      stored = g.stands.stored;
      inside = g.stands.inside;
      others = g.stands.others;
      last = g.stands.last;
    };
    within = g.here;
    unmet = g.unmet;
  })

  -- The search ends: the access was met, or every place of the queue passed.
  Ends : Walk → Type 0
  Ends w = Over w ⊎ Between w w.count

  sweep_ends : (fuel p : ℕ) (w : Walk) → fuel + p ≡ 8192 → Between w p → Ends (sweep goal from fuel p w)
  unfolding Ends sweep
  sweep_ends zero p w e b =
      let c : p ≡ w.count = omega (arith, kept_count (sizes_of P) b.stands.stored.kept, b.within, b.stands.stored.recorded.count) in
      inr (rw c at b)
  sweep_ends (suc fuel) p w e b = go (dec_lt p w.count) (λ v. sweep_ends fuel (p + 1) v (omega arith))
    where
      β : State
      β = state_at b.found p

      v : Walk
      v = visits goal p (map (step_of P β) (steps P β)) w

      on : ((v : Walk) → Between v (p + 1) → Ends (sweep goal from fuel (p + 1) v)) → At v p β (length (steps P β)) ⊎ Over v → Ends (sweep goal from fuel (p + 1) v)
      on further (inl g) = further v (between v p β g)
      on further (inr o) = inl (rw (sweep_met goal from fuel (p + 1) v o.met) o)

      go : Dec (p < w.count) → ((v : Walk) → Between v (p + 1) → Ends (sweep goal from fuel (p + 1) v)) → Ends (sweep goal from (suc fuel) p w)
      go (yes lt) further =
          let st : Stands w b.found p 0 = b.stands in
          let here : p < length b.found = omega (arith, st.stored.recorded.count) in
          let all : from (queued w.area p) ≡ map (step_of P β) (steps P β) = ap from (st.stored.recorded.states p here) ∙ candidates_are P rest s q t loaded tabled β (st.inside p here) in
          rw (sweep_more goal from fuel p w b.unmet lt, all)
          (on further (visits_at p β [] (steps P β) refl w (record { found = b.found; stands = st; here = here; at = refl; unmet = b.unmet })))
      go (no ge) further =
          let c : p ≡ w.count = omega (arith, b.within, b.stands.stored.recorded.count) in
          rw (sweep-done goal from (suc fuel) p w (omega arith)) (inr (rw c at b))

  module _ (area : List ℕ) (clear : Cleared (all_states (sizes_of P)) area) where
    -- A cleared work area, with the start found.
    begun : Between (visit goal 0 0 (state_number P α) (empty area)) 0 ⊎ Over (visit goal 0 0 (state_number P α) (empty area))
    unfolding granted few state_at
    begun = rw (visit_new goal 0 0 (state_number P α) (empty area) refl unmarked) (go (goal (state_number P α)) refl)
      where
        unmarked : mark area (state_number P α) ≡ 0
        unmarked = clear.unmarked (state_number P α) (number_lt P loaded.good α start)

        w : Walk
        w = enter goal 0 0 (state_number P α) (empty area)

        stands : Stands w (first α ∷ []) 0 0
        stands = record {
          searched = begin P α;
          stored = enter_stored P few goal (empty area) [] (stored-none P area clear) (first α) 0 (number_state P α start) unmarked
              (λ k pos h. absurd (omega arith)) (λ pos. absurd (omega arith));
          inside = each-place [] (first α) (λ k. Inside P (state_at (first α ∷ []) k)) (λ k h. absurd (omega arith)) (rw (state_new [] (first α)) start);
          others = λ k h. absurd (omega arith);
          last = λ k h. let z : k ≡ 0 = omega arith in rw (z, state_new [] (first α)) (sym (goal_is P q t loaded.good tabled α start));
        }

        go : (b : Bool) → goal (state_number P α) ≡ b → Between w 0 ⊎ Over w
        go true eb = inr (record { found = first α ∷ []; place = 0; step = 0; stands = stands; here = omega arith; met = eb })
        go false eb = inl (record { found = first α ∷ []; stands = stands; within = omega arith; unmet = eb })

    search_ends : Ends (search goal from (state_number P α) area)
    unfolding search Ends
    search_ends = go begun
      where
        w : Walk
        w = visit goal 0 0 (state_number P α) (empty area)

        go : Between w 0 ⊎ Over w → Ends (sweep goal from 8192 0 w)
        go (inl b) = sweep_ends 8192 0 w refl b
        go (inr o) = inl (rw (sweep_met goal from 8192 0 w o.met) o)

  -- ---- the two answers

  never_of : (w : Walk) → Between w w.count → Unreached P q α w.count
  unfolding granted
  never_of w b =
      let n : w.count ≡ length b.found = b.stands.stored.recorded.count in
      rw n (never_answer P loaded.good q α b.found (rw n at b.stands.searched) (refused w b.found w.count 0 b.stands b.unmet))

  met_of : (w : Walk) → Over w → Met P q α w
  unfolding granted
  met_of w o = record {
    found = found;
    some = omega (arith, rec.count, g.some);
    recorded = rec;
    linked = record { starts = g.starts.0; inside = st.inside; steps = linking g };
    rooted = record {
      all = all_states (sizes_of P);
      few = few;
      long = st.stored.kept.long;
      within = omega (arith, rec.count, g.some, size);
      small = λ j h. st.stored.kept.states j (omega (arith, rec.count, g.some));
      earlier = λ j pos h. let lt : j < length found = omega (arith, rec.count, g.some) in
          let m : mark w.area (queued w.area j) ≡ suc (parent_at found j) = ap (mark w.area) (rec.states j lt) ∙ rec.parents j lt in
          let up : parent_at found j < j = (g.children j pos lt).earlier in
          omega arith;
    };
    chain = chain;
    shown = rw (← (acts-along g last (trail w.area 8192 last) chain)) (shown_answer P loaded.good q α found o.place o.step g o.here last ends (st.last last ends ∙ o.met)
        (λ k h. st.others k (omega (arith, rec.count, g.some))));
  }
    where
      found : List Queued
      found = o.found

      st : Stands w found o.place o.step
      st = o.stands

      g : Searched P α found o.place o.step
      g = st.searched

      rec : Recorded P w found
      rec = st.stored.recorded

      size : w.count ≤ all_states (sizes_of P)
      size = kept_most (sizes_of P) few st.stored.kept

      last : ℕ
      last = w.count - 1

      ends : suc last ≡ length found
      ends = omega (arith, rec.count, g.some)

      chain : Chain found last (trail w.area 8192 last)
      chain = trail_chain g w rec 8192 last (omega (arith, rec.count, g.some, size, few)) (omega (arith, rec.count, g.some))

  module _ (area : List ℕ) (clear : Cleared (all_states (sizes_of P)) area) where
    -- No access was met: there is none, and the queue has all states that are reached.
    pub search-never : (search (goal_at t (sizes_of P)) (candidates s t (sizes_of P)) (state_number P α) area).met ≡ false
        → Unreached P q α (search (goal_at t (sizes_of P)) (candidates s t (sizes_of P)) (state_number P α) area).count
    unfolding Ends
    search-never unmet = go (search_ends area clear)
      where
        w : Walk
        w = search goal from (state_number P α) area

        go : Over w ⊎ Between w w.count → Unreached P q α w.count
        go (inl o) = absurd (false≢true (sym unmet ∙ o.met))
        go (inr b) = never_of w b

    -- The access was met: the last place is the end of the first run to it.
    pub search_met : (search (goal_at t (sizes_of P)) (candidates s t (sizes_of P)) (state_number P α) area).met ≡ true
        → Met P q α (search (goal_at t (sizes_of P)) (candidates s t (sizes_of P)) (state_number P α) area)
    unfolding Ends
    search_met met = go (search_ends area clear)
      where
        w : Walk
        w = search goal from (state_number P α) area

        go : Over w ⊎ Between w w.count → Met P q α w
        go (inl o) = met_of w o
        go (inr b) = absurd (false≢true (sym b.unmet ∙ met))
