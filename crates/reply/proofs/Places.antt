-- The places back from the end of a search, as they are traced, are those of the run that is shown.
-- Assumes nothing.
use mathlib.Core.Path.{◌≡◌, refl, sym, ap, ◌∙◌}
use mathlib.Core.Bool.{Bool, true, false, cond}
use mathlib.Core.List.{List, [], ◌∷◌, reverse}
use Prim.Native.Nat.{ℕ, zero, suc, ◌+◌, ◌-◌, ◌≤◌, ◌<◌}
use native.Mathlib.Omega.{arith}
use lib.Dec.{eqb}
use lib.ListN.{length, get_or, take, drop, length-append, get_or-append}
use lib.Seq.{take-append-le, take_at, get_or_at, length-take-le, get_or-take}
use Rattle.std.proofs.lemmas.List.{get_or-reverse, length-reverse}
use Rattle.gran.specs.Lists.{none}
use Rattle.gran.specs.Policy.{Policy}
use Rattle.gran.specs.Abstract.{Act, set_special, next, last}
use Rattle.gran.specs.Reach.{Question}
use Rattle.gran.specs.declared.State.{State}
use Rattle.tables.proofs.Front.{get_d_any}
use Rattle.runs.proofs.Trails.{last_append}
use Rattle.runs.specs.Search.{Queued, state_at, parent_at, act_at}
use Rattle.numbered.specs.Number.{state_number}
use Rattle.walk.specs.Walk.{Walk, queued, mark, labelled, trail, Written}
use Rattle.walk.specs.Found.{Linking, Chain, acts_along, Met}
use Rattle.reply.specs.Run.{act_of, state_after, Marked, Traced}

trail_few : (area : List ℕ) (fuel k : ℕ) → length (trail area fuel k) ≤ fuel
unfolding trail
trail_few area zero k = omega arith
trail_few area (suc fuel) k = go (eqb k 0) (trail_few area fuel (mark area (queued area k) - 1))
  where
    go : (b : Bool) → length (trail area fuel (mark area (queued area k) - 1)) ≤ fuel → length (cond b [] (k ∷ trail area fuel (mark area (queued area k) - 1))) ≤ suc fuel
    go true h = omega arith
    go false h = omega arith

along-length : (found : List Queued) (ks : List ℕ) → length (acts_along found ks) ≡ length ks
along-length found [] = refl
along-length found (k ∷ ks) = length-append (acts_along found ks) (act_at found k ∷ []) ∙ omega (arith, along-length found ks)

module _ {P : Policy} {q : Question} {α : State} {w : Walk} (m : Met P q α w) where
  along-last : (k : ℕ) (ks : List ℕ) → Chain m.found k ks → last α (acts_along m.found ks) ≡ state_at m.found k
  along-last k [] z = rw z (sym m.linked.starts)
  along-last k (j ∷ js) (e, pos, h, c) =
      last_append α (acts_along m.found js) (act_at m.found j ∷ [])
      ∙ ap (λ (β : State). next β (act_at m.found j)) (along-last (parent_at m.found j) js c)
      ∙ (m.linked.steps j pos h).leads ∙ ap (state_at m.found) (sym e)

  -- The place of the last step.
  marked-last : (j : ℕ) → 0 < j → j < length m.found → Marked P w.area (state_at m.found (parent_at m.found j)) (act_at m.found j) j
  marked-last j pos h =
      let l : Linking P m.found j = m.linked.steps j pos h in
      let up : j ≤ w.count - 1 = omega (arith, m.recorded.count) in
      let state : queued w.area j ≡ state_number P (state_at m.found j) = m.recorded.states j h in
      record {
        place = omega (arith, m.rooted.within, m.rooted.few);
        within = omega (arith, m.rooted.within, m.rooted.long);
        may = l.may;
        small = omega (arith, m.rooted.small j up, m.rooted.few);
        room = omega (arith, m.rooted.small j up, m.rooted.long);
        state = state ∙ ap (state_number P) (sym l.leads);
        label = ap (labelled w.area) state ∙ m.recorded.labels j pos h;
      }

  -- The place of step k.
  marked_along : (p : ℕ) (ks : List ℕ) → Chain m.found p ks → (k i : ℕ) → suc (k + i) ≡ length ks
      → Marked P w.area (state_after α (acts_along m.found ks) k) (act_of (acts_along m.found ks) k) (get_or ks i 0)
  unfolding state_after act_of
  marked_along p [] c k i h = absurd (omega arith)
  marked_along p (j ∷ js) (e, pos, b, c) k zero h =
      let size : length (acts_along m.found js) ≡ k = omega (arith, along-length m.found js) in
      rw (
        take_at (acts_along m.found js) (act_at m.found j ∷ []) k size,
        get_or_at (acts_along m.found js) (act_at m.found j) [] (set_special none) k size,
        along-last (parent_at m.found j) js c,
      ) (marked-last j pos b)
  marked_along p (j ∷ js) (e, pos, b, c) k (suc i) h =
      let inside : k < length (acts_along m.found js) = omega (arith, along-length m.found js) in
      rw (
        take-append-le k (acts_along m.found js) (act_at m.found j ∷ []) (omega arith),
        get_or-append (acts_along m.found js) (act_at m.found j ∷ []) (set_special none) k inside,
      ) (marked_along (parent_at m.found j) js c k i (omega arith))

  -- The acts that are shown.
  abbrev pub shown_acts : List Act
  shown_acts = acts_along m.found (trail w.area 8192 (w.count - 1))

  pub traced_of : (was out : List ℕ) (n : ℕ) → Written (trail w.area 8192 (w.count - 1)) was out n → Traced P α shown_acts w.area out n
  traced_of was out n x =
      let ks : List ℕ = trail w.area 8192 (w.count - 1) in
      let long : length out ≡ length ks + length (drop n was) = ap length x.kept ∙ length-append ks (drop n was) in
      record {
        size = x.size ∙ sym (along-length m.found ks);
        few = omega (arith, x.size, trail_few w.area 8192 (w.count - 1));
        within = omega (arith, x.size, long);
        marked = λ k i h.
            let inside : suc (k + i) ≡ length ks = omega (arith, x.size) in
            let at : get_or out i 0 ≡ get_or ks i 0 = rw x.kept (get_or-append ks (drop n was) 0 i (omega arith)) in
            rw at (marked_along (w.count - 1) ks m.chain k i inside);
      }

-- ---- such places from the last on, which are the steps from the first on

pub turned : (places : List ℕ) (k p : ℕ) → (k < length (reverse places)) × (p ≡ get_or (reverse places) k p) → (k < length places) × (p ≡ get_or places (length places - 1 - k) 0)
turned places k p (h, e) =
    let inside : k < length places = omega (arith, length-reverse places) in
    (inside, e ∙ get_or-reverse places k p inside ∙ get_d_any places (length places - 1 - k) p 0 (omega arith))

-- The first n places of a longer list.
pub traced_front : {P : Policy} {α : State} {acts : List Act} {area out : List ℕ} {n : ℕ} → Traced P α acts area out n → Traced P α acts area (take n out) (length (take n out))
traced_front {P} {α} {acts} {area} {out} {n} x =
    let long : length (take n out) ≡ n = length-take-le n out x.within in
    rw long (record {
      size = x.size;
      few = x.few;
      within = omega (arith, long);
      marked = λ k i h. rw (get_or-take n out i 0 (omega (arith, h))) (x.marked k i h);
    })
