-- How many steps the shown run has, and how many states are opened: no more than there are numbers for the states.
-- Assumes nothing.
use mathlib.Core.Path.{◌≡◌, refl, sym, ap, subst, ◌∙◌}
use mathlib.Core.Bool.{So}
use mathlib.Core.List.Memᴰ
use mathlib.Core.List.{List, [], ◌∷◌, ◌++◌, map, Memᴰ}
use Prim.Native.Nat.{ℕ, suc, ◌≤◌, ◌<◌}
use native.Mathlib.Nat.{zero-add}
use native.Mathlib.Omega.{arith}
use lib.ListN.{length, take, drop, take-append-drop, length-append, length-take, length-drop, length-map}
use Rattle.paths.proofs.Bools.{both, left, right}
use Rattle.gran.specs.Policy.{Policy}
use Rattle.gran.specs.Good.{Good}
use Rattle.gran.specs.Abstract.{Act, may, next, run, last}
use Rattle.gran.specs.Reach.{Question, Granted}
use Rattle.gran.specs.Run.{First, Opens, Counts}
use Rattle.gran.specs.declared.State.{State}
use Rattle.gran.specs.Lists.{numbers}
use Rattle.gran.proofs.Members.{all_of, numbers-has}
use Rattle.gran.proofs.Counting.{distinct_le, numbers-length, few_below}
use Rattle.gran.proofs.Answers.{first_fewest}
use Rattle.runs.proofs.Count.{values, values_length, values_of, values_distinct}
use Rattle.runs.proofs.Trails.{last_append, run_append}
use Rattle.numbered.specs.Number.{Inside, state_number, state_numbered}
use Rattle.numbered.proofs.Numbers.{numbered_number, number_lt, number_injective, next_inside}

-- ---- a run stays among the states that have numbers

run_inside : (P : Policy) → Good P → (β : State) → Inside P β → (acts : List Act) → So (run P β acts) → Inside P (last β acts)
run_inside P good β here [] r = here
run_inside P good β here (x ∷ xs) r = run_inside P good (next β x) (next_inside P good β here x (left (may P β x) _ r)) xs (right (may P β x) _ r)

-- ---- the shown run comes to no state twice

module _ (P : Policy) where
  run-first : (α : State) (xs ys : List Act) → So (run P α (xs ++ ys)) → So (run P α xs)
  run-first α [] ys r = refl
  run-first α (x ∷ xs) ys r = both (left (may P α x) _ r) (run-first (next α x) xs ys (right (may P α x) _ r))

  run_rest : (α : State) (xs ys : List Act) → So (run P α (xs ++ ys)) → So (run P (last α xs) ys)
  run_rest α [] ys r = r
  run_rest α (x ∷ xs) ys r = run_rest (next α x) xs ys (right (may P α x) _ r)

  module _ (α : State) (q : Question) (zs : List Act) (f : First P α (Granted P q α) zs) where
    run-to : (k : ℕ) → So (run P α (take k zs))
    run-to k = run-first α (take k zs) (drop k zs) (rw (take-append-drop k zs) f.has.runs)

    -- what lies between two like states can be left out
    no_state_twice : (j k : ℕ) → j < k → k ≤ length zs → last α (take j zs) ≡ last α (take k zs) → ⊥
    no_state_twice j k l h e =
        let rest : So (run P (last α (take j zs)) (drop k zs)) = rw e (run_rest α (take k zs) (drop k zs) (rw (take-append-drop k zs) f.has.runs)) in
        let ends : last α (take j zs ++ drop k zs) ≡ last α zs
        = last_append α (take j zs) (drop k zs) ∙ rw e (sym (last_append α (take k zs) (drop k zs))) ∙ ap (last α) (take-append-drop k zs) in
        let cut : Granted P q α (take j zs ++ drop k zs)
        = record { runs = run_append P α (take j zs) (drop k zs) (run-to j) rest; granted = rw ends f.has.granted } in
        let fewest : length zs ≤ length (take j zs ++ drop k zs) = first_fewest P α (Granted P q α) zs (take j zs ++ drop k zs) f cut in
        omega (arith, simp (length-append, length-take, length-drop) at fewest)

    module _ (good : Good P) (inside : Inside P α) where
      came : (k : ℕ) → Inside P (last α (take k zs))
      came k = run_inside P good α inside (take k zs) (run-to k)

      pub first_short : length zs < 8192
      first_short =
          let number : ℕ → ℕ = λ k. state_number P (last α (take k zs)) in
          let states = values number (suc (length zs)) in
          let below = all_of (λ (m : ℕ). m < 8192) states (λ m h. let (k, l, e) = values_of number (suc (length zs)) m h in rw (← e) (number_lt P good (last α (take k zs)) (came k))) in
          let apart = values_distinct number (suc (length zs)) (λ j k l h e. no_state_twice j k l (omega arith) (number_injective P (last α (take j zs)) (last α (take k zs)) (came j) (came k) e)) (suc (length zs)) (omega arith) in
          omega (arith, values_length number (suc (length zs)), few_below 8192 states below apart)

-- ---- states that runs come to

-- as many as can be listed, each once
pub counts_few : (P : Policy) → Good P → (α : State) → Inside P α → (Q : State → Type 0) → ((β : State) → Q β → Opens P α β) → (n : ℕ) → Counts Q n → n ≤ 8192
counts_few P good α inside Q opens n c = rw (← c.size) (few 8192 (λ β h. number_lt P good β (here β h)))
  where
    here : (β : State) → Q β → Inside P β
    here β h = let (acts, leads) = opens β h in subst (Inside P) leads.ends (run_inside P good α inside acts leads.runs)

    -- each is the state of its number
    few : (k : ℕ) → ((β : State) → Q β → state_number P β < k) → length c.members ≤ k
    few k below =
        let all : List State = map (state_numbered P) (numbers 0 k) in
        let listed : (β : State) → Memᴰ β c.members → Memᴰ β all
        = λ β m. let h = c.sound β m in subst (λ (γ : State). Memᴰ γ all) (numbered_number P β (here β h)) (Memᴰ.map (state_numbered P) (rw zero-add at (numbers-has 0 k (state_number P β) (below β h)))) in
        omega (arith, distinct_le c.members all c.distinct listed, length-map (numbers 0 k) (state_numbered P), numbers-length 0 k)
