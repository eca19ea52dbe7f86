-- Abstract runs in order, first runs, the run that is shown and the states opened (document 01, "Which steps", "States opened").
-- Assumes nothing.
use Rattle.std.specs.Prelude.{◌≡◌, ◌⊎◌, cond, ℕ, suc, ◌<◌, eqb, length}
use Rattle.std.proofs.Math.Bool.{So}
use mathlib.Core.List.{List, [], ◌∷◌, Memᴰ}
use Rattle.gran.specs.Lists.{none, place, Distinct}
use Rattle.gran.specs.Policy.{Policy}
use Rattle.gran.specs.Match.{objects_of}
use Rattle.gran.specs.Abstract.{Act, set_special, set_user, set_group, exec, entry, next, run, last}
use Rattle.gran.specs.Reach.{Question, Granted}
use Rattle.gran.specs.declared.State.{State}

-- ---- the order

-- None before roles by number.
unfoldable pub rank : ℕ → ℕ
rank r = cond (eqb r none) 0 (suc r)

-- Kept, none, roles by number: a choice with the same role as the kept one is the kept one.
unfoldable pub kept_rank : ℕ → ℕ → ℕ
kept_rank kept r = cond (eqb r kept) 0 (suc (rank r))

-- What a step of α is compared by: 81, 82, 83, 84, and then its choices;
-- for 84 the object's place in its entry, then user, then group, then new subject by path number.
unfoldable pub key : Policy → State → Act → List ℕ
key P α (set_special s) = 0x81 ∷ rank s ∷ []
key P α (set_user r) = 0x82 ∷ rank r ∷ []
key P α (set_group r) = 0x83 ∷ rank r ∷ []
key P α (exec o u g s) =
    0x84 ∷ place (eqb o) 0 (objects_of (entry P α)) ∷ kept_rank α.user u ∷ kept_rank α.group g ∷ s ∷ []

-- The keys of a run's steps, from the first on.
abbrev pub keys : Policy → State → List Act → List (List ℕ)
keys P α [] = []
keys P α (a ∷ rest) = key P α a ∷ keys P (next α a) rest

-- Of two lists the first has the lesser element where they first differ.
abbrev pub Lesser : {L : Type 0} → (L → L → Type 0) → List L → List L → Type 0
Lesser Less xs [] = ⊥
Lesser Less [] (y ∷ ys) = ⊥
Lesser Less (x ∷ xs) (y ∷ ys) = Less x y ⊎ ((x ≡ y) × Lesser Less xs ys)

-- The shorter list first; of two as long, by the first element that differs.
abbrev pub Earlier : {L : Type 0} → (L → L → Type 0) → List L → List L → Type 0
Earlier Less xs ys = (length xs < length ys) ⊎ ((length xs ≡ length ys) × Lesser Less xs ys)

-- One step comes before another by its key.
abbrev pub Sooner : List ℕ → List ℕ → Type 0
Sooner = Lesser ◌<◌

-- The run xs comes before the run ys: shorter first, then step by step.
abbrev pub Before : Policy → State → List Act → List Act → Type 0
Before P α xs ys = Earlier Sooner (keys P α xs) (keys P α ys)

-- ---- first runs

-- A run from α to β.
pub record Leads (P : Policy) (α β : State) (acts : List Act) : Type 0 where
  pub runs : So (run P α acts)
  pub ends : last α acts ≡ β

-- xs is the first of the runs from α that have a property.
pub record First (P : Policy) (α : State) (Q : List Act → Type 0) (xs : List Act) : Type 0 where
  pub has : Q xs
  pub least : (ys : List Act) → Q ys → (xs ≡ ys) ⊎ Before P α xs ys

-- Some run from α leads to β.
abbrev pub Opens : Policy → State → State → Type 0
Opens P α β = (xs : List Act) × Leads P α β xs

-- The first run to β comes before the run zs.
abbrev pub OpensBefore : Policy → State → List Act → State → Type 0
OpensBefore P α zs β = (xs : List Act) × First P α (Leads P α β) xs × Before P α xs zs

-- n states have the property: they can be listed, each once.
pub record Counts (Q : State → Type 0) (n : ℕ) : Type 0 where
  pub members : List State
  pub distinct : Distinct members
  pub sound : (β : State) → Memᴰ β members → Q β
  pub whole : (β : State) → Q β → Memᴰ β members
  pub size : length members ≡ n

-- ---- what is answered

-- Reached: zs is the first run to the access, and `opened` states have their first run before it.
pub record Shown (P : Policy) (q : Question) (α : State) (zs : List Act) (opened : ℕ) : Type 0 where
  pub first : First P α (Granted P q α) zs
  pub counts : Counts (OpensBefore P α zs) opened

-- Never: no run has the access, and `opened` states are reached, the start included.
pub record Unreached (P : Policy) (q : Question) (α : State) (opened : ℕ) : Type 0 where
  pub never : (acts : List Act) → Granted P q α acts → ⊥
  pub counts : Counts (Opens P α) opened
