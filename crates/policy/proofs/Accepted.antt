-- An accepted policy is good: every load is sound, and the tests at the end give the rest.
-- Assumes nothing.
use mathlib.Core.Path.{◌≡◌, refl, sym, ap, subst, ◌∙◌}
use mathlib.Core.Logic.{◌⊎◌, inl, inr}
use mathlib.Core.Bool.{Bool, true, false, not, cond, ◌||◌, So, false≢true}
use mathlib.Core.List.{List, [], ◌∷◌, map}
use Prim.Native.Nat.{ℕ, zero, suc, ◌+◌, ◌≤◌, ◌<◌}
use native.Mathlib.Omega.{arith}
use native.Mathlib.Decide.{ℕ_discrete}
use borrow.Author.Tests.{ltb-false, not-false}
use lib.Dec.{eqb, ltb}
use lib.ListN.{length, length-append}
use Rattle.paths.proofs.Bools.{decide, neither}
use Rattle.lines.specs.Line.{lines_of}
use Rattle.gran.specs.Lists.{any, only, sum, numbers, All}
use Rattle.gran.specs.Policy.{Policy, Move, Object, Entry, DEFAULT}
use Rattle.gran.specs.Role.{of_kind}
use Rattle.gran.specs.Good.{Good, GoodMove, GoodObject, GoodEntry, states_of}
use Rattle.store.specs.Layout.{all_objects}
use Rattle.policy.specs.Load.{start, Progress, going, stopped, run, lacks_entry, lacks_object, unrooted, Reading, refused, accepted, finish, reading, LoadedAs}
use Rattle.policy.specs.Sound.{SoundMove, SoundObject, SoundEntry, SoundPolicy}
use Rattle.policy.proofs.More.{all_imply, all_both}
use Rattle.policy.proofs.Loads.{SoundProgress, sound-start, sound-run}

-- ---- the tests at the end

-- Nothing in the list passes.
all_fail : {A : Type 0} (test : A → Bool) (xs : List A) → any test xs ≡ false → All (λ (x : A). test x ≡ false) xs
all_fail test [] e = tt
all_fail test (x ∷ xs) e = let p = neither (test x) _ e in (p.0, all_fail test xs p.1)

-- Nothing that holds of each of the numbers fails at one below their end.
all_below : (Q : ℕ → Type 0) (i n : ℕ) → All Q (numbers i n) → (r : ℕ) → i ≤ r → r < i + n → Q r
all_below Q i zero h r l u = absurd (omega arith)
all_below Q i (suc n) h r l u = go (ℕ_discrete i r) (all_below Q (suc i) n h.1 r)
  where
    go : Dec (i ≡ r) → (suc i ≤ r → r < suc i + n → Q r) → Q r
    go (yes e) ih = subst Q e h.0
    go (no ne) ih = ih (omega arith) (omega arith)

some-only : {A : Type 0} (test : A → Bool) (xs : List A) → So (any test xs) → 1 ≤ length (only test xs)
some-only test [] t = absurd (false≢true t)
some-only test (x ∷ xs) t = go (test x) t (some-only test xs)
  where
    go : (b : Bool) → So (b || any test xs) → (So (any test xs) → 1 ≤ length (only test xs)) → 1 ≤ length (cond b (x ∷ only test xs) (only test xs))
    go true u ih = omega arith
    go false u ih = ih u

objects-sum : (es : List Entry) → length (all_objects es) ≡ sum (map (λ (e : Entry). length e.objects) es)
unfolding all_objects
objects-sum [] = refl
objects-sum (e ∷ es) = rw length-append (ap (λ (n : ℕ). length e.objects + n) (objects-sum es))

module _ (P : Policy) (sound : SoundPolicy P) (rooted : unrooted P ≡ false) (few : states_of P ≤ 8192) where
  good-move : (m : Move) → SoundMove P.roles m → GoodMove P m
  good-move m s = record { from = s.from; to = s.to; special = s.special }

  good-object : (o : Object) → SoundObject (length P.paths) o → GoodObject P o
  good-object o s = record { path = s.path; modes = s.modes }

  good-entry : (e : Entry) → SoundEntry (length P.roles) (length P.paths) e × (lacks_object P e ≡ false) → GoodEntry P e
  unfolding lacks_object
  good-entry e (s, root) = record {
    role = s.role;
    subject = s.subject;
    caps = s.caps;
    users = s.users;
    groups = s.groups;
    objects = all_imply (SoundObject (length P.paths)) (GoodObject P) good-object e.objects s.objects;
    distinct = s.distinct;
    rooted = not-false _ root;
  }

  -- What the end tests.
  record Rooted : Type 0 where
    pub default : So (any (of_kind DEFAULT) P.roles)
    pub roles : any (lacks_entry P) (numbers 0 (length P.roles)) ≡ false
    pub entries : any (lacks_object P) P.entries ≡ false

  parts : Rooted
  unfolding unrooted
  parts =
      let p = neither (not (any (of_kind DEFAULT) P.roles)) _ rooted in
      let q = neither (any (lacks_entry P) (numbers 0 (length P.roles))) _ p.1 in
      record { default = not-false _ p.0; roles = q.0; entries = q.1 }

  pub sound_good : Good P
  unfolding lacks_entry
  sound_good = record {
    roles = sound.roles.good;
    paths = sound.paths.good;
    moves = all_imply (SoundMove P.roles) (GoodMove P) good-move P.moves sound.moves.good;
    entries =
        all_imply (λ (e : Entry). SoundEntry (length P.roles) (length P.paths) e × (lacks_object P e ≡ false)) (GoodEntry P) good-entry P.entries
        (all_both (SoundEntry (length P.roles) (length P.paths)) (λ (e : Entry). lacks_object P e ≡ false) P.entries sound.entries.good (all_fail (lacks_object P) P.entries parts.entries));
    users_distinct = sound.roles.users_distinct;
    groups_distinct = sound.roles.groups_distinct;
    paths_distinct = sound.paths.distinct;
    moves_distinct = sound.moves.distinct;
    entries_distinct = sound.entries.distinct;
    few_users = sound.roles.few_users;
    few_groups = sound.roles.few_groups;
    few_specials = sound.roles.few_specials;
    few_paths = sound.paths.few;
    few_entries = sound.entries.few;
    few_objects = rw (← objects-sum P.entries) sound.entries.few_objects;
    one_default = omega (arith, some-only (of_kind DEFAULT) P.roles parts.default);
    rooted = λ r l. not-false _ (all_below (λ (n : ℕ). lacks_entry P n ≡ false) 0 (length P.roles) (all_fail (lacks_entry P) (numbers 0 (length P.roles)) parts.roles) r (omega arith) (omega arith));
    few_states = few;
  }

finish_good : (p : Progress) (P : Policy) → SoundProgress p → finish p ≡ accepted P → Good P
unfolding finish
finish_good (stopped n l) P h e = let z : ◌≡◌ {A = ℕ} 0 1 = cc in absurd (omega arith)
finish_good (going s) P h e = go (eqb s.last 0x7f) (decide (unrooted s.policy)) (decide (ltb 8192 (states_of s.policy))) e
  where
    tested : Bool → Reading
    tested ended =
        cond (not ended) (refused 14 0)
        (cond (unrooted s.policy) (refused 15 0)
        (cond (ltb 8192 (states_of s.policy)) (refused 16 0) (accepted s.policy)))

    go : (ended : Bool) → So (unrooted s.policy) ⊎ (unrooted s.policy ≡ false) → So (ltb 8192 (states_of s.policy)) ⊎ (ltb 8192 (states_of s.policy) ≡ false)
        → tested ended ≡ accepted P → Good P
    go false u t d = let z : ◌≡◌ {A = ℕ} 0 1 = cc in absurd (omega arith)
    go true (inl u) t d = let c = rw u at d in let z : ◌≡◌ {A = ℕ} 0 1 = cc in absurd (omega arith)
    go true (inr u) (inl t) d = let c = rw (u, t) at d in let z : ◌≡◌ {A = ℕ} 0 1 = cc in absurd (omega arith)
    go true (inr u) (inr t) d =
        let c = rw (u, t) at d in
        let same : s.policy ≡ P = cc in
        subst Good same (sound_good s.policy h.policy u (ltb-false 8192 (states_of s.policy) t))

pub accepted_good : (text : List ℕ) (P : Policy) → reading text ≡ accepted P → Good P
unfolding reading
accepted_good text P e = finish_good (run (going start) (lines_of text)) P (sound-run (going start) (lines_of text) sound-start) e

-- Loading leaves one possible outcome.
pub outcome_unique : (text store : List ℕ) {number line : ℕ} {left : List ℕ} {number' line' : ℕ} {left' : List ℕ}
    → LoadedAs text store number line left → LoadedAs text store number' line' left' → (number ≡ number') × (line ≡ line') × (left ≡ left')
outcome_unique text store a b = (a.refusal ∙ sym b.refusal, a.place ∙ sym b.place, a.bytes ∙ sym b.bytes)
