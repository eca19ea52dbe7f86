-- The steps of a state stand in rising order of their keys, so each stands there once.
-- Assumes nothing.
use mathlib.Core.Path.{◌≡◌, refl, sym, ap}
use mathlib.Core.Logic.{◌⊎◌, inl, inr}
use mathlib.Core.Bool.{Bool}
use mathlib.Core.List.Memᴰ
use mathlib.Core.List.{List, [], ◌∷◌, ◌++◌, map, Memᴰ}
use Prim.Native.Nat.{ℕ, ◌≤◌, ◌<◌}
use native.Mathlib.Omega.{arith}
use lib.ListN.{length, get_or}
use Rattle.gran.specs.Lists.{only, numbers}
use Rattle.gran.specs.Policy.{Policy, Entry, USER, GROUP, SPECIAL, SET_UID, SET_GID}
use Rattle.gran.specs.Match.{objects_of, paths_of_s, is_subject}
use Rattle.gran.specs.Role.{may_take}
use Rattle.gran.specs.Access.{has}
use Rattle.gran.specs.Good.{Good}
use Rattle.gran.specs.Abstract.{Act, set_special, set_user, set_group, exec, role, entry, image}
use Rattle.gran.specs.Run.{rank, key, Sooner}
use Rattle.gran.specs.declared.State.{State}
use Rattle.runs.specs.Steps.{choices, kept_first, can_set, can_follow, executable, specials_from, users_set, groups_set, executables, users_after, groups_after, subjects_after, execs_to, execs_as, execs_of, execs, steps_in, steps}
use Rattle.runs.proofs.Lists.{each_of, Rising, rising_at, rising-only, rising_append, rising-map, rising-each}
use Rattle.runs.proofs.Choices.{ByRank, ByKept, ByPlace, numbers_rising, choices_rising, kept_rising, objects_rising, objects_distinct}

-- 81, 82, 83 or 84.
tag : Act → ℕ
tag (set_special s) = 0x81
tag (set_user r) = 0x82
tag (set_group r) = 0x83
tag (exec o u g s) = 0x84

module _ (P : Policy) (α : State) where
  -- One step of α comes before another.
  Soon : Act → Act → Type 0
  Soon a b = Sooner (key P α a) (key P α b)

  key_tag : (a : Act) → (rest : List ℕ) × (key P α a ≡ tag a ∷ rest)
  unfolding key tag
  key_tag (set_special s) = (_, refl)
  key_tag (set_user r) = (_, refl)
  key_tag (set_group r) = (_, refl)
  key_tag (exec o u g s) = (_, refl)

  by_tag : (a b : Act) → tag a < tag b → Soon a b
  unfolding Soon
  by_tag a b h = rw ((key_tag a).1, (key_tag b).1) (inl h)

  -- Two that are known by what they are.
  soon_as : (a b c d : Act) → c ≡ a → d ≡ b → Soon c d → Soon a b
  soon_as a b c d e f h = rw (← e, ← f) h

  -- ---- the execs, from the subjects out to the objects

  subjects_rising : (o : ℕ) → Rising ◌<◌ (subjects_after P (entry P α) o)
  unfolding subjects_after paths_of_s
  subjects_rising o = rising-only ◌<◌ (image P (entry P α) o) (paths_of_s P)
      (rising-only ◌<◌ (is_subject P) (numbers 0 (length P.paths)) (numbers_rising 0 (length P.paths)))

  module _ (o u : ℕ) where
    execs_to_of : (g : ℕ) {a : Act} → Memᴰ a (execs_to P (entry P α) o u g) → (s : ℕ) × (exec o u g s ≡ a)
    unfolding execs_to
    execs_to_of g m = let (s, n, e) = Memᴰ.of_map (exec o u g) (subjects_after P (entry P α) o) m in (s, e)

    execs_to_rising : (g : ℕ) → Rising Soon (execs_to P (entry P α) o u g)
    unfolding execs_to Soon key
    execs_to_rising g = rising-map ◌<◌ Soon (exec o u g) (subjects_after P (entry P α) o) (subjects_rising o)
        (λ s t h. inr (refl, inr (refl, inr (refl, inr (refl, inl h)))))

    groups_apart : (g h s t : ℕ) → ByKept α.group g h → Soon (exec o u g s) (exec o u h t)
    unfolding Soon key ByKept
    groups_apart g h s t l = inr (refl, inr (refl, inr (refl, inl l)))

    module _ (groups : List ℕ) where
      execs_as_of : {a : Act} → Memᴰ a (execs_as P (entry P α) groups o u) → (g s : ℕ) × (exec o u g s ≡ a)
      unfolding execs_as
      execs_as_of m = let (g, n, k) = each_of (execs_to P (entry P α) o u) groups m in let (s, e) = execs_to_of g k in (g, s, e)

      execs_as_rising : Rising (ByKept α.group) groups → Rising Soon (execs_as P (entry P α) groups o u)
      unfolding execs_as
      execs_as_rising rise = rising-each (ByKept α.group) Soon (execs_to P (entry P α) o u) groups rise execs_to_rising
          (λ g h l a b m n. let (s, e) = execs_to_of g m in let (t, f) = execs_to_of h n in soon_as a b _ _ e f (groups_apart g h s t l))

  users_apart : (o u v g h s t : ℕ) → ByKept α.user u v → Soon (exec o u g s) (exec o v h t)
  unfolding Soon key ByKept
  users_apart o u v g h s t l = inr (refl, inr (refl, inl l))

  module _ (users groups : List ℕ) (o : ℕ) where
    execs_of_of : {a : Act} → Memᴰ a (execs_of P (entry P α) users groups o) → (u g s : ℕ) × (exec o u g s ≡ a)
    unfolding execs_of
    execs_of_of m = let (u, n, k) = each_of (execs_as P (entry P α) groups o) users m in let (g, s, e) = execs_as_of o u groups k in (u, g, s, e)

    execs_of_rising : Rising (ByKept α.user) users → Rising (ByKept α.group) groups → Rising Soon (execs_of P (entry P α) users groups o)
    unfolding execs_of
    execs_of_rising rise within = rising-each (ByKept α.user) Soon (execs_as P (entry P α) groups o) users rise (λ u. execs_as_rising o u groups within)
        (λ u v l a b m n.
        let (g, s, e) = execs_as_of o u groups m in
        let (h, t, f) = execs_as_of o v groups n in
        soon_as a b _ _ e f (users_apart o u v g h s t l))

  objects_apart : (o p u v g h s t : ℕ) → ByPlace 0 (objects_of (entry P α)) o p → Soon (exec o u g s) (exec p v h t)
  unfolding Soon key ByPlace
  objects_apart o p u v g h s t l = inr (refl, inl l)

  -- ---- the rows

  -- 81, 82 and 83: by the role's rank.
  row_rising : (t : ℕ) (c : ℕ → Act) → ((r : ℕ) → key P α (c r) ≡ t ∷ rank r ∷ []) → (rs : List ℕ) → Rising ByRank rs → Rising Soon (map c rs)
  unfolding Soon ByRank
  row_rising t c keyed rs rise = rising-map ByRank Soon c rs rise (λ r s h. rw (keyed r, keyed s) (inr (refl, inl h)))

  row_tag : (t : ℕ) (c : ℕ → Act) → ((r : ℕ) → tag (c r) ≡ t) → (rs : List ℕ) {a : Act} → Memᴰ a (map c rs) → tag a ≡ t
  row_tag t c tagged rs m = let (r, n, e) = Memᴰ.of_map c rs m in rw (← e) (tagged r)

  special_tag : {a : Act} (rs : List ℕ) → Memᴰ a (map set_special rs) → tag a ≡ 0x81
  unfolding tag
  special_tag rs m = row_tag 0x81 set_special (λ r. refl) rs m

  user_tag : {a : Act} (rs : List ℕ) → Memᴰ a (map set_user rs) → tag a ≡ 0x82
  unfolding tag
  user_tag rs m = row_tag 0x82 set_user (λ r. refl) rs m

  group_tag : {a : Act} (rs : List ℕ) → Memᴰ a (map set_group rs) → tag a ≡ 0x83
  unfolding tag
  group_tag rs m = row_tag 0x83 set_group (λ r. refl) rs m

  exec_tag : {a : Act} → Memᴰ a (execs P (entry P α) α) → tag a ≡ 0x84
  unfolding execs tag
  exec_tag m =
      let users = users_after P (entry P α) α.user in
      let groups = groups_after P (entry P α) α.group in
      let (o, n, k) = each_of (execs_of P (entry P α) users groups) (executables (entry P α)) m in
      let (u, g, s, e) = execs_of_of users groups o k in
      ap tag (sym e)

  from_groups : {a : Act} (gs : List ℕ) → Memᴰ a (map set_group gs ++ execs P (entry P α) α) → 0x83 ≤ tag a
  from_groups {a} gs m = go (Memᴰ.append_cases (map set_group gs) m)
    where
      go : Memᴰ a (map set_group gs) ⊎ Memᴰ a (execs P (entry P α) α) → 0x83 ≤ tag a
      go (inl n) = omega (arith, group_tag gs n)
      go (inr n) = omega (arith, exec_tag n)

  from_users : {a : Act} (us gs : List ℕ) → Memᴰ a (map set_user us ++ (map set_group gs ++ execs P (entry P α) α)) → 0x82 ≤ tag a
  from_users {a} us gs m = go (Memᴰ.append_cases (map set_user us) m)
    where
      go : Memᴰ a (map set_user us) ⊎ Memᴰ a (map set_group gs ++ execs P (entry P α) α) → 0x82 ≤ tag a
      go (inl n) = omega (arith, user_tag us n)
      go (inr n) = omega (arith, from_groups gs n)

  -- The rows one after the other: each tag is less than those that follow.
  rows_rising : (ss us gs : List ℕ) → Rising ByRank ss → Rising ByRank us → Rising ByRank gs → Rising Soon (execs P (entry P α) α)
      → Rising Soon (map set_special ss ++ (map set_user us ++ (map set_group gs ++ execs P (entry P α) α)))
  unfolding key
  rows_rising ss us gs rs ru rg re =
      rising_append Soon (map set_special ss) (map set_user us ++ (map set_group gs ++ execs P (entry P α) α)) (row_rising 0x81 set_special (λ r. refl) ss rs)
      (rising_append Soon (map set_user us) (map set_group gs ++ execs P (entry P α) α) (row_rising 0x82 set_user (λ r. refl) us ru)
      (rising_append Soon (map set_group gs) (execs P (entry P α) α) (row_rising 0x83 set_group (λ r. refl) gs rg) re
      (λ x y m n. by_tag x y (omega (arith, group_tag gs m, exec_tag n))))
      (λ x y m n. by_tag x y (omega (arith, user_tag us m, from_groups gs n))))
      (λ x y m n. by_tag x y (omega (arith, special_tag ss m, from_users us gs n)))

  -- ---- the steps of a good policy

  module _ (good : Good P) where
    chosen_rising : (test : ℕ → Bool) (k : ℕ) → Rising ByRank (only test (choices P k))
    chosen_rising test k = rising-only ByRank test (choices P k) (choices_rising P good k)

    after_rising : (test : ℕ → Bool) (kept k : ℕ) → Rising (ByKept kept) (only test (kept_first kept (choices P k)))
    after_rising test kept k = rising-only (ByKept kept) test (kept_first kept (choices P k)) (kept_rising kept (choices P k) (choices_rising P good k))

    users_rising : Rising (ByKept α.user) (users_after P (entry P α) α.user)
    unfolding users_after
    users_rising = after_rising (can_follow P USER (entry P α).users α.user) α.user USER

    groups_rising : Rising (ByKept α.group) (groups_after P (entry P α) α.group)
    unfolding groups_after
    groups_rising = after_rising (can_follow P GROUP (entry P α).groups α.group) α.group GROUP

    execs_rising : Rising Soon (execs P (entry P α) α)
    unfolding execs executables
    execs_rising = rising-each (ByPlace 0 (objects_of e)) Soon (execs_of P e users groups) (executables e)
        (rising-only (ByPlace 0 (objects_of e)) (executable e) (objects_of e) (objects_rising 0 (objects_of e) (objects_distinct P good α)))
        (λ o. execs_of_rising users groups o users_rising groups_rising)
        (λ o p l a b m n.
        let (u, g, s, d) = execs_of_of users groups o m in
        let (v, h, t, f) = execs_of_of users groups p n in
        soon_as a b _ _ d f (objects_apart o p u v g h s t l))
      where
        e : Entry
        e = entry P α

        users : List ℕ
        users = users_after P e α.user

        groups : List ℕ
        groups = groups_after P e α.group

    all_rising : Rising Soon (steps P α)
    unfolding steps steps_in specials_from users_set groups_set
    all_rising = rows_rising (specials_from P (role P α)) (users_set P (entry P α)) (groups_set P (entry P α))
        (chosen_rising (may_take P (role P α)) SPECIAL)
        (chosen_rising (can_set P USER (has (entry P α).caps SET_UID) (entry P α).users) USER)
        (chosen_rising (can_set P GROUP (has (entry P α).caps SET_GID) (entry P α).groups) GROUP)
        execs_rising

    -- Of two steps the one at the earlier place has the lesser key.
    pub steps_rising : (d : Act) (i j : ℕ) → i < j → j < length (steps P α) → Sooner (key P α (get_or (steps P α) i d)) (key P α (get_or (steps P α) j d))
    unfolding Soon
    steps_rising d i j l h = rising_at Soon d (steps P α) all_rising i j l h
