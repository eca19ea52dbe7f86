-- The steps of a state are exactly the acts that it may do, and their keys tell them apart.
-- Assumes nothing.
use mathlib.Core.Path.{◌≡◌, sym, ap, ◌∙◌}
use mathlib.Core.Logic.{◌⊎◌, inl, inr}
use mathlib.Core.Bool.{Bool, false, not, So}
use mathlib.Core.List.Memᴰ
use mathlib.Core.List.{◌++◌, map, Memᴰ}
use Prim.Native.Nat.{ℕ, ◌+◌, ◌<◌}
use native.Mathlib.Omega.{arith}
use lib.Dec.{eqb}
use lib.ListN.{length, get_or}
use Rattle.paths.proofs.Bools.{decide, both, left, right, either, eqb-to, parts₅}
use Rattle.gran.specs.Lists.{none, any, member, place, numbers}
use Rattle.gran.specs.Policy.{Policy, Allowed, Entry, USER, GROUP, SPECIAL, SET_UID, SET_GID, EXEC}
use Rattle.gran.specs.Match.{paths_of_s, is_subject, subjects, objects_of, modes_of}
use Rattle.gran.specs.Role.{of_kind, is_role, is_move, no_role, role_of, may_take}
use Rattle.gran.specs.Access.{has, sees}
use Rattle.gran.specs.Exec.{exec_may}
use Rattle.gran.specs.Good.{Good, GoodMove}
use Rattle.gran.specs.Abstract.{Act, set_special, set_user, set_group, exec, role, entry, id_for, reaches, image, may_exec, may}
use Rattle.gran.specs.Run.{key, Sooner}
use Rattle.gran.specs.declared.State.{State}
use Rattle.gran.proofs.Lists.{any_all, place_is}
use Rattle.gran.proofs.Policies.{reaches-role, subjects-named}
use Rattle.runs.specs.Steps.{choices, is_other, kept_first, can_set, can_follow, executable, specials_from, users_set, groups_set, executables, users_after, groups_after, subjects_after, execs_to, execs_as, execs_of, execs, steps_in, steps}
use Rattle.runs.proofs.Rising.{steps_rising}
use Rattle.runs.proofs.Order.{order, sooner_asym}
use Rattle.gran.proofs.Members.{mem_at, only-has, only_of, places-has, member-has, has-member, numbers-has}
use Rattle.runs.proofs.Lists.{each-has, each_of}

-- ---- each of the list may be done

module _ (P : Policy) (α : State) where
  may-exec : (o u g s : ℕ) → Memᴰ o (executables (entry P α)) → Memᴰ u (users_after P (entry P α) α.user) → Memᴰ g (groups_after P (entry P α) α.group)
      → Memᴰ s (subjects_after P (entry P α) o) → So (may_exec P (entry P α) α o u g s)
  unfolding executables executable users_after groups_after can_follow subjects_after may_exec
  may-exec o u g s mo mu mg ms =
      let (mo₁, to) = only_of (executable (entry P α)) (objects_of (entry P α)) mo in
      let tu = (only_of (can_follow P USER (entry P α).users α.user) (kept_first α.user (choices P USER)) mu).1 in
      let tg = (only_of (can_follow P GROUP (entry P α).groups α.group) (kept_first α.group (choices P GROUP)) mg).1 in
      let ts = (only_of (image P (entry P α) o) (paths_of_s P) ms).1 in
      both (both (both (both (has-member (objects_of (entry P α)) mo₁) to) tu) tg) ts

  execs-may : {a : Act} → Memᴰ a (execs P (entry P α) α) → So (may P α a)
  unfolding execs execs_of execs_as execs_to may
  execs-may m =
      let users = users_after P (entry P α) α.user in
      let groups = groups_after P (entry P α) α.group in
      let (o, mo, m₁) = each_of (execs_of P (entry P α) users groups) (executables (entry P α)) m in
      let (u, mu, m₂) = each_of (execs_as P (entry P α) groups o) users m₁ in
      let (g, mg, m₃) = each_of (execs_to P (entry P α) o u) groups m₂ in
      let (s, ms, e) = Memᴰ.of_map (exec o u g) (subjects_after P (entry P α) o) m₃ in
      rw (← e) (may-exec o u g s mo mu mg ms)

  pub steps-may : (a : Act) → Memᴰ a (steps P α) → So (may P α a)
  unfolding steps steps_in specials_from users_set groups_set can_set may
  steps-may a m = special (Memᴰ.append_cases (map set_special (specials_from P (role P α))) m)
    where
      group : Memᴰ a (map set_group (groups_set P (entry P α))) ⊎ Memᴰ a (execs P (entry P α) α) → So (may P α a)
      group (inl n) = let (r, k, e) = Memᴰ.of_map set_group (groups_set P (entry P α)) n in
          rw (← e) (only_of (can_set P GROUP (has (entry P α).caps SET_GID) (entry P α).groups) (choices P GROUP) k).1
      group (inr n) = execs-may n

      user : Memᴰ a (map set_user (users_set P (entry P α))) ⊎ Memᴰ a (map set_group (groups_set P (entry P α)) ++ execs P (entry P α) α) → So (may P α a)
      user (inl n) = let (r, k, e) = Memᴰ.of_map set_user (users_set P (entry P α)) n in
          rw (← e) (only_of (can_set P USER (has (entry P α).caps SET_UID) (entry P α).users) (choices P USER) k).1
      user (inr n) = group (Memᴰ.append_cases (map set_group (groups_set P (entry P α))) n)

      special : Memᴰ a (map set_special (specials_from P (role P α))) ⊎ Memᴰ a (map set_user (users_set P (entry P α)) ++ (map set_group (groups_set P (entry P α)) ++ execs P (entry P α) α)) → So (may P α a)
      special (inl n) = let (r, k, e) = Memᴰ.of_map set_special (specials_from P (role P α)) n in
          rw (← e) (only_of (may_take P (role P α)) (choices P SPECIAL) k).1
      special (inr n) = user (Memᴰ.append_cases (map set_user (users_set P (entry P α))) n)

-- ---- each act that may be done is in the list

module _ (P : Policy) where
  -- A role of a kind, by number, is a choice.
  pub numbered : (k j : ℕ) → j < length P.roles → So (of_kind k (get_or P.roles j no_role)) → Memᴰ j (choices P k)
  unfolding choices
  numbered k j l t = Memᴰ.tail (Memᴰ.cast (omega arith) (places-has (of_kind k) no_role 0 P.roles j l t))

  pub none_choice : (k r : ℕ) → r ≡ none → Memᴰ r (choices P k)
  unfolding choices
  none_choice k r e = Memᴰ.head e

  -- The role of an id, or none.
  pub role_of_choice : (k n : ℕ) → Memᴰ (role_of P k n) (choices P k)
  unfolding role_of
  role_of_choice k n = go (place_is (is_role k n) no_role 0 P.roles)
    where
      r : ℕ
      r = place (is_role k n) 0 P.roles

      go : (r ≡ none) ⊎ ((j : ℕ) × (r ≡ 0 + j) × (j < length P.roles) × So (is_role k n (get_or P.roles j no_role))) → Memᴰ r (choices P k)
      go (inl e) = none_choice k r e
      go (inr (j, e, l, t)) = Memᴰ.cast (omega arith) (numbered k j l (left (of_kind k (get_or P.roles j no_role)) _ t))

  pub reaches_choice : (k : ℕ) (a : Allowed) (r : ℕ) → So (reaches P k a r) → Memᴰ r (choices P k)
  reaches_choice k a r t = rw (reaches-role P k a r t) at (role_of_choice k (id_for P k a r))

  set_choice : (k : ℕ) (cap : Bool) (a : Allowed) (r : ℕ) → So (can_set P k cap a r) → Memᴰ r (choices P k)
  unfolding can_set
  set_choice k cap a r t = reaches_choice k a r (right cap _ t)

  kept_choice : (k : ℕ) (a : Allowed) (kept r : ℕ) → So (can_follow P k a kept r) → Memᴰ r (kept_first kept (choices P k))
  unfolding can_follow exec_may kept_first is_other
  kept_choice k a kept r t = go (decide (eqb r kept)) (either (eqb r kept) _ t)
    where
      go : So (eqb r kept) ⊎ (eqb r kept ≡ false) → So (eqb r kept) ⊎ So (reaches P k a r) → Memᴰ r (kept_first kept (choices P k))
      go (inl e) u = Memᴰ.head (eqb-to r kept e)
      go (inr e) (inl u) = Memᴰ.head (eqb-to r kept u)
      go (inr e) (inr u) = Memᴰ.tail (only-has (is_other kept) (choices P k) (reaches_choice k a r u) (ap not e))

  module _ (good : Good P) where
    pub special_choice : (r s : ℕ) → So (may_take P r s) → Memᴰ s (choices P SPECIAL)
    unfolding may_take
    special_choice r s t = go (either (eqb s none) _ t)
      where
        go : So (eqb s none) ⊎ So (any (is_move r s) P.moves) → Memᴰ s (choices P SPECIAL)
        go (inl e) = none_choice SPECIAL s (eqb-to s none e)
        go (inr u) =
            let m = any_all (is_move r s) (GoodMove P) P.moves u good.moves in
            let is-s = eqb-to m.0.special s (right (eqb m.0.role r) _ m.1) in
            Memᴰ.cast (sym is-s) (numbered SPECIAL m.0.special m.2.to m.2.special)

    -- A subject of S is one of its paths.
    pub path_of-S : (s : ℕ) → So (member s (subjects P)) → Memᴰ s (paths_of_s P)
    unfolding paths_of_s
    path_of-S s m = only-has (is_subject P) (numbers 0 (length P.paths)) (Memᴰ.cast (omega arith) (numbers-has 0 (length P.paths) s (subjects-named P good s m))) m

    subject-path : (e : Entry) (o s : ℕ) → So (image P e o s) → Memᴰ s (subjects_after P e o)
    unfolding image subjects_after
    subject-path e o s t = only-has (image P e o) (paths_of_s P) (path_of-S s (left (member s (subjects P)) _ t)) t

    module _ (α : State) where
      execs-has : (o u g s : ℕ) → So (may_exec P (entry P α) α o u g s) → Memᴰ (exec o u g s) (execs P (entry P α) α)
      unfolding may_exec execs execs_of execs_as execs_to executables executable users_after groups_after can_follow
      execs-has o u g s t =
          let e = entry P α in
          let p = parts₅ (member o (objects_of e)) (sees (modes_of e o) EXEC) _ _ (image P e o s) t in
          let users = users_after P e α.user in
          let groups = groups_after P e α.group in
          each-has (execs_of P e users groups) (executables e) (only-has (executable e) (objects_of e) (member-has o (objects_of e) p.0) p.1)
          (each-has (execs_as P e groups o) users (only-has (can_follow P USER e.users α.user) (kept_first α.user (choices P USER)) (kept_choice USER e.users α.user u p.2) p.2)
          (each-has (execs_to P e o u) groups (only-has (can_follow P GROUP e.groups α.group) (kept_first α.group (choices P GROUP)) (kept_choice GROUP e.groups α.group g p.3) p.3)
          (Memᴰ.map (exec o u g) (subject-path e o s p.4))))

      pub steps-has : (a : Act) → So (may P α a) → Memᴰ a (steps P α)
      unfolding may steps steps_in specials_from users_set groups_set can_set
      steps-has (set_special s) t = Memᴰ.append_left _ (Memᴰ.map set_special (only-has (may_take P (role P α)) (choices P SPECIAL) (special_choice (role P α) s t) t))
      steps-has (set_user r) t =
          let can = can_set P USER (has (entry P α).caps SET_UID) (entry P α).users in
          Memᴰ.append_right (map set_special (specials_from P (role P α)))
          (Memᴰ.append_left _ (Memᴰ.map set_user (only-has can (choices P USER) (set_choice USER (has (entry P α).caps SET_UID) (entry P α).users r t) t)))
      steps-has (set_group r) t =
          let can = can_set P GROUP (has (entry P α).caps SET_GID) (entry P α).groups in
          Memᴰ.append_right (map set_special (specials_from P (role P α)))
          (Memᴰ.append_right (map set_user (users_set P (entry P α)))
          (Memᴰ.append_left _ (Memᴰ.map set_group (only-has can (choices P GROUP) (set_choice GROUP (has (entry P α).caps SET_GID) (entry P α).groups r t) t))))
      steps-has (exec o u g s) t =
          Memᴰ.append_right (map set_special (specials_from P (role P α)))
          (Memᴰ.append_right (map set_user (users_set P (entry P α)))
          (Memᴰ.append_right (map set_group (groups_set P (entry P α))) (execs-has o u g s t)))

      -- Acts that may be done and have the same key are the same.
      pub key_injective : (a b : Act) → So (may P α a) → So (may P α b) → key P α a ≡ key P α b → a ≡ b
      key_injective a b s t same = go (mem_at a (steps P α) (steps-has a s)) (mem_at a (steps P α) (steps-has b t))
        where
          apart : (i j : ℕ) (x y : Act) → i < j → j < length (steps P α) → get_or (steps P α) i a ≡ x → get_or (steps P α) j a ≡ y → key P α x ≡ key P α y → ⊥
          apart i j x y l h e f k =
              let less : Sooner (key P α x) (key P α x) = rw (e, f, ← k) at (steps_rising P α good a i j l h) in
              sooner_asym (key P α x) (key P α x) less less

          go : (i : ℕ) × (i < length (steps P α)) × (get_or (steps P α) i a ≡ a) → (j : ℕ) × (j < length (steps P α)) × (get_or (steps P α) j a ≡ b) → a ≡ b
          go (i, h, e) (j, k, f) = cases (order i j)
            where
              cases : (i < j) ⊎ ((i ≡ j) ⊎ (j < i)) → a ≡ b
              cases (inl l) = absurd (apart i j a b l k e f same)
              cases (inr (inl eq)) = sym e ∙ ap (λ (n : ℕ). get_or (steps P α) n a) eq ∙ f
              cases (inr (inr l)) = absurd (apart j i b a l h f e (sym same))
