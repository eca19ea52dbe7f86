-- A state inside its choices and its number say the same; steps stay inside.
-- Assumes nothing.
use mathlib.Core.Path.{◌≡◌, refl, sym, ap, ◌∙◌}
use mathlib.Core.Logic.{◌⊎◌, inl, inr}
use mathlib.Core.Bool.{So}
use Prim.Native.Nat.{ℕ, ◌<◌}
use native.Mathlib.Omega.{arith}
use lib.Dec.{eqb}
use lib.ListN.{length}
use Rattle.paths.proofs.Bools.{left, right, either, eqb-to, parts₅}
use Rattle.gran.specs.Lists.{none, member}
use Rattle.gran.specs.Policy.{Policy, Allowed, USER, GROUP, SPECIAL, SET_UID, SET_GID, EXEC}
use Rattle.gran.specs.Match.{subjects, objects_of, modes_of, paths_of_s}
use Rattle.gran.specs.Access.{has, sees}
use Rattle.gran.specs.Exec.{exec_may}
use Rattle.gran.specs.Good.{Good, states_of}
use Rattle.gran.specs.Real
use Rattle.gran.specs.Abstract.{Act, set_special, set_user, set_group, exec, abstract, role, entry, reaches, image, may_exec, may, next}
use Rattle.gran.specs.declared.State.{State}
use Rattle.gran.proofs.Policies.{in_force_known}
use Rattle.runs.specs.Steps.{choices}
use Rattle.numbered.specs.Number.{Among, Inside, sizes_of, digits_of, places_of, state_with, state_number, state_numbered}
use Rattle.numbered.proofs.Radix.{number_of_lt, digits_number}
use Rattle.numbered.proofs.Places.{At, place_at}
use Rattle.numbered.proofs.Members.{choice_known, none_choice, role_of_choice, reaches_choice, take_choice, path_choice, subject_of_choice, states_are}

module _ (P : Policy) where
  module _ (α : State) (inside : Inside P α) where
    pub special_at : At (choices P SPECIAL) α.special (places_of P α).special
    unfolding places_of
    special_at = place_at α.special (choices P SPECIAL) inside.special

    pub user_at : At (choices P USER) α.user (places_of P α).user
    unfolding places_of
    user_at = place_at α.user (choices P USER) inside.user

    pub group_at : At (choices P GROUP) α.group (places_of P α).group
    unfolding places_of
    group_at = place_at α.group (choices P GROUP) inside.group

    pub subject_at : At (paths_of_s P) α.subject (places_of P α).subject
    unfolding places_of
    subject_at = place_at α.subject (paths_of_s P) inside.subject

    pub places_among : Among (sizes_of P) (places_of P α)
    unfolding sizes_of
    places_among = record { special = special_at.inside; user = user_at.inside; group = group_at.inside; subject = subject_at.inside }

    -- The digits of a state's number are its places.
    pub digits-places : digits_of (sizes_of P) (state_number P α) ≡ places_of P α
    unfolding state_number
    digits-places = digits_number places_among

    pub numbered_number : state_numbered P (state_number P α) ≡ α
    unfolding state_numbered state_with
    numbered_number = rw (digits-places, special_at.is, user_at.is, group_at.is, subject_at.is) refl

  pub number_injective : (α β : State) → Inside P α → Inside P β → state_number P α ≡ state_number P β → α ≡ β
  number_injective α β a b e = sym (numbered_number α a) ∙ ap (state_numbered P) e ∙ numbered_number β b

  module _ (good : Good P) where
    pub number_states : (α : State) → Inside P α → state_number P α < states_of P
    unfolding state_number
    number_states α inside = rw (states_are P good) at (number_of_lt (places_among α inside))

    pub number_lt : (α : State) → Inside P α → state_number P α < 8192
    number_lt α inside = omega (arith, number_states α inside, good.few_states)

    pub role_known : (α : State) → Inside P α → role P α < length P.roles
    unfolding role
    role_known α inside = in_force_known P good α.special α.user α.group
        (choice_known P SPECIAL α.special inside.special) (choice_known P USER α.user inside.user) (choice_known P GROUP α.group inside.group)

    -- ---- steps stay inside

    follow_choice : (k : ℕ) (a : Allowed) (kept r : ℕ) → So (member kept (choices P k)) → So (exec_may (eqb r kept) (reaches P k a r)) → So (member r (choices P k))
    unfolding exec_may
    follow_choice k a kept r m t = go (either (eqb r kept) _ t)
      where
        go : So (eqb r kept) ⊎ So (reaches P k a r) → So (member r (choices P k))
        go (inl e) = rw (eqb-to r kept e) m
        go (inr u) = reaches_choice P k a r u

    pub next_inside : (α : State) → Inside P α → (a : Act) → So (may P α a) → Inside P (next α a)
    unfolding may may_exec image
    next_inside α inside (set_special s) t = record { special = take_choice P good (role P α) s t; user = inside.user; group = inside.group; subject = inside.subject }
    next_inside α inside (set_user r) t =
        let reached = right (has (entry P α).caps SET_UID) _ t in
        record { special = inside.special; user = reaches_choice P USER (entry P α).users r reached; group = inside.group; subject = inside.subject }
    next_inside α inside (set_group r) t =
        let reached = right (has (entry P α).caps SET_GID) _ t in
        record { special = inside.special; user = inside.user; group = reaches_choice P GROUP (entry P α).groups r reached; subject = inside.subject }
    next_inside α inside (exec o u g s) t =
        let e = entry P α in
        let p = parts₅ (member o (objects_of e)) (sees (modes_of e o) EXEC) _ _ (image P e o s) t in
        record {
          special = inside.special;
          user = follow_choice USER e.users α.user u inside.user p.2;
          group = follow_choice GROUP e.groups α.group g inside.group p.3;
          subject = path_choice P good s (left (member s (subjects P)) _ p.4);
        }

    -- What a real state without a special role stands for is inside.
    pub abstract_inside : (σ : Real.State) → σ.special ≡ none → Inside P (abstract P σ)
    unfolding abstract
    abstract_inside σ e = record {
      special = none_choice P SPECIAL σ.special e;
      user = role_of_choice P USER σ.uid;
      group = role_of_choice P GROUP σ.gid;
      subject = subject_of_choice P good σ.file;
    }
