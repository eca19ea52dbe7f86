-- One step: what a real state may do its abstraction may do, and the other way round.
-- Assumes nothing.
use mathlib.Core.Path.{◌≡◌, refl, sym, ap}
use mathlib.Core.Logic.{◌⊎◌, inl, inr}
use mathlib.Core.Bool.{Bool, false, ◌&&◌, ◌||◌, So}
use mathlib.Core.List.{List}
use Prim.Native.Nat.{ℕ, ◌<◌}
use lib.Dec.{eqb}
use lib.ListN.{length}
use Rattle.paths.specs.Path.{is_path}
use Rattle.gran.specs.Policy.{Policy, Allowed, Entry, USER, GROUP, SET_UID, SET_GID, EXEC}
use Rattle.gran.specs.Access.{has, sees}
use Rattle.gran.specs.Lists.{member}
use Rattle.gran.specs.Match.{path_at, subject_of, objects_of, object_in, modes_of}
use Rattle.gran.specs.Role.{role_of, allows}
use Rattle.gran.specs.Exec.{exec_may}
use Rattle.gran.specs.Good.{Good, GoodEntry}
use Rattle.gran.specs.Real
use Rattle.gran.specs.Abstract
use Rattle.gran.specs.Abstract.{abstract, abstract_act, real_act, id_for, id_after, reaches, image, executed}
use Rattle.paths.proofs.Bools.{decide, both, parts₄, parts₅, left, right, or_left, or_right, either, eqb_of, eqb-to}
use Rattle.gran.proofs.Policies.{Known, role_of_known, in_force_known, may_take_known, entry_in_good, entry_in-abstract, image_sound, image_complete, reaches_of, reaches_allowed, reaches-role, object_most}

-- ---- ids, for users and groups alike

module _ (P : Policy) (k : ℕ) (a : Allowed) where
  set_sound : (cap : Bool) (new : ℕ) → So (cap && allows a new) → So (cap && reaches P k a (role_of P k new))
  set_sound cap new t = both (left cap _ t) (reaches_of P k a new (right cap _ t))

  set_complete : (cap : Bool) (r : ℕ) → So (cap && reaches P k a r) → So (cap && allows a (id_for P k a r)) × (role_of P k (id_for P k a r) ≡ r)
  set_complete cap r t = (both (left cap _ t) (reaches_allowed P k a r (right cap _ t)), reaches-role P k a r (right cap _ t))

  exec_may_sound : (old new : ℕ) → So (exec_may (eqb new old) (allows a new))
      → So (exec_may (eqb (role_of P k new) (role_of P k old)) (reaches P k a (role_of P k new)))
  unfolding exec_may
  exec_may_sound old new t = go (either (eqb new old) _ t)
    where
      go : So (eqb new old) ⊎ So (allows a new) → So (eqb (role_of P k new) (role_of P k old) || reaches P k a (role_of P k new))
      go (inl e) = or_left _ (eqb_of (ap (role_of P k) (eqb-to new old e)))
      go (inr u) = or_right (eqb (role_of P k new) (role_of P k old)) (reaches_of P k a new u)

  exec_may_complete : (old r : ℕ) → So (exec_may (eqb r (role_of P k old)) (reaches P k a r))
      → So (exec_may (eqb (id_after P k a old r) old) (allows a (id_after P k a old r))) × (role_of P k (id_after P k a old r) ≡ r)
  unfolding exec_may id_after
  exec_may_complete old r t = go (decide (eqb r (role_of P k old))) t
    where
      go : So (eqb r (role_of P k old)) ⊎ (eqb r (role_of P k old) ≡ false) → So (eqb r (role_of P k old) || reaches P k a r)
          → So (eqb (id_after P k a old r) old || allows a (id_after P k a old r)) × (role_of P k (id_after P k a old r) ≡ r)
      go (inl e) u = rw e (or_left _ (eqb_of {m = old} refl), sym (eqb-to r (role_of P k old) e))
      go (inr e) u =
          let w : So (reaches P k a r) = rw e at u in
          rw e (or_right (eqb (id_for P k a r) old) (reaches_allowed P k a r w), reaches-role P k a r w)

-- ---- executions, with entry e in force

module _ (P : Policy) (good : Good P) (e : Entry) (g : GoodEntry P e) (σ : Real.State) where
  exec_sound : (f : List ℕ) (u v : ℕ) → So (Real.may_exec P e σ f u v)
      → So (Abstract.may_exec P e (abstract P σ) (object_in P e f) (role_of P USER u) (role_of P GROUP v) (subject_of P f))
  unfolding Real.may_exec Abstract.may_exec abstract
  exec_sound f u v t =
      let p = parts₄ (is_path f) (sees (modes_of e (object_in P e f)) EXEC) _ _ t in
      both (both (both (both
      (object_most P good e g f).inside
      p.1)
      (exec_may_sound P USER e.users σ.uid u p.2))
      (exec_may_sound P GROUP e.groups σ.gid v p.3))
      (image_sound P good e g f)

  -- The act that shows an abstract exec is a real one, and leads where it does.
  exec_complete : (o u v s : ℕ) → So (Abstract.may_exec P e (abstract P σ) o u v s)
      → So (Real.may_exec P e σ (path_at P.paths (executed P e o s)) (id_after P USER e.users σ.uid u) (id_after P GROUP e.groups σ.gid v))
      × (role_of P USER (id_after P USER e.users σ.uid u) ≡ u)
      × (role_of P GROUP (id_after P GROUP e.groups σ.gid v) ≡ v)
      × (subject_of P (path_at P.paths (executed P e o s)) ≡ s)
  unfolding Real.may_exec Abstract.may_exec abstract
  exec_complete o u v s t =
      let p = parts₅ (member o (objects_of e)) (sees (modes_of e o) EXEC) _ _ (image P e o s) t in
      let user = exec_may_complete P USER e.users σ.uid u p.2 in
      let group = exec_may_complete P GROUP e.groups σ.gid v p.3 in
      let there = image_complete P good e g o s p.0 p.4 in
      let seen : So (sees (modes_of e (object_in P e (path_at P.paths (executed P e o s)))) EXEC) = rw there.object p.1 in
      (both (both (both there.path seen) user.0) group.0, user.1, group.1, there.subject)

-- ---- states

module _ (P : Policy) (good : Good P) (σ : Real.State) (known : Known P σ.special) where
  -- Proposition 2 of 001: the same role is in force.
  role_same : Abstract.role P (abstract P σ) ≡ Real.role P σ
  unfolding Abstract.role Real.role abstract
  role_same = refl

  pub role_known : Real.role P σ < length P.roles
  unfolding Real.role
  role_known = in_force_known P good σ.special _ _ known (role_of_known P good USER σ.uid) (role_of_known P good GROUP σ.gid)

  pub entry-same : Abstract.entry P (abstract P σ) ≡ Real.entry P σ
  unfolding Abstract.entry Real.entry Abstract.role Real.role abstract
  entry-same = entry_in-abstract P good (Real.role P σ) role_known σ.file

  pub entry_good : GoodEntry P (Real.entry P σ)
  unfolding Real.entry
  entry_good = entry_in_good P good (Real.role P σ) role_known σ.file

  -- The same access is granted.
  pub access-same : (kind : ℕ) (t : List ℕ) → Abstract.access P kind t (abstract P σ) ≡ Real.access P kind t σ
  unfolding Abstract.access Real.access
  access-same kind t = rw entry-same

  -- Theorem 1 of 001, for one step.
  pub step_sound : (a : Real.Act) → So (Real.may P σ a) → So (Abstract.may P (abstract P σ) (abstract_act P σ a))
  unfolding Real.may Abstract.may abstract_act abstract
  step_sound (Real.set_special s) t = rw role_same t
  step_sound (Real.set_uid u) t = rw entry-same (set_sound P USER e.users (has e.caps SET_UID) u t)
    where
      e : Entry
      e = Real.entry P σ
  step_sound (Real.set_gid g) t = rw entry-same (set_sound P GROUP e.groups (has e.caps SET_GID) g t)
    where
      e : Entry
      e = Real.entry P σ
  step_sound (Real.exec f u g) t = rw entry-same (exec_sound P good (Real.entry P σ) entry_good σ f u g t)

  -- The other half of every step: the states after it agree.
  pub next_sound : (a : Real.Act) → Abstract.next (abstract P σ) (abstract_act P σ a) ≡ abstract P (Real.next σ a)
  unfolding abstract abstract_act
  next_sound (Real.set_special s) = refl
  next_sound (Real.set_uid u) = refl
  next_sound (Real.set_gid g) = refl
  next_sound (Real.exec f u g) = refl

  -- Theorem 2 of 001, for one step.
  pub step_complete : (b : Abstract.Act) → So (Abstract.may P (abstract P σ) b)
      → So (Real.may P σ (real_act P σ b)) × (abstract P (Real.next σ (real_act P σ b)) ≡ Abstract.next (abstract P σ) b)
  unfolding Real.may Abstract.may real_act abstract
  step_complete (Abstract.set_special s) t = (rw role_same at t, refl)
  step_complete (Abstract.set_user r) t =
      let e = Real.entry P σ in
      let q = set_complete P USER e.users (has e.caps SET_UID) r (rw entry-same at t) in
      (q.0, λ i. record { special = σ.special; user = q.1 i; group = role_of P GROUP σ.gid; subject = subject_of P σ.file })
  step_complete (Abstract.set_group r) t =
      let e = Real.entry P σ in
      let q = set_complete P GROUP e.groups (has e.caps SET_GID) r (rw entry-same at t) in
      (q.0, λ i. record { special = σ.special; user = role_of P USER σ.uid; group = q.1 i; subject = subject_of P σ.file })
  step_complete (Abstract.exec o u v s) t =
      let q = exec_complete P good (Real.entry P σ) entry_good σ o u v s (rw entry-same at t) in
      (q.0, λ i. record { special = σ.special; user = q.1 i; group = q.2 i; subject = q.3 i })

  -- Every state that a run comes to has no special role, or one of the policy's.
  pub next_known : (a : Real.Act) → So (Real.may P σ a) → Known P (Real.next σ a).special
  unfolding Real.may
  next_known (Real.set_special s) t = may_take_known P good (Real.role P σ) s t
  next_known (Real.set_uid u) t = known
  next_known (Real.set_gid g) t = known
  next_known (Real.exec f u g) t = known
