-- What a replay's answer means: one outcome, a row that holds is a real run to the access, the first record that is no step, and the ask's own steps hold.
-- Assumes nothing.
use mathlib.Core.Path.{◌≡◌, refl, sym, ap, subst, ◌∙◌}
use mathlib.Core.Bool.{false, So}
use mathlib.Core.List.{List, ◌++◌}
use Prim.Native.Nat.{ℕ, zero, suc, ◌≤◌}
use native.Mathlib.Omega.{arith}
use lib.ListN.{length, drop}
use borrow.Author.Tests.{le-ltb}
use Rattle.gran.specs.Policy.{Policy}
use Rattle.gran.specs.Good.{Good}
use Rattle.gran.specs.Real.{run, last, access, state_of, started, Files, On}
use Rattle.gran.specs.Abstract.{Act}
use Rattle.gran.specs.Reach.{Reached}
use Rattle.gran.proofs.Processes.{started_is}
use Rattle.store.specs.Layout.{layout}
use Rattle.store.specs.Held.{Fits, Loaded}
use Rattle.policy.specs.Load.{Reading, refused, accepted, reading, settled, LoadedAs}
use Rattle.load.proofs.Callers.{loaded-holds}
use Rattle.records.specs.declared.Step.{Step}
use Rattle.records.specs.Record.{records_of, step_lines, summary}
use Rattle.ask.proofs.Small.{early_lengths}
use Rattle.ask.specs.Ask.{Asked, Areas, Outcome, early, start_of, question_of, Lines, answering, Comes, AskedAs}
use Rattle.replay.specs.declared.Verdict.{Verdict}
use Rattle.replay.specs.declared.Verdict.TheVariants.{Holds, NoStep, Denied}
use Rattle.replay.specs.Replay.{acts_said, replay_of, last_file}
use Rattle.replay.proofs.Rows.{after_all, all_steps, holds-run, holds-reached, last_file_is, Fails, no-step-first, denied-last}
use Rattle.replay.proofs.Own.{own-steps_hold}
use Rattle.leveecrumb.specs.declared.again.Replayed.{Replayed}
use Rattle.leveecrumb.specs.Replaying.{Ended, telling, ended_by, ended_after, replaying}
use Rattle.leveecrumb.proofs.Outcomes.{settles}
use Rattle.leveecrumb.proofs.Replays.{EndsAs, early_for}

-- ---- one outcome

-- Two outcomes of one replay are the same.
pub replayed_unique : (text : List ℕ) (a : Asked) (rows : List Step) (store : List ℕ) (r s : Replayed) (left kept : List ℕ)
    → EndsAs (replaying text a rows store) r left → EndsAs (replaying text a rows store) s kept → (r ≡ s) × (left ≡ kept)
replayed_unique text a rows store r s left kept d e = (d.0 ∙ sym e.0, d.1 ∙ sym e.1)

-- ---- a policy that was read

-- It stands in the store.
stands : (text : List ℕ) (a : Asked) (store : List ℕ) → early_for text a store ≡ 0 → (P : Policy) → reading text ≡ accepted P → Loaded P (drop 16384 store) (layout P ++ drop 16384 store)
unfolding settled
stands text a store none P read =
    let loads = settles text a 24576 store none in
    let l : LoadedAs text store 0 0 (layout P ++ drop 16384 store) = record { refusal = rw (loads, read); place = rw (loads, read); bytes = rw (loads, read) } in
    let (Q, again, L) = loaded-holds text store 0 (layout P ++ drop 16384 store) l in
    let same : Q ≡ P = cc in
    record { good = subst Good same L.good; fits = subst Fits same L.fits; stored = refl }

module _ (text : List ℕ) (a : Asked) (rows : List Step) (store : List ℕ) where
  abbrev answer : Replayed
  answer = (replaying text a rows store).answer

  abbrev left : List ℕ
  left = (replaying text a rows store).store

  -- The records were walked under the policy of the text.
  record Walks : Type 0 where
    policy : Policy
    read : reading text ≡ accepted policy
    loaded : Loaded policy (drop 16384 store) left
    tells : answer ≡ telling (replay_of policy (question_of a) a.uid a.gid a.start rows)

  -- What a text with this policy comes to.
  pub comes-walked : early_for text a store ≡ 0 → (P : Policy) → reading text ≡ accepted P → replaying text a rows store ≡ ended_by (accepted P) a rows store
  comes-walked e P p = ap (λ (k : ℕ). ended_after k text a rows store) e ∙ ap (λ (x : Reading). ended_by x a rows store) p

  -- They were, where a verdict is given.
  walks : (answer.verdict ≡ 0 → ⊥) → Walks
  walks = go (early_for text a store) refl
    where
      by-reading : early_for text a store ≡ 0 → (x : Reading) → reading text ≡ x → ((ended_by x a rows store).answer.verdict ≡ 0 → ⊥) → Walks
      by-reading e (refused n k) p ne = absurd (ne refl)
      by-reading e (accepted P) p ne =
          record { policy = P; read = p; loaded = subst (λ (x : Ended). Loaded P (drop 16384 store) x.store) (sym (comes-walked e P p)) (stands text a store e P p); tells = ap (λ (x : Ended). x.answer) (comes-walked e P p) }

      go : (e : ℕ) → early_for text a store ≡ e → ((ended_after e text a rows store).answer.verdict ≡ 0 → ⊥) → Walks
      go zero e ne = by-reading e (reading text) refl ne
      go (suc m) e ne = absurd (ne refl)

-- An answer's number says which verdict it tells.
module _ (r : Replayed) where
  told-holds : (v : Verdict) → r ≡ telling v → r.verdict ≡ 1 → v ≡ Holds r.file
  told-holds (Holds file) p e = rw p
  told-holds (NoStep n) p e = absurd (omega (arith, ap (λ (x : Replayed). x.verdict) p))
  told-holds Denied p e = absurd (omega (arith, ap (λ (x : Replayed). x.verdict) p))

  told_no-step : (v : Verdict) → r ≡ telling v → r.verdict ≡ 2 → v ≡ NoStep r.first
  told_no-step (Holds file) p e = absurd (omega (arith, ap (λ (x : Replayed). x.verdict) p))
  told_no-step (NoStep n) p e = rw p
  told_no-step Denied p e = absurd (omega (arith, ap (λ (x : Replayed). x.verdict) p))

  told_denied : (v : Verdict) → r ≡ telling v → r.verdict ≡ 3 → v ≡ Denied
  told_denied (Holds file) p e = absurd (omega (arith, ap (λ (x : Replayed). x.verdict) p))
  told_denied (NoStep n) p e = absurd (omega (arith, ap (λ (x : Replayed). x.verdict) p))
  told_denied Denied p e = refl

-- ---- the three verdicts

module _ (text : List ℕ) (a : Asked) (rows : List Step) (store : List ℕ) where
  -- The row is a real run from the start with the access at its end, on every file system that has the named files; the number names its last file.
  pub record RealRun : Type 1 where
    pub policy : Policy
    pub read : reading text ≡ accepted policy
    pub runs : So (run policy (start_of a) (acts_said policy rows))
    pub granted : So (access policy a.kind a.target (last (start_of a) (acts_said policy rows)))
    pub reached : (fs : Files) → On fs (acts_said policy rows) → Reached policy (question_of a) (start_of a) fs (length rows)
    pub file : last_file a.start (left text a rows store) (answer text a rows store).file ≡ (last (start_of a) (acts_said policy rows)).file

  pub holds_real : (answer text a rows store).verdict ≡ 1 → RealRun
  holds_real e =
      let w = walks text a rows store (λ z. omega (arith, e, z)) in
      let P = w.policy in
      let good = w.loaded.good in
      let v = replay_of P (question_of a) a.uid a.gid a.start rows in
      let holds : v ≡ Holds (answer text a rows store).file = told-holds (answer text a rows store) v w.tells e in
      let R = holds-run P good a.start (question_of a) (started a.uid a.gid) 0 rows _ holds in
      record {
        policy = P;
        read = w.read;
        runs = rw (started_is P a.start a.uid a.gid) at R.runs;
        granted = rw (started_is P a.start a.uid a.gid) at R.granted;
        reached = λ fs there. holds-reached P good a.start (question_of a) a.uid a.gid rows _ fs holds there;
        file = last_file_is w.loaded (question_of a) a.start a.uid a.gid rows _ holds;
      }

  -- The records before the one that is named are real steps, and that one is none.
  pub record FirstBad : Type 0 where
    pub policy : Policy
    pub read : reading text ≡ accepted policy
    pub fails : Fails policy a.start (started a.uid a.gid) rows (answer text a rows store).first

  pub first_bad : (answer text a rows store).verdict ≡ 2 → FirstBad
  first_bad e =
      let w = walks text a rows store (λ z. omega (arith, e, z)) in
      let P = w.policy in
      let v = replay_of P (question_of a) a.uid a.gid a.start rows in
      let stops : v ≡ NoStep (answer text a rows store).first = told_no-step (answer text a rows store) v w.tells e in
      let (k, same, F) = no-step-first P a.start (question_of a) (started a.uid a.gid) 0 rows _ stops in
      let at : k ≡ (answer text a rows store).first = omega (arith, same) in
      record { policy = P; read = w.read; fails = rw at at F }

  -- Each record is a real step, and the access is not granted at the end.
  pub record NotGranted : Type 0 where
    pub policy : Policy
    pub read : reading text ≡ accepted policy
    pub steps : So (all_steps policy a.start (started a.uid a.gid) rows)
    pub denied : access policy a.kind a.target (state_of policy a.start (after_all (started a.uid a.gid) rows)) ≡ false

  pub denied_real : (answer text a rows store).verdict ≡ 3 → NotGranted
  denied_real e =
      let w = walks text a rows store (λ z. omega (arith, e, z)) in
      let P = w.policy in
      let v = replay_of P (question_of a) a.uid a.gid a.start rows in
      let d = denied-last P a.start (question_of a) (started a.uid a.gid) 0 rows (told_denied (answer text a rows store) v w.tells e) in
      record { policy = P; read = w.read; steps = d.0; denied = d.1 }

-- ---- the ask's own steps

-- 1 to 6 are passed with any store and work area that are long enough.
still-none : (text store work : ℕ) (a : Asked) → early text store work a ≡ 0 → (store' work' : ℕ) → 16384 ≤ store' → 24576 ≤ work' → early text store' work' a ≡ 0
unfolding early
still-none text store work a e store' work' s w =
    let long = early_lengths text store work a e in
    rw (le-ltb 32768 text long.0, le-ltb store' 16384 s, le-ltb work' 24576 w)
    (rw (le-ltb 32768 text long.0, le-ltb store 16384 long.1, le-ltb work 24576 long.2) at e)

-- An ask's lines say never, or show a run whose records hold.
pub data OwnLines (text : List ℕ) (a : Asked) (P : Policy) (store : List ℕ) : List ℕ → Type 0 where
  never : (opened : ℕ) → OwnLines text a P store (summary 0 opened 0)
  reached : (zs : List Act) (opened : ℕ) → (answer text a (records_of P (start_of a) zs) store).verdict ≡ 1
      → OwnLines text a P store (summary 1 opened (length zs) ++ step_lines (records_of P (start_of a) zs))

module _ (text : List ℕ) (a : Asked) (P : Policy) (read : reading text ≡ accepted P) where
  own_lines : (store : List ℕ) → early_for text a store ≡ 0 → (lines : List ℕ) → Lines P a lines → OwnLines text a P store lines
  own_lines store none lines (Lines.never opened u) = never opened
  own_lines store none lines (Lines.reached zs opened s) =
      let (file, holds) = own-steps_hold P (stands text a store none P read).good (question_of a) a.start a.uid a.gid zs s.first.has in
      reached zs opened (ap (λ (x : Ended). x.answer.verdict) (comes-walked text a (records_of P (start_of a) zs) store none P read) ∙ ap (λ (v : Verdict). (telling v).verdict) holds)

  -- The steps that an ask shows, as records, hold for the same text and question, over any store that is long enough.
  pub own_hold : (lent : Areas) (o : Outcome) → AskedAs text a lent o → early (length text) (length lent.store) (length lent.work) a ≡ 0 → (store : List ℕ) → 16384 ≤ length store
      → (lines : List ℕ) × (o ≡ answering 24576 P lines lent) × OwnLines text a P store lines
  own_hold lent o asked none store long =
      let answers : Comes 24576 (accepted P) a lent o = rw (none, read) at asked in
      let still = still-none (length text) (length lent.store) (length lent.work) a none (length store) 24576 long (omega arith) in
      (answers.0, answers.2, own_lines store still answers.0 answers.1)
