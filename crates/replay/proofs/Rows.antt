-- What a replay says of a row: one that holds is a real run to the access, one that does not names its first record that is no step, or lacks the access.
-- Assumes nothing.
use mathlib.Core.Path.{◌≡◌, refl, sym, ap, ◌∙◌}
use mathlib.Core.Logic.{◌⊎◌, inl, inr}
use mathlib.Core.Bool.{Bool, true, false, cond, ◌&&◌, So, false≢true}
use mathlib.Core.List.{List, [], ◌∷◌, ◌++◌}
use Prim.Native.Nat.{ℕ, suc, ◌+◌}
use native.Mathlib.Omega.{arith}
use lib.Dec.{eqb, ltb}
use lib.ListN.{length}
use borrow.Author.Tests.{ltb-true}
use Rattle.paths.proofs.Bools.{decide, both, left, right, to-false, eqb-to}
use Rattle.gran.specs.Lists.{none}
use Rattle.gran.specs.Policy.{Policy}
use Rattle.gran.specs.Match.{path_at, object_in}
use Rattle.gran.specs.Good.{Good}
use Rattle.gran.specs.Real.{State, set_special, set_uid, set_gid, exec, entry, may, next, run, last, access, Files, On, start, started, file_of, state_of, taken, user_set, group_set, executing}
use Rattle.gran.specs.Reach.{Question, Reached}
use Rattle.gran.specs.declared.Process.{Process}
use Rattle.gran.proofs.Processes.{started_is, taken_is, user_set_is, group_set_is, executing_is}
use Rattle.store.specs.Held.{Loaded}
use Rattle.fields.proofs.Paths.{path_read}
use Rattle.records.specs.declared.Step.{Step}
use Rattle.replay.specs.declared.Verdict.{Verdict}
use Rattle.replay.specs.declared.Verdict.TheVariants.{Holds, NoStep, Denied}
use Rattle.replay.specs.Replay.{replay_of, Replayed, last_file, plainly, names, act_of, acts_said, is_step, after, follow}

-- The process after a row.
abbrev pub after_all : Process → List Step → Process
after_all p [] = p
after_all p (r ∷ rs) = after_all (after p r) rs

-- Each record of the row is a real step.
abbrev pub all_steps : Policy → List ℕ → Process → List Step → Bool
all_steps P begin p [] = true
all_steps P begin p (r ∷ rs) = is_step P (state_of P begin p) r && all_steps P begin (after p r) rs

module _ (P : Policy) (good : Good P) (begin : List ℕ) where
  -- A step's act leads where the record does.
  pub after_is : (p : Process) (r : Step) → So (is_step P (state_of P begin p) r) → state_of P begin (after p r) ≡ next (state_of P begin p) (act_of P r)
  unfolding is_step plainly names after act_of
  after_is p r t = go (eqb r.kind 0x81) (eqb r.kind 0x82) (eqb r.kind 0x83) (eqb r.kind 0x84) (left (plainly r && names P σ r) _ t)
    where
      σ : State
      σ = state_of P begin p

      f : List ℕ
      f = path_at P.paths r.file

      inside : So (ltb r.file (length P.paths) && eqb r.object (object_in P (entry P σ) f)) → eqb r.file none ≡ false
      inside u = to-false _ (λ e. omega (arith, eqb-to r.file none e, ltb-true r.file (length P.paths) (left (ltb r.file (length P.paths)) _ u), good.few_paths))

      go : (a b c d : Bool)
          → So (cond a (eqb r.uid 0 && eqb r.gid 0 && eqb r.object 0 && eqb r.file 0)
          (cond b (eqb r.role 0 && eqb r.gid 0 && eqb r.object 0 && eqb r.file 0)
          (cond c (eqb r.role 0 && eqb r.uid 0 && eqb r.object 0 && eqb r.file 0)
          (cond d (eqb r.role 0) false)))
          && cond d (ltb r.file (length P.paths) && eqb r.object (object_in P (entry P σ) f)) true)
          → state_of P begin (cond a (taken p r.role) (cond b (user_set p r.uid) (cond c (group_set p r.gid) (executing p r.file r.uid r.gid))))
          ≡ next σ (cond a (set_special r.role) (cond b (set_uid r.uid) (cond c (set_gid r.gid) (exec f r.uid r.gid))))
      go true b c d u = taken_is P begin p r.role
      go false true c d u = user_set_is P begin p r.uid
      go false false true d u = group_set_is P begin p r.gid
      go false false false true u = executing_is P begin p r.file r.uid r.gid (inside (right (eqb r.role 0) _ u))
      go false false false false u = absurd (false≢true u)

  step-may : (p : Process) (r : Step) → So (is_step P (state_of P begin p) r) → So (may P (state_of P begin p) (act_of P r))
  unfolding is_step
  step-may p r t = right (plainly r && names P (state_of P begin p) r) _ t

  -- ---- a row that holds

  -- Each record is a real step, and the acts of the row are a real run, as long as the row, with the access at its end; the number names its last file.
  pub record Run (q : Question) (p : Process) (rows : List Step) (file : ℕ) : Type 0 where
    pub steps : So (all_steps P begin p rows)
    pub runs : So (run P (state_of P begin p) (acts_said P rows))
    pub size : length (acts_said P rows) ≡ length rows
    pub granted : So (access P q.kind q.target (last (state_of P begin p) (acts_said P rows)))
    pub ends : (last (state_of P begin p) (acts_said P rows)).file ≡ file_of P begin file

  pub holds-run : (q : Question) (p : Process) (at : ℕ) (rows : List Step) (file : ℕ) → follow P q begin p at rows ≡ Holds file → Run q p rows file
  unfolding follow state_of
  holds-run q p at [] file e = go (access P q.kind q.target (state_of P begin p)) refl e
    where
      go : (b : Bool) → access P q.kind q.target (state_of P begin p) ≡ b → cond b (Holds p.file) Denied ≡ Holds file → Run q p [] file
      go true t e = let same : p.file ≡ file = cc in record { steps = refl; runs = refl; size = refl; granted = t; ends = ap (file_of P begin) same }
      go false t e = let z : ◌≡◌ {A = ℕ} 0 1 = cc in absurd (omega arith)
  holds-run q p at (r ∷ rs) file e = go (decide (is_step P (state_of P begin p) r)) e (holds-run q (after p r) (at + 1) rs file)
    where
      σ : State
      σ = state_of P begin p

      cons : So (is_step P σ r) → Run q (after p r) rs file → Run q p (r ∷ rs) file
      cons t ih =
          let same : state_of P begin (after p r) ≡ next σ (act_of P r) = after_is p r t in
          record {
            steps = both t ih.steps;
            runs = both (step-may p r t) (rw same at ih.runs);
            size = ap suc ih.size;
            granted = rw same at ih.granted;
            ends = rw same at ih.ends;
          }

      go : So (is_step P σ r) ⊎ (is_step P σ r ≡ false) → cond (is_step P σ r) (follow P q begin (after p r) (at + 1) rs) (NoStep at) ≡ Holds file
          → (follow P q begin (after p r) (at + 1) rs ≡ Holds file → Run q (after p r) rs file) → Run q p (r ∷ rs) file
      go (inl t) e ih = cons t (ih (rw t at e))
      go (inr t) e ih = let d : NoStep at ≡ Holds file = rw t at e in let z : ◌≡◌ {A = ℕ} 0 1 = cc in absurd (omega arith)

  -- From a start it reaches the access, on every file system that has the named files.
  pub holds-reached : (q : Question) (uid gid : ℕ) (rows : List Step) (file : ℕ) (fs : Files) → replay_of P q uid gid begin rows ≡ Holds file → On fs (acts_said P rows) → Reached P q (start uid gid begin) fs (length rows)
  holds-reached q uid gid rows file fs e there =
      let R = holds-run q (started uid gid) 0 rows file e in
      rw (← started_is P begin uid gid) (record { acts = acts_said P rows; steps = R.size; runs = R.runs; there = there; granted = R.granted })

-- What the store says of that number is the run's last file.
pub last_file_is : {P : Policy} {rest store : List ℕ} → Loaded P rest store → (q : Question) (begin : List ℕ) (uid gid : ℕ) (rows : List Step) (file : ℕ)
    → replay_of P q uid gid begin rows ≡ Holds file → last_file begin store file ≡ (last (start uid gid begin) (acts_said P rows)).file
unfolding last_file file_of
last_file_is {P} L q begin uid gid rows file e = rw (path_read L file, ← started_is P begin uid gid) (sym (holds-run P L.good begin q (started uid gid) 0 rows file e).ends)

-- ---- a row that does not hold

module _ (P : Policy) (begin : List ℕ) where
  -- The record number n of the row is no step, and all before it are.
  pub record Fails (p : Process) (rows : List Step) (n : ℕ) : Type 0 where
    pub before : List Step
    pub record_n : Step
    pub rest : List Step
    pub row : rows ≡ before ++ (record_n ∷ rest)
    pub count : length before ≡ n
    pub steps : So (all_steps P begin p before)
    pub no_step : is_step P (state_of P begin (after_all p before)) record_n ≡ false

  pub no-step-first : (q : Question) (p : Process) (at : ℕ) (rows : List Step) (n : ℕ) → follow P q begin p at rows ≡ NoStep n → (k : ℕ) × (n ≡ at + k) × Fails p rows k
  unfolding follow
  no-step-first q p at [] n e = go (access P q.kind q.target (state_of P begin p)) e
    where
      go : (b : Bool) → cond b (Holds p.file) Denied ≡ NoStep n → (k : ℕ) × (n ≡ at + k) × Fails p [] k
      go true e = let z : ◌≡◌ {A = ℕ} 0 1 = cc in absurd (omega arith)
      go false e = let z : ◌≡◌ {A = ℕ} 0 1 = cc in absurd (omega arith)
  no-step-first q p at (r ∷ rs) n e = go (decide (is_step P σ r)) e (no-step-first q (after p r) (at + 1) rs n)
    where
      σ : State
      σ = state_of P begin p

      go : So (is_step P σ r) ⊎ (is_step P σ r ≡ false) → cond (is_step P σ r) (follow P q begin (after p r) (at + 1) rs) (NoStep at) ≡ NoStep n
          → (follow P q begin (after p r) (at + 1) rs ≡ NoStep n → (k : ℕ) × (n ≡ at + 1 + k) × Fails (after p r) rs k) → (k : ℕ) × (n ≡ at + k) × Fails p (r ∷ rs) k
      go (inl t) e ih = let (k, m, F) = ih (rw t at e) in (
        suc k,
        omega arith,
        record {
          before = r ∷ F.before;
          record_n = F.record_n;
          rest = F.rest;
          row = ap (λ (l : List Step). r ∷ l) F.row;
          count = ap suc F.count;
          steps = both t F.steps;
          no_step = F.no_step;
        },
      )
      go (inr t) e ih =
          let d : NoStep at ≡ NoStep n = rw t at e in
          let m : at ≡ n = cc in
          (0, omega arith, record { before = []; record_n = r; rest = rs; row = refl; count = refl; steps = refl; no_step = t })

  -- Each record is a step, and the access is not granted at the end.
  pub denied-last : (q : Question) (p : Process) (at : ℕ) (rows : List Step) → follow P q begin p at rows ≡ Denied → So (all_steps P begin p rows) × (access P q.kind q.target (state_of P begin (after_all p rows)) ≡ false)
  unfolding follow
  denied-last q p at [] e = go (access P q.kind q.target (state_of P begin p)) e
    where
      go : (b : Bool) → cond b (Holds p.file) Denied ≡ Denied → So true × (b ≡ false)
      go true e = let z : ◌≡◌ {A = ℕ} 0 1 = cc in absurd (omega arith)
      go false e = (refl, refl)
  denied-last q p at (r ∷ rs) e = go (decide (is_step P (state_of P begin p) r)) e (denied-last q (after p r) (at + 1) rs)
    where
      σ : State
      σ = state_of P begin p

      Last : Type 0
      Last = access P q.kind q.target (state_of P begin (after_all (after p r) rs)) ≡ false

      go : So (is_step P σ r) ⊎ (is_step P σ r ≡ false) → cond (is_step P σ r) (follow P q begin (after p r) (at + 1) rs) (NoStep at) ≡ Denied
          → (follow P q begin (after p r) (at + 1) rs ≡ Denied → So (all_steps P begin (after p r) rs) × Last) → So (is_step P σ r && all_steps P begin (after p r) rs) × Last
      go (inl t) e ih = let d = ih (rw t at e) in (both t d.0, d.1)
      go (inr t) e ih = let d : NoStep at ≡ Denied = rw t at e in let z : ◌≡◌ {A = ℕ} 0 1 = cc in absurd (omega arith)

-- ---- one outcome

-- Two answers to one replay are the same.
pub one_verdict : {P : Policy} {rest store : List ℕ} → Loaded P rest store → (begin target : List ℕ) (uid gid kind : ℕ) (rows : List Step) (r t : Verdict)
    → Replayed store begin target uid gid kind rows r → Replayed store begin target uid gid kind rows t → r ≡ t
one_verdict {P} {rest} L begin target uid gid kind rows r t a b = a P rest L ∙ sym (b P rest L)
