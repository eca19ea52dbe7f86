-- For callers: a load that gives 0 leaves an accepted policy in the store.
-- Assumes nothing.
use mathlib.Core.Path.{◌≡◌, ◌∙◌, refl, sym, ap}
use mathlib.Core.Logic.{◌⊎◌, inl, inr}
use mathlib.Core.Bool.{Bool, true, false, cond, So}
use mathlib.Core.List.{List, [], ◌∷◌, ◌++◌}
use Prim.Native.Nat.{ℕ, zero, suc, ◌+◌, ◌≤◌}
use native.Mathlib.Omega.{arith}
use borrow.Author.Tests.{ltb-false}
use lib.Dec.{eqb, ltb}
use lib.ListN.{length, drop, length-append}
use Rattle.paths.proofs.Bools.{decide}
use Rattle.lines.specs.Line.{lines_of, prepend, decoded}
use Rattle.rows.specs.Rows.{joined}
use Rattle.gran.proofs.Counting.{few_roles}
use Rattle.gran.specs.Policy.{Policy}
use Rattle.gran.specs.Good.{states_of}
use Rattle.store.specs.Layout.{all_ids, moves_at, ids_at}
use Rattle.store.specs.Held.{Fits, Loaded}
use Rattle.store.proofs.Reading.{pool_used}
use Rattle.policy.specs.Load.{Load, start, after, refusal_of, Progress, going, stopped, step_by, step, run, unrooted, accepted, finish, reading, settled, outcome, LoadedAs}
use Rattle.policy.specs.Sound.{SoundPolicy, least_text}
use Rattle.policy.proofs.Accepted.{accepted_good}
use Rattle.policy.proofs.Loads.{SoundProgress, sound-start, sound-run, run-stopped}
use Rattle.policy.proofs.Room.{roomy, text_line}

-- the lines of a text are the text
joined-prepend : (b : ℕ) (ls : List (List ℕ)) → joined (prepend b ls) ≡ b ∷ joined ls
unfolding joined prepend
joined-prepend b [] = refl
joined-prepend b (l ∷ ls) = refl

joined_lines : (text : List ℕ) → joined (lines_of text) ≡ text
unfolding joined lines_of
joined_lines [] = refl
joined_lines (b ∷ bs) = go (eqb b 10) (joined_lines bs)
  where
    go : (t : Bool) → joined (lines_of bs) ≡ bs → joined (cond t ((b ∷ []) ∷ lines_of bs) (prepend b (lines_of bs))) ≡ b ∷ bs
    go true e = ap (λ (l : List ℕ). b ∷ l) e
    go false e = joined-prepend b (lines_of bs) ∙ ap (λ (l : List ℕ). b ∷ l) e

-- what passed takes no more text than its lines have
least-run : (s t : Load) (lines : List (List ℕ)) → run (going s) lines ≡ going t → least_text t.policy ≤ least_text s.policy + length (joined lines)
unfolding run step step_by joined
least-run s t [] e = let same : s ≡ t = cc in rw (← same) (omega arith)
least-run s t (line ∷ lines) e = go (refusal_of s line) refl e (least-run (after s (decoded line)) t lines)
  where
    go : (n : ℕ) → refusal_of s line ≡ n → run (step_by n s line) lines ≡ going t →
        (run (going (after s (decoded line))) lines ≡ going t → least_text t.policy ≤ least_text (after s (decoded line)).policy + length (joined lines)) →
        least_text t.policy ≤ least_text s.policy + length (line ++ joined lines)
    go zero z d ih = rw length-append (omega (arith, ih d, text_line s line z))
    go (suc n) z d ih = let x : ◌≡◌ {A = ℕ} 0 1 = cc (run-stopped (suc n) (s.lines + 1) lines) in absurd (omega arith)

-- a refusal has a number
Numbered : Progress → Type 0
Numbered (going s) = Unit
Numbered (stopped n l) = n ≡ 0 → ⊥

run_numbered : (p : Progress) (lines : List (List ℕ)) → Numbered p → Numbered (run p lines)
unfolding run step step_by Numbered
run_numbered p [] h = h
run_numbered (stopped n l) (line ∷ lines) h = run_numbered (stopped n l) lines h
run_numbered (going s) (line ∷ lines) h = go (refusal_of s line) (run_numbered (going (after s (decoded line))) lines tt) (λ n. run_numbered (stopped (suc n) (s.lines + 1)) lines (λ e. omega arith))
  where
    go : (n : ℕ) → Numbered (run (going (after s (decoded line))) lines) → ((m : ℕ) → Numbered (run (stopped (suc m) (s.lines + 1)) lines)) → Numbered (run (step_by n s line) lines)
    go zero passes stops = passes
    go (suc n) passes stops = stops n

-- where the number is 0 all lines passed, and the policy is accepted
finish-zero : (p : Progress) → Numbered p → (store : List ℕ) → 0 ≡ (settled (finish p) store).number → (s : Load) × (p ≡ going s) × (finish p ≡ accepted s.policy)
unfolding finish settled Numbered
finish-zero (stopped n l) h store e = absurd (h (sym e))
finish-zero (going s) h store e = (s, refl, go (decide (eqb s.last 0x7f)) (decide (unrooted s.policy)) (decide (ltb 8192 (states_of s.policy))))
  where
    go : So (eqb s.last 0x7f) ⊎ (eqb s.last 0x7f ≡ false) → So (unrooted s.policy) ⊎ (unrooted s.policy ≡ false) → So (ltb 8192 (states_of s.policy)) ⊎ (ltb 8192 (states_of s.policy) ≡ false) →
        finish (going s) ≡ accepted s.policy
    go (inr a) u v = let z : ◌≡◌ {A = ℕ} 0 14 = rw a at e in absurd (omega arith)
    go (inl a) (inl u) v = let z : ◌≡◌ {A = ℕ} 0 15 = rw (a, u) at e in absurd (omega arith)
    go (inl a) (inr u) (inl v) = let z : ◌≡◌ {A = ℕ} 0 16 = rw (a, u, v) at e in absurd (omega arith)
    go (inl a) (inr u) (inr v) = rw (a, u, v)

-- a sound policy of a short text has room
sound-fits : (P : Policy) → SoundPolicy P → least_text P ≤ 32768 → Fits P
unfolding ids_at moves_at
sound-fits P sound short =
    let room = roomy P sound short in
    record {
      roles = few_roles P.roles sound.roles.good sound.roles.few_users sound.roles.few_groups sound.roles.few_specials sound.roles.few_defaults;
      paths = sound.paths.few;
      entries = sound.entries.few;
      objects = sound.entries.few_objects;
      pool = omega (arith, room.pool, pool_used P);
    }

pub loaded-holds : (text store : List ℕ) (line : ℕ) (left : List ℕ) → LoadedAs text store 0 line left → (P : Policy) × (reading text ≡ accepted P) × Loaded P (drop 16384 store) left
unfolding outcome settled reading least_text joined all_ids Numbered
loaded-holds text store line left l = go (decide (ltb 32768 (length text))) (decide (ltb (length store) 16384))
  where
    go : So (ltb 32768 (length text)) ⊎ (ltb 32768 (length text) ≡ false) → So (ltb (length store) 16384) ⊎ (ltb (length store) 16384 ≡ false) → (P : Policy) × (reading text ≡ accepted P) × Loaded P (drop 16384 store) left
    go (inl a) b = let z : ◌≡◌ {A = ℕ} 0 1 = rw a at l.refusal in absurd (omega arith)
    go (inr a) (inl b) = let z : ◌≡◌ {A = ℕ} 0 2 = rw (a, b) at l.refusal in absurd (omega arith)
    go (inr a) (inr b) =
        let all = run (going start) (lines_of text) in
        let f = finish-zero all (run_numbered (going start) (lines_of text) tt) store (rw (a, b) at l.refusal) in
        let s = f.0 in
        let sound : SoundProgress (going s) = rw f.1 at (sound-run (going start) (lines_of text) sound-start) in
        let least : least_text s.policy ≤ 0 + length (joined (lines_of text)) = least-run start s (lines_of text) f.1 in
        let short : least_text s.policy ≤ 32768 = omega (arith, ap length (joined_lines text), ltb-false 32768 (length text) a) in
        (s.policy, f.2, record { good = accepted_good text s.policy f.2; fits = sound-fits s.policy sound.policy short; stored = rw (a, b, f.2) at l.bytes })
