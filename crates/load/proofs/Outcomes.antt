-- What loading gives: each refusal, or the policy's layout; and what a loaded store is to a caller.
-- Assumes nothing.
use mathlib.Core.Path.{◌≡◌, ◌∙◌, sym, ap}
use mathlib.Core.Logic.{◌⊎◌, inl, inr}
use mathlib.Core.Bool.{false, cond, So}
use mathlib.Core.List.{List, ◌++◌}
use Prim.Native.Nat.{ℕ, ◌≤◌, ◌<◌}
use native.Mathlib.Omega.{arith}
use borrow.Author.Tests.{lt-ltb, le-ltb}
use lib.Dec.{ltb}
use lib.ListN.{length, take, drop, length-append, length-drop}
use lib.Seq.{length-take-le, drop_at}
use Rattle.lines.specs.Line.{zeros}
use Rattle.lines.proofs.Rooms.{length-zeros}
use Rattle.paths.proofs.Bools.{decide}
use Rattle.gran.specs.Policy.{Policy}
use Rattle.gran.specs.Good.{states_of}
use Rattle.store.specs.declared.Tally.{Tally}
use Rattle.store.specs.Layout.{layout}
use Rattle.policy.specs.Load.{unrooted, refused, accepted, finish, reading, Outcome, unchanged, settled, outcome, LoadedAs}
use Rattle.ending.specs.End.{end_refusal}
use Rattle.std.specs.Prelude.{true, ⊤, Result, Ok, Err, is_err}
use Rattle.policy.specs.Refused.{refused_number, refused_line}
use Rattle.policy.specs.declared.refusal.Refused.{Refused}
use Rattle.load.specs.Step.{Cleared, AllPassed, Filled}

module _ (text store : List ℕ) where
  loaded_as : (o : Outcome) → outcome text store ≡ o → LoadedAs text store o.number o.line o.bytes
  loaded_as o e = record { refusal = ap (λ (x : Outcome). x.number) (sym e); place = ap (λ (x : Outcome). x.line) (sym e); bytes = ap (λ (x : Outcome). x.bytes) (sym e) }

  pub too_long : 32768 < length text → LoadedAs text store 1 0 store
  unfolding outcome
  too_long h = loaded_as (unchanged 1 store) (rw (lt-ltb 32768 (length text) h))

  module _ (short : length text ≤ 32768) where
    pub too_small : length store < 16384 → LoadedAs text store 2 0 store
    unfolding outcome
    too_small h = loaded_as (unchanged 2 store) (rw (le-ltb 32768 (length text) short, lt-ltb (length store) 16384 h))

    module _ (room : 16384 ≤ length store) where
      loads : outcome text store ≡ settled (reading text) store
      unfolding outcome
      loads = rw (le-ltb 32768 (length text) short, le-ltb (length store) 16384 room)

      pub loaded-refused : (number line : ℕ) (left : List ℕ) → reading text ≡ refused number line → left ≡ zeros 16384 ++ drop 16384 store → LoadedAs text store number line left
      unfolding settled
      loaded-refused number line left e f = rw f (loaded_as (settled (refused number line) store) (loads ∙ rw e))

      pub loaded-whole : (P : Policy) (left : List ℕ) → reading text ≡ accepted P → left ≡ layout P ++ drop 16384 store → LoadedAs text store 0 0 left
      unfolding settled
      loaded-whole P left e f = rw f (loaded_as (settled (accepted P) store) (loads ∙ rw e))

-- the first 16,384 bytes are cleared
pub cleared-first : (part bytes : List ℕ) → 16384 ≤ length bytes → part ≡ zeros (length (take 16384 bytes)) → part ++ drop 16384 bytes ≡ zeros 16384 ++ drop 16384 bytes
cleared-first part bytes h e = ap (λ (l : List ℕ). l ++ drop 16384 bytes) (e ∙ ap zeros (length-take-le 16384 bytes h))

pub past_first : (first rest : List ℕ) → length first ≡ 16384 → drop 16384 (first ++ rest) ≡ rest
past_first first rest e = drop_at first rest 16384 e

module _ (part bytes : List ℕ) (h : 16384 ≤ length bytes) (e : part ≡ zeros (length (take 16384 bytes))) where
  pub cleared_past : drop 16384 (part ++ drop 16384 bytes) ≡ drop 16384 bytes
  cleared_past = rw (cleared-first part bytes h e) (past_first (zeros 16384) (drop 16384 bytes) (length-zeros 16384))

  pub cleared_is : Cleared (part ++ drop 16384 bytes)
  cleared_is = rw cleared_past (cleared-first part bytes h e)

  pub cleared-length : length (part ++ drop 16384 bytes) ≡ length bytes
  cleared-length = rw (cleared-first part bytes h e, length-append, length-zeros) (omega (arith, length-drop 16384 bytes))

pub room_kept : {m n : ℕ} → m ≡ n → 16384 ≤ n → 16384 ≤ m
room_kept e h = rw e h

-- cleared, filled, and cleared again
pub cleared-again : (part store part₂ left : List ℕ) → 16384 ≤ length store → part ≡ zeros (length (take 16384 store)) → 16384 ≤ length left → drop 16384 left ≡ drop 16384 (part ++ drop 16384 store) →
    part₂ ≡ zeros (length (take 16384 left)) → part₂ ++ drop 16384 left ≡ zeros 16384 ++ drop 16384 store
cleared-again part store part₂ left h e k past f = cleared-first part₂ left k f ∙ ap (λ (l : List ℕ). zeros 16384 ++ l) (past ∙ cleared_past part store h e)

-- ---- the end

module _ (text rest : List ℕ) (t : Tally) (bytes : List ℕ) (all : AllPassed text rest t bytes) where
  ends : reading text ≡ cond (unrooted all.load.policy) (refused 15 0) (cond (ltb 8192 (states_of all.load.policy)) (refused 16 0) (accepted all.load.policy))
  unfolding finish reading
  ends = ap finish all.passed ∙ rw all.ended

  pub ends_by : (number : ℕ) → number ≡ end_refusal all.load.policy → (number ≡ 0 → reading text ≡ accepted all.load.policy) × ((number ≡ 0 → ⊥) → reading text ≡ refused number 0)
  unfolding end_refusal
  ends_by number e = go (decide (unrooted all.load.policy)) (decide (ltb 8192 (states_of all.load.policy)))
    where
      go : So (unrooted all.load.policy) ⊎ (unrooted all.load.policy ≡ false) → So (ltb 8192 (states_of all.load.policy)) ⊎ (ltb 8192 (states_of all.load.policy) ≡ false) →
          (number ≡ 0 → reading text ≡ accepted all.load.policy) × ((number ≡ 0 → ⊥) → reading text ≡ refused number 0)
      go (inl u) v = let is : number ≡ 15 = e ∙ rw u in (λ z. absurd (omega arith), λ n. ends ∙ rw (u, is))
      go (inr u) (inl v) = let is : number ≡ 16 = e ∙ rw (u, v) in (λ z. absurd (omega arith), λ n. ends ∙ rw (u, v, is))
      go (inr u) (inr v) = let is : number ≡ 0 = e ∙ rw (u, v) in (λ z. ends ∙ rw (u, v), λ n. absurd (n is))

-- ---- cleared, filled, and cleared again where it was refused

module _ (text store : List ℕ) (short : length text ≤ 32768) (room : 16384 ≤ length store) (part left : List ℕ) (e : part ≡ zeros (length (take 16384 store))) (read : Result ⊤ Refused) (f : Filled text (part ++ drop 16384 store) read left) where
  pub filled_room : 16384 ≤ length left
  filled_room = room_kept (f.kept ∙ cleared-length part store room e) room

  pub filled-refused : is_err read ≡ true → (again : List ℕ) → again ≡ zeros (length (take 16384 left)) → LoadedAs text store (refused_number read) (refused_line read) (again ++ drop 16384 left)
  filled-refused n again z = go read f n
    where
      go : (r : Result ⊤ Refused) → Filled text (part ++ drop 16384 store) r left → is_err r ≡ true → LoadedAs text store (refused_number r) (refused_line r) (again ++ drop 16384 left)
      go (Ok x) g n = cc
      go (Err r) g n = loaded-refused text store short room _ _ _ g.stopped (cleared-again part store again left room e filled_room g.past z)

  pub filled-whole : is_err read ≡ false → LoadedAs text store (refused_number read) (refused_line read) left
  filled-whole n = go read f n
    where
      go : (r : Result ⊤ Refused) → Filled text (part ++ drop 16384 store) r left → is_err r ≡ false → LoadedAs text store (refused_number r) (refused_line r) left
      go (Ok x) g n = let P = g.whole.0 in loaded-whole text store short room P left g.whole.1 (g.whole.2 ∙ ap (λ (l : List ℕ). layout P ++ l) (cleared_past part store room e))
      go (Err r) g n = cc
