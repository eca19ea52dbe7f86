-- A replay's outcome, from what its load and the walk of its records say.
-- Assumes nothing.
use mathlib.Core.Path.{◌≡◌, refl, ap}
use mathlib.Core.List.{List}
use Prim.Native.Nat.{ℕ, zero, suc}
use native.Mathlib.Omega.{arith}
use lib.ListN.{length, drop}
use Rattle.policy.specs.Load.{Reading, refused, accepted, reading, settled}
use Rattle.load.proofs.Callers.{loaded-holds}
use Rattle.records.specs.declared.Step.{Step}
use Rattle.ask.specs.Ask.{Asked, early}
use Rattle.replay.specs.declared.Verdict.{Verdict}
use Rattle.replay.specs.Replay.{Replayed as Walked}
use Rattle.leveecrumb.specs.declared.again.Replayed.{Replayed}
use Rattle.leveecrumb.specs.Replaying.{Ended, refusing, telling, ended_by, ended_after, replaying}
use Rattle.leveecrumb.specs.Opening.{opened_after, LoadsAs}
use Rattle.leveecrumb.proofs.Outcomes.{settles}

abbrev pub early_for : List ℕ → Asked → List ℕ → ℕ
early_for text a store = early (length text) (length store) 24576 a

-- The answer and the store are those of one end.
abbrev pub EndsAs : Ended → Replayed → List ℕ → Type 0
EndsAs e r left = (r ≡ e.answer) × (left ≡ e.store)

module _ (text : List ℕ) (a : Asked) (rows : List Step) (store : List ℕ) (number line : ℕ) (left : List ℕ) (o : LoadsAs text a 24576 store number line left) where
  -- A refusal.
  module _ (ne : number ≡ 0 → ⊥) where
    by-reading : (x : Reading) → number ≡ (settled x store).number → line ≡ (settled x store).line → left ≡ (settled x store).bytes → EndsAs (ended_by x a rows store) (refusing number line) left
    unfolding settled
    by-reading (refused n k) p q b = (rw (p, q), b)
    by-reading (accepted P) p q b = absurd (ne p)

    pub ends_refused : EndsAs (replaying text a rows store) (refusing number line) left
    ends_refused = go (early_for text a store) refl o.refusal o.place o.bytes
      where
        go : (e : ℕ) → early_for text a store ≡ e → number ≡ (opened_after e text store).number → line ≡ (opened_after e text store).line → left ≡ (opened_after e text store).bytes → EndsAs (ended_after e text a rows store) (refusing number line) left
        go zero e p q b =
            let loads = settles text a 24576 store e in
            by-reading (reading text) (rw loads at p) (rw loads at q) (rw loads at b)
        go (suc m) e p q b = (rw (p, q), b)

  -- What the records say.
  module _ (z : number ≡ 0) (v : Verdict) (says : Walked left a.start a.target a.uid a.gid a.kind rows v) where
    pub ends_told : EndsAs (replaying text a rows store) (telling v) left
    ends_told = go (early_for text a store) o.refusal o.place o.bytes
      where
        go : (e : ℕ) → number ≡ (opened_after e text store).number → line ≡ (opened_after e text store).line → left ≡ (opened_after e text store).bytes → EndsAs (ended_after e text a rows store) (telling v) left
        go zero p q b =
            let (P, read, L) = loaded-holds text store line left (record { refusal = rw z at p; place = q; bytes = b }) in
            rw read (ap telling (says P (drop 16384 store) L), L.stored)
        go (suc m) p q b = absurd (omega (arith, p, z))
