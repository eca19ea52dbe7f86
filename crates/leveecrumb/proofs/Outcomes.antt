-- The ask's outcome, from what the first refusals, the load and the answer say.
-- Assumes nothing.
use mathlib.Core.Path.{◌≡◌, refl, sym, ◌∙◌}
use mathlib.Core.List.{List, ◌++◌}
use Prim.Native.Nat.{ℕ, zero, suc, ◌≤◌}
use native.Mathlib.Omega.{arith}
use borrow.Author.Tests.{le-ltb}
use lib.ListN.{length, drop}
use Rattle.lines.specs.Line.{zeros}
use Rattle.gran.specs.Policy.{Policy}
use Rattle.store.specs.Held.{Loaded}
use Rattle.fields.specs.Fields.{policy_in}
use Rattle.fields.proofs.Again.{policy-again}
use Rattle.policy.specs.Load.{Reading, refused, accepted, reading, settled, outcome, LoadedAs}
use Rattle.load.proofs.Callers.{loaded-holds}
use Rattle.reply.specs.Reply.{Held, Answers}
use Rattle.reply.proofs.Loads.{held_of}
use Rattle.ask.proofs.Small.{early_lengths}
use Rattle.ask.specs.Ask.{Answer, Refused, Asked, early, Areas, Outcome, Comes, ComesTo}
use Rattle.leveecrumb.specs.Opening.{opened_after, LoadsAs}

-- where none of 1 to 6 holds, loading gives what the text does
pub settles : (text : List ℕ) (a : Asked) (work : ℕ) (store : List ℕ) → early (length text) (length store) work a ≡ 0 → outcome text store ≡ settled (reading text) store
unfolding outcome
settles text a work store e =
    let long = early_lengths (length text) (length store) work a e in
    rw (le-ltb 32768 (length text) long.0, le-ltb (length store) 16384 long.1)

-- ---- the refusals 1 to 6, and the load

module _ (text : List ℕ) (a : Asked) (work : ℕ) (store : List ℕ) (n : ℕ) (is : n ≡ early (length text) (length store) work a) where
  pub loads-early : (n ≡ 0 → ⊥) → LoadsAs text a work store n 0 store
  loads-early ne = go (early (length text) (length store) work a) refl
    where
      go : (e : ℕ) → early (length text) (length store) work a ≡ e → LoadsAs text a work store n 0 store
      go zero q = absurd (ne (is ∙ q))
      go (suc m) q = record { refusal = rw q (is ∙ q); place = rw q; bytes = rw q }

  pub loads-after : n ≡ 0 → (number line : ℕ) (left : List ℕ) → LoadedAs text store number line left → LoadsAs text a work store number line left
  loads-after z number line left l =
      let none : early (length text) (length store) work a ≡ 0 = sym is ∙ z in
      record { refusal = rw none l.refusal; place = rw none l.place; bytes = rw none l.bytes }

-- ---- the outcome, for a work area of this length, of which so many places are cleared

module _ (places work : ℕ) (text : List ℕ) (a : Asked) (lent : Areas) (number line : ℕ) (left : List ℕ) (l : LoadsAs text a work lent.store number line left) where
  abbrev first : ℕ
  first = early (length text) (length lent.store) work a

  module _ (ne : number ≡ 0 → ⊥) where
    abbrev refused_so : Outcome
    refused_so = record { answer = Refused number line; left = record { store = left; work = lent.work; room = lent.room } }

    by-reading : (r : Reading) → number ≡ (settled r lent.store).number → line ≡ (settled r lent.store).line → left ≡ (settled r lent.store).bytes → Comes places r a lent refused_so
    unfolding settled
    by-reading (refused k m) p q b = rw (p, q, b)
    by-reading (accepted P) p q b = absurd (ne p)

    pub comes-refused : ComesTo places first text a lent refused_so
    comes-refused = go first refl l.refusal l.place l.bytes
      where
        go : (e : ℕ) → first ≡ e → number ≡ (opened_after e text lent.store).number → line ≡ (opened_after e text lent.store).line → left ≡ (opened_after e text lent.store).bytes → ComesTo places e text a lent refused_so
        go zero e p q b =
            let loads = settles text a work lent.store e in
            by-reading (reading text) (rw loads at p) (rw loads at q) (rw loads at b)
        go (suc m) e p q b = rw (p, q, b)

  module _ (z : number ≡ 0) where
    passed : first ≡ 0
    passed = go first l.refusal
      where
        go : (e : ℕ) → number ≡ (opened_after e text lent.store).number → e ≡ 0
        go zero p = refl
        go (suc m) p = absurd (omega (arith, p, z))

    loads_so : LoadedAs text lent.store 0 line left
    loads_so = record { refusal = sym z ∙ (rw passed at l.refusal); place = rw passed at l.place; bytes = rw passed at l.bytes }

    pub long_enough : 24576 ≤ work
    long_enough = (early_lengths (length text) (length lent.store) work a passed).2

    -- the store holds a policy
    pub holds_after : Held left
    holds_after = let (P, e, L) = loaded-holds text lent.store line left loads_so in held_of L

    pub comes_answered : (r : Answer) (front room : List ℕ) → front ≡ zeros places → Answers (policy_in left) a lent.room r room
        → ComesTo places first text a lent (record { answer = r; left = record { store = left; work = front ++ drop places lent.work; room = room } })
    comes_answered r front room f d =
        let (P, e, L) = loaded-holds text lent.store line left loads_so in
        rw (passed, e) (go P L (rw (policy-again L) at d))
      where
        go : (P : Policy) → Loaded P (drop 16384 lent.store) left → Answers P a lent.room r room
            → Comes places (accepted P) a lent (record { answer = r; left = record { store = left; work = front ++ drop places lent.work; room = room } })
        go P L d = (d.lines, d.right, rw (d.told.answer, d.told.room, f, L.stored))
