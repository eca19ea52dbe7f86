-- `least_free` meets its contract. The invariant: the least of the candidates passed.
use mathlib.Core.Path.{◌≡◌}
use mathlib.Core.List.{List}
use Prim.Native.Nat.{ℕ, ◌<◌}
use lib.ListN.{length}
use Rattle.gran.specs.Policy.{Policy}
use Rattle.store.specs.Held.{Loaded}
use Rattle.lookup.specs.Lookup.{entry_at}
use Rattle.ids.specs.Ids.{allowed_of, candidate_at, offered, least_of}
use Rattle.ids.proofs.Allowed.least_free.Given as goal

abbrev pub invariant-loop-i : goal.invariant-loop-i
invariant-loop-i l =
    (P : Policy) (rest : List ℕ) → Loaded P rest l.self.store.now → l.self.entry < length P.entries
    → l.least ≡ least_of (offered P l.self.kind (allowed_of l.self.kind (entry_at P l.self.entry)) (candidate_at l.self.store.now l.self.kind l.self.entry)) l.i
