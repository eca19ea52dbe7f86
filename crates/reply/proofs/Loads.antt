-- A store that a policy was loaded into holds it; and which work areas serve for it.
-- Assumes nothing.
use mathlib.Core.Path.{◌≡◌, sym, ap, ◌∙◌}
use mathlib.Core.List.{List}
use Prim.Native.Nat.{ℕ, ◌*◌, ◌≤◌}
use native.Mathlib.Omega.{arith}
use lib.ListN.{length, drop}
use lib.Seq.{drop_at}
use Rattle.lines.specs.Line.{zeros}
use Rattle.lines.proofs.Rooms.{length-zeros}
use Rattle.gran.specs.Policy.{Policy}
use Rattle.store.specs.Layout.{layout}
use Rattle.store.specs.Held.{Loaded}
use Rattle.store.proofs.Regions.{layout-length}
use Rattle.fields.proofs.Again.{policy-again}
use Rattle.fields.specs.Fields.{policy_in}
use Rattle.numbered.specs.Number.{all_states, sizes_of}
use Rattle.numbered.proofs.Members.{sized}
use Rattle.reply.specs.Reply.{Held, Blank}

pub held_of : {P : Policy} {rest s : List ℕ} → Loaded P rest s → Held s
held_of {P} {rest} {s} L =
    let kept : drop 16384 s ≡ rest = ap (drop 16384) L.stored ∙ drop_at (layout P) rest 16384 (layout-length P L.fits) in
    rw (policy-again L, kept) L

-- No policy has more states than the work area has room for.
pub held_few : {s : List ℕ} → Held s → all_states (sizes_of (policy_in s)) ≤ 8192
held_few {s} h = (sized (policy_in s) h.good).few

pub blank_of : (P : Policy) (size : ℕ) {area : List ℕ} → area ≡ zeros size → 3 * all_states (sizes_of P) ≤ size → Blank P area
blank_of P size {area} e h =
    let long : length area ≡ size = ap length e ∙ length-zeros size in
    record { zero = e ∙ ap zeros (sym long); long = omega arith }
