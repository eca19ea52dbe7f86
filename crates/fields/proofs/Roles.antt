-- Roles and moves, read from a store that holds a policy.
-- Assumes nothing.
use mathlib.Core.Path.{◌≡◌, ◌∙◌}
use mathlib.Core.List.{List}
use Prim.Native.Nat.{ℕ, suc, ◌+◌, ◌*◌, ◌<◌}
use native.Mathlib.Omega.{arith}
use lib.ListN.{length, get_or, get_or-append}
use Rattle.lines.specs.Line.{zeros}
use Rattle.gran.specs.Policy.{Move, Policy}
use Rattle.gran.specs.Role.{no_role}
use Rattle.gran.specs.Good.{GoodRole}
use Rattle.gran.proofs.Lists.{all_at}
use Rattle.store.specs.Layout.{four, role_row, move_row, header, moves_at}
use Rattle.store.specs.Held.{Loaded}
use Rattle.store.proofs.Entries.{four-length}
use Rattle.store.proofs.Regions.{header-length}
use Rattle.store.proofs.Reading.{role_byte, move_byte}
use Rattle.fields.specs.Fields.{byte_at, role_kind, role_id, move_role, move_special}
use Rattle.fields.proofs.Bytes.{long_of}
use Rattle.fields.proofs.Header.{held, moves-place}

module _ {P : Policy} {rest s : List ℕ} (L : Loaded P rest s) (r : ℕ) (h : r < length P.roles) where
  -- byte k of its row, at a place however it is written
  role-at : (k at : ℕ) → k < 22 → at ≡ 16 + 22 * r + k → byte_at s at ≡ get_or (role_row (get_or P.roles r no_role)) k 0
  role-at k at l e =
      let place : at ≡ 16 + (r * 22 + k) = omega arith in
      rw place (role_byte P (header P) rest s L.fits (header-length P) (held L) r k no_role h l)

  pub role-kind : role_kind s r ≡ (get_or P.roles r no_role).kind
  unfolding role_row
  role-kind = role-at 0 (16 + 22 * r) (omega arith) (omega arith)

  pub role-id : role_id s r ≡ (get_or P.roles r no_role).id
  unfolding role_row
  role-id =
      let role = get_or P.roles r no_role in
      long_of s (16 + 22 * r + 1) role.id (omega (arith, (all_at GoodRole P.roles no_role L.good.roles r h).id_range))
      (λ k l. role-at (suc k) (16 + 22 * r + 1 + k) (omega arith) (omega arith) ∙ get_or-append (four role.id) (zeros 17) 0 k (omega (arith, four-length role.id)))

module _ {P : Policy} {rest s : List ℕ} (L : Loaded P rest s) (i : ℕ) (d : Move) (h : i < length P.moves) where
  move_at : (k at : ℕ) → k < 2 → at ≡ 2948 + moves_at P + 2 * i + k → byte_at s at ≡ get_or (move_row (get_or P.moves i d)) k 0
  move_at k at l e =
      let place : at ≡ 2948 + (moves_at P + (i * 2 + k)) = omega arith in
      rw place (move_byte P (header P) rest s L.fits (header-length P) (held L) i k d h l)

  pub move-role : move_role s i ≡ (get_or P.moves i d).role
  unfolding move_row
  move-role = move_at 0 _ (omega arith) (omega (arith, moves-place L))

  pub move-special : move_special s i ≡ (get_or P.moves i d).special
  unfolding move_row
  move-special = move_at 1 _ (omega arith) (omega (arith, moves-place L))
