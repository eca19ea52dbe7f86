-- A store that holds a policy: its length, and the counts that its header states.
-- Assumes nothing.
use mathlib.Core.Path.{◌≡◌, ◌∙◌}
use mathlib.Core.List.{List, ◌++◌, append_assoc}
use Prim.Native.Nat.{ℕ, ◌+◌, ◌*◌, ◌≤◌, ◌<◌}
use native.Mathlib.Nat.{zero-add}
use native.Mathlib.Omega.{arith}
use lib.ListN.{length, get_or, length-append}
use Rattle.gran.specs.Policy.{Policy, USER, GROUP, SPECIAL}
use Rattle.gran.specs.Match.{paths_of_s}
use Rattle.gran.specs.Good.{roles_of}
use Rattle.store.specs.Layout.{two, header, body, layout, moves_at, ids_at, all_ids}
use Rattle.store.specs.Held.{Loaded}
use Rattle.store.proofs.Regions.{header-length, header_lies, layout-length}
use Rattle.store.proofs.Reading.{pool_used}
use Rattle.fields.specs.Fields.{byte_at, role_count, path_count, entry_count, user_count, group_count, special_count, subject_count, move_count, moves_place}
use Rattle.fields.proofs.Bytes.{word_of}

-- the ids lie in the pool, which has 13,436 bytes
pub pool-fits : {P : Policy} {rest s : List ℕ} → Loaded P rest s → ids_at P + 4 * length (all_ids P.entries) ≤ 13436
pool-fits {P} L = omega (arith, pool_used P, L.fits.pool)

module _ {P : Policy} {rest s : List ℕ} (L : Loaded P rest s) where
  pub held : s ≡ header P ++ (body P ++ rest)
  unfolding layout
  held = L.stored ∙ append_assoc (header P) (body P) rest

  pub store_long : 16384 ≤ length s
  store_long = rw (L.stored, length-append (layout P) rest) (omega (arith, layout-length P L.fits))

  header_byte : (i : ℕ) → i < 16 → byte_at s i ≡ get_or (header P) i 0
  header_byte i h = rw (zero-add i) at ((header_lies P (header P) rest s L.fits (header-length P) held).read i h)

  pub role-count : role_count s ≡ length P.roles
  unfolding header
  role-count = header_byte 1 (omega arith)

  pub path-count : path_count s ≡ length P.paths
  unfolding header
  path-count = header_byte 2 (omega arith)

  pub entry-count : entry_count s ≡ length P.entries
  unfolding header
  entry-count = header_byte 3 (omega arith)

  pub user-count : user_count s ≡ length (roles_of P USER)
  unfolding header two
  user-count = header_byte 8 (omega arith)

  pub group-count : group_count s ≡ length (roles_of P GROUP)
  unfolding header two
  group-count = header_byte 9 (omega arith)

  pub special-count : special_count s ≡ length (roles_of P SPECIAL)
  unfolding header two
  special-count = header_byte 10 (omega arith)

  pub subject-count : subject_count s ≡ length (paths_of_s P)
  unfolding header two
  subject-count = header_byte 11 (omega arith)

  pub move-count : move_count s ≡ length P.moves
  unfolding header two
  move-count = header_byte 13 (omega arith)

  pub moves-place : moves_place s ≡ moves_at P
  unfolding header two ids_at
  moves-place = word_of s 14 (moves_at P) (omega (arith, pool-fits L)) (header_byte 14 (omega arith)) (header_byte 15 (omega arith))
