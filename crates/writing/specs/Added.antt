-- What each writer promises: the next tallies, and that a policy that was held is held with the new thing added.
-- Assumes nothing.
use Rattle.std.specs.Prelude.{◌≡◌, List, [], ◌∷◌, ◌++◌, ℕ, ◌+◌, ◌*◌, ◌≤◌, ◌<◌, length}
use Rattle.gran.specs.Policy.{Role, Move, Object, Entry, Policy}
use Rattle.gran.specs.Match.{paths_of_s}
use Rattle.gran.specs.Good.{KnownKind}
use Rattle.store.specs.Layout.{two, root_of, layout}
use Rattle.store.specs.Held.{Holds, last_entry, role_tally, path_tally, move_tally, entry_tally, object_tally, uid_tally, gid_tally}
use Rattle.store.specs.Grow.{with_role, with_path, with_move, with_entry, with_object, with_uid, with_gid}
use Rattle.store.specs.declared.Tally.{Tally}

-- From tallies t and bytes `before` to tallies r and bytes `after`: a policy of which `Given` holds has grown.
pub record Added (Given : Policy → Type 0) (grown : Policy → Policy) (t next : Tally) (before : List ℕ) (r : Tally) (after : List ℕ) : Type 0 where
  pub tally : r ≡ next
  pub kept : length after ≡ length before
  pub held : (P : Policy) (rest : List ℕ) → Given P → Holds P rest t before → Holds (grown P) rest r after

-- A role of a known kind.
abbrev pub RoleAdded : Role → Tally → List ℕ → Tally → List ℕ → Type 0
RoleAdded role t = Added (λ (P : Policy). KnownKind role) (λ (P : Policy). with_role P role) t (role_tally t role.kind)

-- A path of at most 64 bytes, before any move and any entry.
abbrev pub PathAdded : List ℕ → Tally → List ℕ → Tally → List ℕ → Type 0
PathAdded path t = Added (λ (P : Policy). (length path ≤ 64) × (P.moves ≡ []) × (P.entries ≡ [])) (λ (P : Policy). with_path P path) t (path_tally t (length path))

-- A move, before any entry.
abbrev pub MoveAdded : Move → Tally → List ℕ → Tally → List ℕ → Type 0
MoveAdded move t = Added (λ (P : Policy). P.entries ≡ []) (λ (P : Policy). with_move P move) t (move_tally t)

-- An entry with no object and no id yet.
abbrev pub EntryAdded : Entry → Tally → List ℕ → Tally → List ℕ → Type 0
EntryAdded e t = Added (λ (P : Policy). Unit) (λ (P : Policy). with_entry P e) t (entry_tally t e.users.mode e.groups.mode)

-- An object in the last entry, whose count is a byte.
abbrev pub ObjectAdded : Object → Tally → List ℕ → Tally → List ℕ → Type 0
ObjectAdded o t = Added (λ (P : Policy). length (last_entry P.entries).objects < 255) (λ (P : Policy). with_object P o) t (object_tally t)

-- A UID in the last entry, before any GID.
abbrev pub UidAdded : ℕ → Tally → List ℕ → Tally → List ℕ → Type 0
UidAdded id t = Added (λ (P : Policy). (length (last_entry P.entries).users.ids < 255) × ((last_entry P.entries).groups.ids ≡ [])) (λ (P : Policy). with_uid P id) t (uid_tally t)

-- A GID in the last entry.
abbrev pub GidAdded : ℕ → Tally → List ℕ → Tally → List ℕ → Type 0
GidAdded id t = Added (λ (P : Policy). length (last_entry P.entries).groups.ids < 255) (λ (P : Policy). with_gid P id) t (gid_tally t)

-- The header by the tallies, the number of `/` and the paths in S.
unfoldable pub header_of : Tally → ℕ → ℕ → List ℕ
header_of t root subjects =
    1 ∷ (t.users + t.groups + t.specials + t.defaults) ∷ t.paths ∷ t.entries
    ∷ (two t.objects
    ++ (two (t.bytes + 2 * t.moves + 4 * t.ids)
    ++ (t.users ∷ t.groups ∷ t.specials ∷ subjects ∷ root ∷ t.moves
    ∷ two t.bytes)))

-- The header was written: with the number of `/` and of the paths in S, the store holds the policy.
pub record Finished (t : Tally) (root subjects : ℕ) (before after : List ℕ) : Type 0 where
  pub kept : length after ≡ length before
  pub stored : (P : Policy) (rest : List ℕ) → Holds P rest t before → root ≡ root_of P → subjects ≡ length (paths_of_s P) → after ≡ layout P ++ rest
