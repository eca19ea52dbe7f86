-- What holds of a load after every line that is not refused. No reader has to believe it: it is proved of each load.
-- Assumes nothing.
use Rattle.std.specs.Prelude.{◌≡◌, true, List, [], map, ℕ, ◌+◌, ◌*◌, ◌≤◌, ◌<◌, length, get_or}
use Rattle.std.proofs.Math.Bool.{So}
use Rattle.paths.specs.Path.{good_path}
use Rattle.rows.specs.Rows.{joined}
use Rattle.gran.specs.Lists.{only, All, Distinct}
use Rattle.gran.specs.Policy.{Policy, Role, Move, Object, Entry, USER, GROUP, SPECIAL, DEFAULT}
use Rattle.gran.specs.Match.{objects_of}
use Rattle.gran.specs.Role.{of_kind, no_role}
use Rattle.gran.specs.Good.{GoodRole, GoodIds, role_id}
use Rattle.store.specs.Layout.{all_objects, all_ids}
use Rattle.store.specs.Held.{last_entry}
use Rattle.policy.specs.Load.{Load}

-- `Good` of a policy so far, without what only the end decides: a default role, entries and objects for `/`, the count of states.
pub record SoundRoles (rs : List Role) : Type 0 where
  pub good : All GoodRole rs
  pub users_distinct : Distinct (map role_id (only (of_kind USER) rs))
  pub groups_distinct : Distinct (map role_id (only (of_kind GROUP) rs))
  pub few_users : length (only (of_kind USER) rs) ≤ 15
  pub few_groups : length (only (of_kind GROUP) rs) ≤ 7
  pub few_specials : length (only (of_kind SPECIAL) rs) ≤ 7
  pub few_defaults : length (only (of_kind DEFAULT) rs) ≤ 1

pub record SoundPaths (ps : List (List ℕ)) : Type 0 where
  pub good : All (λ (p : List ℕ). So (good_path true p)) ps
  pub distinct : Distinct ps
  pub few : length ps ≤ 96

pub record SoundMove (rs : List Role) (m : Move) : Type 0 where
  pub from : m.role < length rs
  pub to : m.special < length rs
  pub special : So (of_kind SPECIAL (get_or rs m.special no_role))

pub record SoundMoves (rs : List Role) (ms : List Move) : Type 0 where
  pub good : All (SoundMove rs) ms
  pub distinct : Distinct ms

-- Of entries, with so many roles and paths.
pub record SoundObject (paths : ℕ) (o : Object) : Type 0 where
  pub path : o.path < paths
  pub modes : o.modes < 32

pub record SoundEntry (roles paths : ℕ) (e : Entry) : Type 0 where
  pub role : e.role < roles
  pub subject : e.subject < paths
  pub caps : e.caps < 4
  pub users : GoodIds e.users
  pub groups : GoodIds e.groups
  pub objects : All (SoundObject paths) e.objects
  pub distinct : Distinct (objects_of e)

-- The role and the subject path of an entry.
abbrev pub entry_key : Entry → ℕ × ℕ
entry_key e = (e.role, e.subject)

pub record SoundEntries (roles paths : ℕ) (es : List Entry) : Type 0 where
  pub good : All (SoundEntry roles paths) es
  pub distinct : Distinct (map entry_key es)
  pub few : length es ≤ 64
  pub few_objects : length (all_objects es) ≤ 512

pub record SoundPolicy (P : Policy) : Type 0 where
  pub roles : SoundRoles P.roles
  pub paths : SoundPaths P.paths
  pub moves : SoundMoves P.roles P.moves
  pub entries : SoundEntries (length P.roles) (length P.paths) P.entries

-- The order of frames, by the last type: moves and entries come after paths, an object or id has its entry, GIDs come after UIDs.
pub record Sound (s : Load) : Type 0 where
  pub policy : SoundPolicy s.policy
  pub no_moves : s.last < 0x30 → s.policy.moves ≡ []
  pub no_entries : s.last < 0x40 → s.policy.entries ≡ []
  pub some_entry : 0x40 ≤ s.last → s.last ≤ 0x43 → 0 < length s.policy.entries
  pub no_gids : s.last < 0x43 → (last_entry s.policy.entries).groups.ids ≡ []

-- The fewest bytes of text that a policy takes: 3 and two digits a byte for a path, 7 for a move, 13 for an entry, 11 for a listed id.
unfoldable pub least_text : Policy → ℕ
least_text P =
    2 * length (joined P.paths) + 3 * length P.paths
    + 7 * length P.moves
    + 13 * length P.entries
    + 11 * length (all_ids P.entries)

-- No refusal tests these two: a policy of a text of at most 32,768 bytes has at most 210 moves, and room in the pool.
pub record Roomy (P : Policy) : Type 0 where
  pub moves : length P.moves ≤ 210
  pub pool : length (joined P.paths) + 2 * length P.moves + 4 * length (all_ids P.entries) ≤ 13436
