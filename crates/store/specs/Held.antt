-- A policy in the store: what a loader keeps while it goes from line to line, and what it leaves.
-- Assumes nothing.
use Rattle.std.specs.Prelude.{◌≡◌, cond, List, [], ◌∷◌, ◌++◌, ℕ, ◌+◌, ◌*◌, ◌≤◌, eqb, length}
use Rattle.lines.specs.Line.{zeros}
use Rattle.gran.specs.Policy.{Entry, Policy, USER, GROUP, SPECIAL, DEFAULT}
use Rattle.gran.specs.Match.{no_entry}
use Rattle.gran.specs.Good.{Good, roles_of}
use Rattle.store.specs.Layout.{all_objects, all_ids, moves_at, pool, body, layout}
use Rattle.store.specs.declared.Last.{Last}
use Rattle.store.specs.declared.Tally.{Tally}

-- The entry that objects and ids are added to.
unfoldable pub last_entry : List Entry → Entry
last_entry [] = no_entry
last_entry (e ∷ []) = e
last_entry (e ∷ (f ∷ es)) = last_entry (f ∷ es)

-- No table holds more than it may, the pool has room for what is in it, and the last entry has no more than all have.
pub record Bounded (t : Tally) : Type 0 where
  pub users : t.users ≤ 15
  pub groups : t.groups ≤ 7
  pub specials : t.specials ≤ 7
  pub defaults : t.defaults ≤ 1
  pub paths : t.paths ≤ 96
  pub moves : t.moves ≤ 210
  pub entries : t.entries ≤ 64
  pub objects : t.objects ≤ 512
  pub pool : t.bytes + 2 * t.moves + 4 * t.ids ≤ 13436
  pub last_objects : t.last.objects ≤ t.objects
  pub last_ids : t.last.uids + t.last.gids ≤ t.ids

-- The same of a policy: each region has room for what is in it.
pub record Fits (P : Policy) : Type 0 where
  pub roles : length P.roles ≤ 30
  pub paths : length P.paths ≤ 96
  pub entries : length P.entries ≤ 64
  pub objects : length (all_objects P.entries) ≤ 512
  pub pool : length (pool P) ≤ 13436

-- An accepted policy lies in the store; `rest` is what lies past the first 16,384 bytes.
pub record Loaded (P : Policy) (rest bytes : List ℕ) : Type 0 where
  pub good : Good P
  pub fits : Fits P
  pub stored : bytes ≡ layout P ++ rest

-- The tallies and the bytes hold a policy so far; `rest` is what lies past the store's first 16,384 bytes.
pub record Holds (P : Policy) (rest : List ℕ) (t : Tally) (bytes : List ℕ) : Type 0 where
  pub users : t.users ≡ length (roles_of P USER)
  pub groups : t.groups ≡ length (roles_of P GROUP)
  pub specials : t.specials ≡ length (roles_of P SPECIAL)
  pub defaults : t.defaults ≡ length (roles_of P DEFAULT)
  pub roles : t.users + t.groups + t.specials + t.defaults ≡ length P.roles
  pub paths : t.paths ≡ length P.paths
  pub path_bytes : t.bytes ≡ moves_at P
  pub moves : t.moves ≡ length P.moves
  pub entries : t.entries ≡ length P.entries
  pub objects : t.objects ≡ length (all_objects P.entries)
  pub ids : t.ids ≡ length (all_ids P.entries)
  pub last_objects : t.last.objects ≡ length (last_entry P.entries).objects
  pub last_uids : t.last.uids ≡ length (last_entry P.entries).users.ids
  pub last_gids : t.last.gids ≡ length (last_entry P.entries).groups.ids
  pub last_users : t.last.users ≡ (last_entry P.entries).users.mode
  pub last_groups : t.last.groups ≡ (last_entry P.entries).groups.mode
  pub stored : bytes ≡ zeros 16 ++ (body P ++ rest)

-- ---- the tallies at the start, and after one thing more

-- Nothing was loaded yet.
abbrev pub no_tally : Tally
no_tally = record {
  users = 0;
  groups = 0;
  specials = 0;
  defaults = 0;
  paths = 0;
  bytes = 0;
  moves = 0;
  entries = 0;
  objects = 0;
  ids = 0;
  last = record { objects = 0; uids = 0; gids = 0; users = 1; groups = 1 };
}

-- A role more. A kind that is not user, group or special counts as default.
abbrev pub role_tally : Tally → ℕ → Tally
role_tally t kind = record {
  users = t.users + cond (eqb kind USER) 1 0;
  groups = t.groups + cond (eqb kind GROUP) 1 0;
  specials = t.specials + cond (eqb kind SPECIAL) 1 0;
  defaults = t.defaults + cond (eqb kind USER) 0 (cond (eqb kind GROUP) 0 (cond (eqb kind SPECIAL) 0 1));
  paths = t.paths;
  bytes = t.bytes;
  moves = t.moves;
  entries = t.entries;
  objects = t.objects;
  ids = t.ids;
  last = t.last;
}

-- A path more, of this many bytes.
abbrev pub path_tally : Tally → ℕ → Tally
path_tally t size = record {
  users = t.users;
  groups = t.groups;
  specials = t.specials;
  defaults = t.defaults;
  paths = t.paths + 1;
  bytes = t.bytes + size;
  moves = t.moves;
  entries = t.entries;
  objects = t.objects;
  ids = t.ids;
  last = t.last;
}

-- A move more.
abbrev pub move_tally : Tally → Tally
move_tally t = record {
  users = t.users;
  groups = t.groups;
  specials = t.specials;
  defaults = t.defaults;
  paths = t.paths;
  bytes = t.bytes;
  moves = t.moves + 1;
  entries = t.entries;
  objects = t.objects;
  ids = t.ids;
  last = t.last;
}

-- Other tallies of entries; what does not belong to entries is kept.
abbrev pub group_tally : Tally → ℕ → ℕ → ℕ → Last → Tally
group_tally t entries objects ids last = record {
  users = t.users;
  groups = t.groups;
  specials = t.specials;
  defaults = t.defaults;
  paths = t.paths;
  bytes = t.bytes;
  moves = t.moves;
  entries = entries;
  objects = objects;
  ids = ids;
  last = last;
}

-- An entry more, with these modes, and no object and no id yet.
abbrev pub entry_tally : Tally → ℕ → ℕ → Tally
entry_tally t users groups = group_tally t (t.entries + 1) t.objects t.ids (record { objects = 0; uids = 0; gids = 0; users = users; groups = groups })

-- Other counts of the last entry; its modes are kept.
abbrev pub last_tally : Last → ℕ → ℕ → ℕ → Last
last_tally l objects uids gids = record { objects = objects; uids = uids; gids = gids; users = l.users; groups = l.groups }

-- An object more in the last entry.
abbrev pub object_tally : Tally → Tally
object_tally t = group_tally t t.entries (t.objects + 1) t.ids (last_tally t.last (t.last.objects + 1) t.last.uids t.last.gids)

-- A UID more in the last entry.
abbrev pub uid_tally : Tally → Tally
uid_tally t = group_tally t t.entries t.objects (t.ids + 1) (last_tally t.last t.last.objects (t.last.uids + 1) t.last.gids)

-- A GID more in the last entry.
abbrev pub gid_tally : Tally → Tally
gid_tally t = group_tally t t.entries t.objects (t.ids + 1) (last_tally t.last t.last.objects t.last.uids (t.last.gids + 1))
