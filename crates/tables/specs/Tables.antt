-- The tables that a search fills first, in 8,192 bytes, so that it compares no path and scans no list.
-- Choices, subjects and entries are counted here by their places: special roles, users and groups in `choices`, subjects in `paths_of_s`.
-- Assumes nothing.
use Rattle.std.specs.Prelude.{◌≡◌, Bool, not, List, ℕ, ◌+◌, ◌*◌, ◌<◌, eqb, length, get_or}
use Rattle.gran.specs.Lists.{none, place}
use Rattle.gran.specs.Policy.{Policy, USER, GROUP, SPECIAL}
use Rattle.gran.specs.Match.{path_at, paths_of_s, subject_of}
use Rattle.gran.specs.Role.{default_role, may_take}
use Rattle.gran.specs.Access.{grants}
use Rattle.gran.specs.Abstract.{reaches}
use Rattle.gran.specs.Reach.{Question}
use Rattle.runs.specs.Steps.{choices}
use Rattle.lookup.specs.Lookup.{entry_at, InForce, Placed}

-- The byte of a cell, and a cell as a test.
abbrev pub cell : List ℕ → ℕ → ℕ
cell t i = get_or t i 0

unfoldable pub is_set : List ℕ → ℕ → Bool
is_set t i = not (eqb (cell t i) 0)

-- ---- where each cell stands

-- Choices of special role, user and group.
abbrev pub special_cell : ℕ → ℕ
special_cell j = j

abbrev pub user_cell : ℕ → ℕ
user_cell j = 8 + j

abbrev pub group_cell : ℕ → ℕ
group_cell j = 24 + j

-- The path of a subject.
abbrev pub subject_cell : ℕ → ℕ
subject_cell k = 32 + k

-- The subject that a path stands for.
abbrev pub stand_cell : ℕ → ℕ
stand_cell c = 96 + c

-- Whether an entry grants the access to the target.
abbrev pub grant_cell : ℕ → ℕ
grant_cell e = 192 + e

-- Whether a role may take a special role.
abbrev pub take_cell : ℕ → ℕ → ℕ
take_cell r j = 256 + (8 * r + j)

-- The default role.
abbrev pub default_cell : ℕ
default_cell = 496

-- Whether an entry's allowed groups, and users, have one of a choice.
abbrev pub group_reach_cell : ℕ → ℕ → ℕ
group_reach_cell e j = 512 + (8 * e + j)

abbrev pub user_reach_cell : ℕ → ℕ → ℕ
user_reach_cell e j = 1024 + (16 * e + j)

-- The entry in force for a subject in a role.
abbrev pub force_cell : ℕ → ℕ → ℕ
force_cell k r = 2048 + (32 * k + r)

-- The object for a subject in an entry, by its place there.
abbrev pub object_cell : ℕ → ℕ → ℕ
object_cell k e = 4096 + (64 * k + e)

-- ---- what each cell holds

-- The path of subject k.
abbrev pub subject_path_at : Policy → ℕ → List ℕ
subject_path_at P k = path_at P.paths (get_or (paths_of_s P) k none)

pub record Tabled (P : Policy) (q : Question) (t : List ℕ) : Type 0 where
  pub long : length t ≡ 8192
  pub special : (j : ℕ) → j < length (choices P SPECIAL) → cell t (special_cell j) ≡ get_or (choices P SPECIAL) j none
  pub user : (j : ℕ) → j < length (choices P USER) → cell t (user_cell j) ≡ get_or (choices P USER) j none
  pub group : (j : ℕ) → j < length (choices P GROUP) → cell t (group_cell j) ≡ get_or (choices P GROUP) j none
  pub subject : (k : ℕ) → k < length (paths_of_s P) → cell t (subject_cell k) ≡ get_or (paths_of_s P) k none
  pub stand : (c : ℕ) → c < length P.paths → cell t (stand_cell c) ≡ place (eqb (subject_of P (path_at P.paths c))) 0 (paths_of_s P)
  pub grant : (e : ℕ) → e < length P.entries → is_set t (grant_cell e) ≡ grants P q.kind (entry_at P e) q.target
  pub take : (r j : ℕ) → r < length P.roles → j < length (choices P SPECIAL) → is_set t (take_cell r j) ≡ may_take P r (get_or (choices P SPECIAL) j none)
  pub fallback : cell t default_cell ≡ default_role P
  pub group_reach : (e j : ℕ) → e < length P.entries → j < length (choices P GROUP) → is_set t (group_reach_cell e j) ≡ reaches P GROUP (entry_at P e).groups (get_or (choices P GROUP) j none)
  pub user_reach : (e j : ℕ) → e < length P.entries → j < length (choices P USER) → is_set t (user_reach_cell e j) ≡ reaches P USER (entry_at P e).users (get_or (choices P USER) j none)
  pub force : (k r : ℕ) → k < length (paths_of_s P) → r < length P.roles → InForce P r (subject_path_at P k) (cell t (force_cell k r))
  pub object : (k e : ℕ) → k < length (paths_of_s P) → e < length P.entries → Placed P e (subject_path_at P k) (cell t (object_cell k e))
