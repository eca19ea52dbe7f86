-- What the loops of a search require of the memory and the sizes.
-- Assumes nothing.
use Rattle.std.specs.Prelude.{◌≡◌, Bool, true, false, cond, List, ℕ, zero, suc, ◌+◌, ◌*◌, ◌≤◌, ◌<◌, eqb, length, get_or}
use Rattle.std.proofs.Math.Bool.{So}
use Rattle.gran.specs.Policy.{EXEC}
use Rattle.gran.specs.Access.{sees}
use Rattle.fields.specs.Fields.{object_count, object_path_at, object_modes_at}
use Rattle.tables.specs.Tables.{is_set, group_reach_cell, user_reach_cell}
use Rattle.numbered.specs.Number.{all_states, Sized, Among, number_of}
use Rattle.numbered.specs.Candidates.{in_image}
use Rattle.numbered.specs.declared.Sizes.{Sizes}
use Rattle.numbered.specs.declared.Digits.{Digits}
use Rattle.walk.specs.declared.Progress.{Progress}
use Rattle.walk.specs.Walk.{Walk, queued, mark}

-- The memory: the work area, and the numbers that the code carries.
abbrev pub walk_of : List ℕ → Progress → Walk
walk_of area w = record { area = area; count = w.count; met = w.met }

-- How many of the first n numbers have no mark.
unfoldable pub unmarked : List ℕ → ℕ → ℕ
unmarked area zero = 0
unmarked area (suc n) = cond (eqb (mark area n) 0) 1 0 + unmarked area n

-- The memory of a search: states stand in the queue, as many as there are marks, and only states have marks.
pub record Kept (z : Sizes) (w : Walk) : Type 0 where
  pub long : 3 * all_states z ≤ length w.area
  pub states : (k : ℕ) → k < w.count → queued w.area k < all_states z
  pub each : w.count + unmarked w.area 8192 ≡ 8192
  pub beyond : (n : ℕ) → all_states z ≤ n → n < 8192 → mark w.area n ≡ 0

-- A work area that is zero behind the numbers of so many states.
pub record Rest (all : ℕ) (area : List ℕ) : Type 0 where
  pub long : 3 * all ≤ length area
  pub zero : (i : ℕ) → 3 * all ≤ i → get_or area i 0 ≡ 0

-- A search is at place p of its queue.
pub record Going (z : Sizes) (p : ℕ) (w : Walk) : Type 0 where
  pub kept : Kept z w
  pub place : p < 8192
  pub sized : Sized z

-- Each place of the queue up to k holds one of the states that the area has room for, marked as found from an earlier place.
pub record Rooted (area : List ℕ) (k : ℕ) : Type 0 where
  pub all : ℕ
  pub few : all ≤ 8192
  pub long : 3 * all ≤ length area
  pub within : k < all
  pub small : (j : ℕ) → j ≤ k → queued area j < all
  pub earlier : (j : ℕ) → 0 < j → j ≤ k → (0 < mark area (queued area j)) × (mark area (queued area j) ≤ j)

-- ---- execs that were gone through

-- A number with a mark.
abbrev pub Marked : List ℕ → ℕ → Type 0
Marked area n = mark area n ≡ 0 → ⊥

-- The object at place i of entry e, whose path is c, leads to the digits d, with a user and a group that the entry allows.
pub record Leads (t : List ℕ) (z : Sizes) (e i c : ℕ) (d : Digits) : Type 0 where
  pub among : Among z d
  pub user : So (is_set t (user_reach_cell e d.user))
  pub group : So (is_set t (group_reach_cell e d.group))
  pub subject : So (in_image t e i c d.subject)

-- Every state that the object leads to under special role r was found, or the search is over.
pub record ObjectDone (t : List ℕ) (z : Sizes) (e i c r : ℕ) (w : Walk) : Type 0 where
  pub found : (d : Digits) → d.special ≡ r → Leads t z e i c d → w.met ≡ false → Marked w.area (number_of z d)

-- So for each object of entry e that can be executed.
pub record EntryDone (s t : List ℕ) (z : Sizes) (e r : ℕ) (w : Walk) : Type 0 where
  pub object : (i : ℕ) → i < object_count s e → So (sees (object_modes_at s e i) EXEC) → ObjectDone t z e i (object_path_at s e i) r w

-- The flag of a special role and an entry.
abbrev pub flag_at : ℕ → ℕ → ℕ
flag_at special e = 256 * special + e

-- Where the flag of a special role and an entry is set, every state that the entry's objects lead to under that role was found.
pub record Opened (s t : List ℕ) (z : Sizes) (flags : List Bool) (w : Walk) : Type 0 where
  pub entry : (e r : ℕ) → e < 256 → get_or flags (flag_at r e) false ≡ true → EntryDone s t z e r w
