-- What each part of the tables is filled with: what the functions that fill them promise of a loaded store.
-- Assumes nothing.
use Rattle.std.specs.Prelude.{◌≡◌, ◌⊎◌, Bool, not, cond, List, ◌++◌, ℕ, ◌+◌, ◌*◌, ◌/◌, ◌%◌, ◌≤◌, ◌<◌, eqb, length, get_or, take, drop}
use Rattle.std.proofs.Math.Bool.{So}
use Rattle.gran.specs.Lists.{none, place}
use Rattle.gran.specs.Policy.{Policy, USER, GROUP, SPECIAL}
use Rattle.gran.specs.Match.{path_at, paths_of_s, subject_of}
use Rattle.gran.specs.Role.{of_kind, no_role, default_role, may_take}
use Rattle.gran.specs.Access.{grants}
use Rattle.gran.specs.Abstract.{reaches}
use Rattle.gran.specs.Reach.{Question}
use Rattle.runs.specs.Steps.{choices}
use Rattle.store.specs.Held.{Loaded}
use Rattle.lookup.specs.Lookup.{entry_at, Graded, InForce, Placed}
use Rattle.ids.specs.Ids.{kind_of, allowed_of}
use Rattle.tables.specs.Tables.{cell}
use Rattle.tables.specs.declared.Kind.{Kind}
use Rattle.tables.specs.declared.Kind.TheVariants.{Special, Of}

-- A byte as a test.
unfoldable pub holds : ℕ → Bool
holds v = not (eqb v 0)

-- The first `at` cells, and what is still to come, are the list.
pub record Written (whole : List ℕ) (at : ℕ) (part more : List ℕ) : Type 0 where
  pub inside : at ≤ length part
  pub is : take at part ++ more ≡ whole

-- The list stands at the front of a part that has room for it.
abbrev pub Front : List ℕ → List ℕ → Type 0
Front xs part = length xs ≤ length part → take (length xs) part ≡ xs

-- Where the store holds a policy, each of the first n cells of a part is as Held says.
abbrev pub Region : List ℕ → (Policy → ℕ → ℕ → Type 0) → ℕ → List ℕ → Type 0
Region s Held n part = (P : Policy) (rest : List ℕ) → Loaded P rest s → (i : ℕ) → i < n → i < length part → Held P i (cell part i)

-- Cell c: the place among the subjects of the one that path c stands for.
abbrev pub Stands : List ℕ → Policy → ℕ → ℕ → Type 0
Stands subjects P c v = subjects ≡ paths_of_s P → v ≡ place (eqb (subject_of P (path_at P.paths c))) 0 (paths_of_s P)

-- Cell e: entry e grants the access to the file that has the grades.
abbrev pub Grants : ℕ → List ℕ → Policy → ℕ → ℕ → Type 0
Grants kind grades P e v = (f : List ℕ) → Graded P f grades → e < length P.entries → holds v ≡ grants P kind (entry_at P e) f

-- The kind of roles that a choice is of, as the store has it.
abbrev pub role_kind_of : Kind → ℕ
role_kind_of Special = SPECIAL
role_kind_of (Of ids) = kind_of ids

-- The kind of user or group roles, and a choice of a kind: none, or a role of it.
abbrev pub Named : ℕ → Type 0
Named k = (k ≡ USER) ⊎ (k ≡ GROUP)

abbrev pub Choice : Policy → ℕ → ℕ → Type 0
Choice P k r = (r ≡ none) ⊎ ((r < length P.roles) × So (of_kind k (get_or P.roles r no_role)))

-- The first n of a list that has room for the choices of a kind are all of them.
abbrev pub Counted : List ℕ → ℕ → ℕ → ℕ → Type 0
Counted s k room n = (P : Policy) (rest : List ℕ) → Loaded P rest s → length (choices P k) ≤ room → length (choices P k) ≤ n

-- Row a offers the choice c: role a may take the special role c; entry a allows an id that has the user or group role c.
unfoldable pub offers : Policy → ℕ → ℕ → ℕ → Bool
offers P k a c = cond (eqb k SPECIAL) (may_take P a c) (reaches P k (allowed_of k (entry_at P a)) c)

-- How many rows there are.
unfoldable pub rows_for : Policy → ℕ → ℕ
rows_for P k = cond (eqb k SPECIAL) (length P.roles) (length P.entries)

-- Cell i: row i / w offers choice i % w, in rows of w cells, as many as the list has places.
abbrev pub Offers : ℕ → List ℕ → Policy → ℕ → ℕ → Type 0
Offers k cs P i v =
    length (choices P k) ≤ length cs → Front (choices P k) cs → i / length cs < rows_for P k → i % length cs < length (choices P k)
    → holds v ≡ offers P k (i / length cs) (get_or (choices P k) (i % length cs) none)

-- Subject k, which is file f, has its rows: entries in force by role, then, from 2048 on, object places by entry.
pub record Row (P : Policy) (f : List ℕ) (k : ℕ) (part : List ℕ) : Type 0 where
  pub force : (r : ℕ) → r < length P.roles → InForce P r f (cell part (32 * k + r))
  pub object : (e : ℕ) → e < length P.entries → Placed P e f (cell part (2048 + (64 * k + e)))

-- The lists, one behind the other: special roles, users, groups, and the paths of the subjects.
pub record Lists (P : Policy) (part : List ℕ) : Type 0 where
  pub specials : Front (choices P SPECIAL) (take 8 part)
  pub users : Front (choices P USER) (take 16 (drop 8 part))
  pub groups : Front (choices P GROUP) (take 8 (drop 24 part))
  pub subjects : Front (paths_of_s P) (take 64 (drop 32 part))

-- Filling the rows of subject k, which is path c: they are there, and those of other subjects are as before.
pub record RowFilled (s : List ℕ) (c k : ℕ) (before after : List ℕ) : Type 0 where
  pub own : (P : Policy) (rest : List ℕ) → Loaded P rest s → c < length P.paths → Row P (path_at P.paths c) k after
  pub others : (P : Policy) (rest f : List ℕ) → Loaded P rest s → (j : ℕ) → j < 64 → (j ≡ k → ⊥) → Row P f j before → Row P f j after

-- The rows of the first n subjects.
abbrev pub RowsFilled : List ℕ → List ℕ → ℕ → List ℕ → Type 0
RowsFilled s subjects n part =
    (P : Policy) (rest : List ℕ) → Loaded P rest s → subjects ≡ paths_of_s P → (k : ℕ) → k < n → Row P (path_at P.paths (get_or subjects k none)) k part

-- The tests, one behind the other: grants by entry, special roles by role, the default role, groups and users by entry.
pub record Tests (P : Policy) (q : Question) (part : List ℕ) : Type 0 where
  pub grant : (e : ℕ) → e < length P.entries → holds (cell part e) ≡ grants P q.kind (entry_at P e) q.target
  pub take : (r j : ℕ) → r < length P.roles → j < length (choices P SPECIAL) → holds (cell part (64 + (8 * r + j))) ≡ may_take P r (get_or (choices P SPECIAL) j none)
  pub fallback : cell part 304 ≡ default_role P
  pub group : (e j : ℕ) → e < length P.entries → j < length (choices P GROUP) → holds (cell part (320 + (8 * e + j))) ≡ reaches P GROUP (entry_at P e).groups (get_or (choices P GROUP) j none)
  pub user : (e j : ℕ) → e < length P.entries → j < length (choices P USER) → holds (cell part (832 + (16 * e + j))) ≡ reaches P USER (entry_at P e).users (get_or (choices P USER) j none)
