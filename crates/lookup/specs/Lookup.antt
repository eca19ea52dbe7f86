-- What is looked up in a loaded store, in the model's terms.
-- Assumes nothing.
use Rattle.std.specs.Prelude.{◌≡◌, cond, List, ℕ, ◌+◌, ◌<◌, eqb, length, get_or}
use Rattle.paths.specs.Path.{under}
use Rattle.gran.specs.Lists.{place}
use Rattle.gran.specs.Policy.{Policy, Entry}
use Rattle.gran.specs.Match.{path_at, no_entry, objects_of, object_in, entry_in}

-- How specific path c is for file f: 0 where f is not under it, else one more than its length.
unfoldable pub grade_of : Policy → List ℕ → ℕ → ℕ
grade_of P f c = cond (under f (path_at P.paths c)) (length (path_at P.paths c) + 1) 0

-- The grades of the policy's paths for file f, so that no path is compared again.
abbrev pub Graded : Policy → List ℕ → List ℕ → Type 0
Graded P f grades = (c : ℕ) → c < length P.paths → get_or grades c 0 ≡ grade_of P f c

-- The entry of a number.
abbrev pub entry_at : Policy → ℕ → Entry
entry_at P e = get_or P.entries e no_entry

-- e is the number of the entry in force for file f in role r.
pub record InForce (P : Policy) (r : ℕ) (f : List ℕ) (e : ℕ) : Type 0 where
  pub inside : e < length P.entries
  pub is : entry_at P e ≡ entry_in P r f

-- i is the place in entry e of the object for file f.
pub record Placed (P : Policy) (e : ℕ) (f : List ℕ) (i : ℕ) : Type 0 where
  pub inside : i < length (entry_at P e).objects
  pub is : get_or (objects_of (entry_at P e)) i 255 ≡ object_in P (entry_at P e) f
  pub first : place (eqb (object_in P (entry_at P e) f)) 0 (objects_of (entry_at P e)) ≡ i

-- For file f the entry in force in each role, and the place of the object in each entry.
pub record Rows (P : Policy) (f force places : List ℕ) : Type 0 where
  pub force_is : (r : ℕ) → r < length P.roles → InForce P r f (get_or force r 0)
  pub place_is : (e : ℕ) → e < length P.entries → Placed P e f (get_or places e 0)
