-- The allowed ids of an entry by the kind of their roles, and the least of a row of numbers, as a loop finds it.
-- Assumes nothing.
use Rattle.std.specs.Prelude.{cond, List, ℕ, zero, suc, eqb, ltb}
use Rattle.gran.specs.Policy.{Policy, Allowed, Entry, USER, GROUP, no_id}
use Rattle.gran.specs.Abstract.{is_free}
use Rattle.ids.specs.declared.Ids.{Ids}
use Rattle.ids.specs.declared.Ids.TheVariants.{Users, Groups}
use Rattle.fields.specs.Fields.{row, user_mode, group_mode, uid_count, gid_count, uid_at, gid_at}

-- The kind of the roles that have the ids.
abbrev pub kind_of : Ids → ℕ
kind_of Users = USER
kind_of Groups = GROUP

-- The allowed users of an entry for kind user, else its allowed groups.
abbrev pub allowed_of : ℕ → Entry → Allowed
allowed_of k e = cond (eqb k USER) e.users e.groups

-- The same in the store.
unfoldable pub id_count : List ℕ → ℕ → ℕ → ℕ
id_count s k e = cond (eqb k USER) (uid_count s e) (gid_count s e)

unfoldable pub id_at : List ℕ → ℕ → ℕ → ℕ → ℕ
id_at s k e i = cond (eqb k USER) (uid_at s e i) (gid_at s e i)

abbrev pub allowed_read : List ℕ → ℕ → ℕ → Allowed
allowed_read s k e = record { mode = cond (eqb k USER) (user_mode s e) (group_mode s e); ids = row (id_at s k e) 0 (id_count s k e) }

-- The ids among which the smallest free one is: the listed ones where only those are allowed, else the first 32.
unfoldable pub candidate_count : List ℕ → ℕ → ℕ → ℕ
candidate_count s k e = cond (eqb (allowed_read s k e).mode 1) (id_count s k e) 32

unfoldable pub candidate_at : List ℕ → ℕ → ℕ → ℕ → ℕ
candidate_at s k e i = cond (eqb (allowed_read s k e).mode 1) (id_at s k e i) i

-- Candidate i where it is free, else the id that names nobody.
unfoldable pub offered : Policy → ℕ → Allowed → (ℕ → ℕ) → ℕ → ℕ
offered P k a candidate i = cond (is_free P k a (candidate i)) (candidate i) no_id

abbrev pub lesser : ℕ → ℕ → ℕ
lesser a b = cond (ltb b a) b a

-- The least of the first n of a row of ids.
abbrev pub least_of : (ℕ → ℕ) → ℕ → ℕ
least_of a zero = no_id
least_of a (suc n) = lesser (least_of a n) (a n)
