-- What the loops of 84 go through, collected: the subjects of an object's image, and the users and groups that can follow.
-- Assumes nothing.
use Rattle.std.specs.Prelude.{Bool, not, ◌&&◌, List, ◌∷◌, ℕ, ◌+◌, ◌*◌, ◌<◌, eqb, length, get_or}
use Rattle.gran.specs.Lists.{only, numbers}
use Rattle.tables.specs.Tables.{is_set}
use Rattle.numbered.specs.Candidates.{Step, with_group, in_image, by_subject}
use Rattle.numbered.specs.declared.Sizes.{Sizes}
use Rattle.numbered.specs.declared.Digits.{Digits}

-- The first n subjects, those in the image of the object at place i of entry e, whose path is c.
unfoldable pub image_of : List ℕ → ℕ → ℕ → ℕ → ℕ → List ℕ
image_of t e i c n = only (in_image t e i c) (numbers 0 n)

-- Choice j is another than the kept one, and its cell is set.
unfoldable pub is_another : List ℕ → ℕ → ℕ → ℕ → Bool
is_another t cells kept j = not (eqb j kept) && is_set t (cells + j)

-- The kept choice, then the others of the first n.
unfoldable pub followers_of : List ℕ → ℕ → ℕ → ℕ → List ℕ
followers_of t cells n kept = kept ∷ only (is_another t cells kept) (numbers 0 n)

-- The users, and the groups, that can follow when entry e is in force.
abbrev pub users_after : List ℕ → Sizes → Digits → ℕ → List ℕ
users_after t z d e = followers_of t (1024 + 16 * e) z.users d.user

abbrev pub groups_after : List ℕ → Sizes → Digits → ℕ → List ℕ
groups_after t z d e = followers_of t (512 + 8 * e) z.groups d.group

-- Each number of a list is below n.
abbrev pub Below : ℕ → List ℕ → Type 0
Below n xs = (j : ℕ) → j < length xs → get_or xs j 0 < n

-- The steps to group j, of the object at place i of entry e, whose path is c.
abbrev pub to_group : List ℕ → Sizes → Digits → ℕ → ℕ → ℕ → ℕ → List Step
to_group t z d e i c j = by_subject t z (with_group d j) e i c
