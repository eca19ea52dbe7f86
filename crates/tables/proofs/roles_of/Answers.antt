-- `roles_of` meets its contract: the header states how many roles of each kind there are.
use mathlib.Core.Path.{◌∙◌}
use Rattle.fields.proofs.Header.{user-count, group-count, special-count}
use Rattle.tables.proofs.roles_of.Goals as goal

pub returns-in-Special : goal.returns-in-Special
returns-in-Special c P rest L = rw c.in-Special.is (c.special_count.ensures ∙ special-count L)

pub returns-in-Of-Users : goal.returns-in-Of-Users
returns-in-Of-Users c P rest L = let inner = rw c.in-Of-Users.is at c.in-Of-Users.field-0-is in rw (c.in-Of-Users.is, inner) (c.user_count.ensures ∙ user-count L)

pub returns-in-Of-Groups : goal.returns-in-Of-Groups
returns-in-Of-Groups c P rest L = let inner = rw c.in-Of-Groups.is at c.in-Of-Groups.field-0-is in rw (c.in-Of-Groups.is, inner) (c.group_count.ensures ∙ group-count L)
