-- The kinds of roles by their codes.
-- Assumes nothing.
use Rattle.std.specs.Prelude.{◌≢◌, ◌≡◌, ℕ, Option, MatchOption}
use Rattle.gran.specs.Policy.{USER, GROUP, SPECIAL, DEFAULT}
use Rattle.store.specs.declared.RoleKind.{RoleKind}
use Rattle.store.specs.declared.RoleKind.TheVariants.{User, Group, Special, Default}

-- The model's number of a kind.
abbrev pub kind_code : RoleKind → ℕ
kind_code User = USER
kind_code Group = GROUP
kind_code Special = SPECIAL
kind_code Default = DEFAULT

-- None of the four has this code.
abbrev pub NoKind : ℕ → Type 0
NoKind code = (code ≢ USER) × (code ≢ GROUP) × (code ≢ SPECIAL) × (code ≢ DEFAULT)

-- The kind that has this code, if one has it.
abbrev pub KindOf : ℕ → Option RoleKind → Type 0
KindOf code r = MatchOption r (NoKind code) (λ kind. kind_code kind ≡ code)
