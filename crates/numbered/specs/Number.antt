-- States as numbers: the places of the four parts, each among its choices, are the digits.
-- Assumes nothing.
use Rattle.std.proofs.Math.Bool.{So}
use Rattle.std.specs.Prelude.{ℕ, ◌+◌, ◌*◌, ◌/◌, ◌%◌, ◌≤◌, ◌<◌, eqb, length, get_or}
use Rattle.gran.specs.Lists.{none, member, place}
use Rattle.gran.specs.Policy.{Policy, USER, GROUP, SPECIAL}
use Rattle.gran.specs.Match.{paths_of_s}
use Rattle.gran.specs.declared.State.{State}
use Rattle.runs.specs.Steps.{choices}
use Rattle.numbered.specs.declared.Sizes.{Sizes}
use Rattle.numbered.specs.declared.Digits.{Digits}

-- How many choices each part has.
unfoldable pub sizes_of : Policy → Sizes
sizes_of P = record {
  specials = length (choices P SPECIAL);
  users = length (choices P USER);
  groups = length (choices P GROUP);
  subjects = length (paths_of_s P);
}

-- How many numbers stand for states.
unfoldable pub all_states : Sizes → ℕ
all_states z = z.specials * z.users * z.groups * z.subjects

-- Sizes that the tables and the work area have room for.
pub record Sized (z : Sizes) : Type 0 where
  pub specials : z.specials ≤ 8
  pub users : (0 < z.users) × (z.users ≤ 16)
  pub groups : (0 < z.groups) × (z.groups ≤ 8)
  pub subjects : (0 < z.subjects) × (z.subjects ≤ 64)
  pub few : all_states z ≤ 8192

-- Each digit is below its size.
pub record Among (z : Sizes) (d : Digits) : Type 0 where
  pub special : d.special < z.specials
  pub user : d.user < z.users
  pub group : d.group < z.groups
  pub subject : d.subject < z.subjects

-- The tables have cells for the digits.
pub record Celled (d : Digits) : Type 0 where
  pub user : d.user < 16
  pub group : d.group < 8
  pub subject : d.subject < 64

-- The number of four digits, and the digits of a number.
unfoldable pub number_of : Sizes → Digits → ℕ
number_of z d = ((d.special * z.users + d.user) * z.groups + d.group) * z.subjects + d.subject

unfoldable pub digits_of : Sizes → ℕ → Digits
digits_of z n = record {
  special = n / z.subjects / z.groups / z.users;
  user = n / z.subjects / z.groups % z.users;
  group = n / z.subjects % z.groups;
  subject = n % z.subjects;
}

-- The places of a state's parts, and the state of such places.
unfoldable pub places_of : Policy → State → Digits
places_of P α = record {
  special = place (eqb α.special) 0 (choices P SPECIAL);
  user = place (eqb α.user) 0 (choices P USER);
  group = place (eqb α.group) 0 (choices P GROUP);
  subject = place (eqb α.subject) 0 (paths_of_s P);
}

unfoldable pub state_with : Policy → Digits → State
state_with P d = record {
  special = get_or (choices P SPECIAL) d.special none;
  user = get_or (choices P USER) d.user none;
  group = get_or (choices P GROUP) d.group none;
  subject = get_or (paths_of_s P) d.subject none;
}

-- A state's number, and the state of a number.
unfoldable pub state_number : Policy → State → ℕ
state_number P α = number_of (sizes_of P) (places_of P α)

unfoldable pub state_numbered : Policy → ℕ → State
state_numbered P n = state_with P (digits_of (sizes_of P) n)

-- Each part of the state is one of its choices.
pub record Inside (P : Policy) (α : State) : Type 0 where
  pub special : So (member α.special (choices P SPECIAL))
  pub user : So (member α.user (choices P USER))
  pub group : So (member α.group (choices P GROUP))
  pub subject : So (member α.subject (paths_of_s P))
