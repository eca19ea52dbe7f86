-- The small facts of document 01 that are marked (P): one table under one statement, computed from the definitions.
-- Assumes nothing.
use mathlib.Core.Path.{◌≡◌, refl}
use mathlib.Core.Bool.{Bool, true, false, not, ◌&&◌}
use mathlib.Core.List.{List, [], ◌∷◌, map}
use Prim.Native.Nat.{ℕ}
use lib.Dec.{eqb}
use Rattle.paths.specs.Path.{names, under}
use Rattle.gran.specs.Lists.{none}
use Rattle.gran.specs.Policy.{Policy, Role, Object, Entry, USER, GROUP, SPECIAL, DEFAULT}
use Rattle.gran.specs.Match.{closer, subjects, objects_of, subject_of, object_in}
use Rattle.gran.specs.Role.{role_of, default_role, chosen, in_force}
use Rattle.gran.specs.Access.{has, sees, asked, grant}
use Rattle.gran.specs.Real
use Rattle.gran.specs.Abstract.{image}

-- ---- names for bytes

abbrev pub root : List ℕ
root = 47 ∷ []

abbrev pub bin : List ℕ
bin = 47 ∷ 98 ∷ 105 ∷ 110 ∷ 47 ∷ []

abbrev su : List ℕ
su = 47 ∷ 98 ∷ 105 ∷ 110 ∷ 47 ∷ 115 ∷ 117 ∷ 47 ∷ []

abbrev binary : List ℕ
binary = 47 ∷ 98 ∷ 105 ∷ 110 ∷ 97 ∷ 114 ∷ 121 ∷ 47 ∷ []

-- ---- small policies

abbrev pub role_with : ℕ → ℕ → Role
role_with k n = record { kind = k; id = n }

abbrev pub object : ℕ → ℕ → Object
object p m = record { path = p; modes = m }

-- an entry with no capability that lets its ids be kept only
abbrev pub entry_with : ℕ → ℕ → List Object → Entry
entry_with r s os = record {
  role = r;
  subject = s;
  caps = 0;
  users = record { mode = 1; ids = [] };
  groups = record { mode = 1; ids = [] };
  objects = os;
}

abbrev roles : Policy
roles = record {
  roles = role_with DEFAULT 0 ∷ role_with USER 1000 ∷ role_with GROUP 100 ∷ role_with SPECIAL 0 ∷ [];
  paths = [];
  moves = [];
  entries = [];
}

abbrev state : ℕ → ℕ → ℕ → Real.State
state s u g = record { special = s; uid = u; gid = g; file = root }

-- subjects by path number, in one role
abbrev with_subjects : List ℕ → Policy
with_subjects ss = record { roles = role_with DEFAULT 0 ∷ []; paths = root ∷ bin ∷ su ∷ []; moves = []; entries = map (λ (s : ℕ). entry_with 0 s (object 0 0 ∷ [])) ss }

-- where an exec of /bin/ leads: to /, /bin/, /bin/su/
abbrev leads : List ℕ → List Object → List Bool
leads ss os = map (λ (s : ℕ). image (with_subjects ss) (entry_with 0 0 os) 1 s) (0 ∷ 1 ∷ 2 ∷ [])

abbrev truths : List Bool → Bool
truths [] = true
truths (b ∷ bs) = b && truths bs

abbrev agree : List Bool → List Bool → Bool
agree [] [] = true
agree [] (c ∷ cs) = false
agree (b ∷ bs) [] = false
agree (true ∷ bs) (c ∷ cs) = c && agree bs cs
agree (false ∷ bs) (c ∷ cs) = not c && agree bs cs

pub facts : truths
    (not (under binary bin)
    ∷ under su bin
    ∷ under root root
    ∷ eqb (Real.role roles (state 3 1000 100)) 3
    ∷ eqb (Real.role roles (state none 1001 100)) 2
    ∷ eqb (Real.role roles (state none 1001 101)) 0
    ∷ agree (leads (0 ∷ 1 ∷ 2 ∷ []) (object 0 4 ∷ object 1 4 ∷ object 2 4 ∷ [])) (false ∷ true ∷ false ∷ [])
    ∷ agree (leads (0 ∷ 1 ∷ 2 ∷ []) (object 0 4 ∷ object 1 4 ∷ [])) (false ∷ true ∷ true ∷ [])
    ∷ agree (leads (0 ∷ 2 ∷ []) (object 0 4 ∷ object 1 4 ∷ [])) (true ∷ false ∷ true ∷ [])
    ∷ not (grant 0 9)
    ∷ not (grant 1 16)
    ∷ []) ≡ true
unfolding names under closer subjects objects_of subject_of object_in role_of default_role chosen in_force has sees asked grant Real.role image
facts = refl
