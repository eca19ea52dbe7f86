-- A policy with one thing more, as each frame adds it (document 01, "The policy as hexadecimal lines").
-- Assumes nothing.
use Rattle.std.specs.Prelude.{List, [], ◌∷◌, ◌++◌, ℕ}
use Rattle.gran.specs.Policy.{Role, Move, Object, Allowed, Entry, Policy}

-- Nothing yet.
abbrev pub no_policy : Policy
no_policy = record { roles = []; paths = []; moves = []; entries = [] }

abbrev pub with_role : Policy → Role → Policy
with_role P r = record { roles = P.roles ++ (r ∷ []); paths = P.paths; moves = P.moves; entries = P.entries }

abbrev pub with_path : Policy → List ℕ → Policy
with_path P p = record { roles = P.roles; paths = P.paths ++ (p ∷ []); moves = P.moves; entries = P.entries }

abbrev pub with_move : Policy → Move → Policy
with_move P m = record { roles = P.roles; paths = P.paths; moves = P.moves ++ (m ∷ []); entries = P.entries }

abbrev pub with_entries : Policy → List Entry → Policy
with_entries P es = record { roles = P.roles; paths = P.paths; moves = P.moves; entries = es }

abbrev pub with_entry : Policy → Entry → Policy
with_entry P e = with_entries P (P.entries ++ (e ∷ []))

-- A mode with no id listed yet.
abbrev pub unlisted : ℕ → Allowed
unlisted mode = record { mode = mode; ids = [] }

-- An entry as its frame gives it, with no object and no id yet.
abbrev pub new_entry : ℕ → ℕ → ℕ → ℕ → ℕ → Entry
new_entry subject role caps users groups = record { role = role; subject = subject; caps = caps; users = unlisted users; groups = unlisted groups; objects = [] }

-- Objects and ids go to the last entry.
unfoldable pub on_last : (Entry → Entry) → List Entry → List Entry
on_last f [] = []
on_last f (e ∷ []) = f e ∷ []
on_last f (e ∷ (g ∷ es)) = e ∷ on_last f (g ∷ es)

abbrev pub listing : Allowed → ℕ → Allowed
listing a n = record { mode = a.mode; ids = a.ids ++ (n ∷ []) }

abbrev pub add_object : Object → Entry → Entry
add_object o e = record { role = e.role; subject = e.subject; caps = e.caps; users = e.users; groups = e.groups; objects = e.objects ++ (o ∷ []) }

abbrev pub add_uid : ℕ → Entry → Entry
add_uid n e = record { role = e.role; subject = e.subject; caps = e.caps; users = listing e.users n; groups = e.groups; objects = e.objects }

abbrev pub add_gid : ℕ → Entry → Entry
add_gid n e = record { role = e.role; subject = e.subject; caps = e.caps; users = e.users; groups = listing e.groups n; objects = e.objects }

abbrev pub with_object : Policy → Object → Policy
with_object P o = with_entries P (on_last (add_object o) P.entries)

abbrev pub with_uid : Policy → ℕ → Policy
with_uid P n = with_entries P (on_last (add_uid n) P.entries)

abbrev pub with_gid : Policy → ℕ → Policy
with_gid P n = with_entries P (on_last (add_gid n) P.entries)
