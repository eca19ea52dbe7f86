-- Paths as bytes, the names between their slashes, and when one path is under another (document 01, "Names").
-- Assumes nothing.
use Rattle.std.specs.Prelude.{◌≡◌, Bool, true, false, not, cond, ◌&&◌, ◌||◌, List, [], ◌∷◌, ◌++◌, ℕ, eqb, leb, length}

abbrev pub slash : ℕ
slash = 47

-- What may follow a slash (`inside` false) or a byte of a name (true): each name has a byte, and a slash ends it.
abbrev pub spelled : Bool → List ℕ → Bool
spelled inside [] = not inside
spelled inside (b ∷ bs) = cond (eqb b slash) (inside && spelled false bs) (spelled true bs)

-- A path is `/`, or names between slashes with a slash at both ends.
unfoldable pub is_path : List ℕ → Bool
is_path [] = false
is_path (b ∷ bs) = eqb b slash && spelled false bs

-- A byte that a path may hold: not 00; in a policy none of `*`, `?` and `[` either.
unfoldable pub plain : Bool → ℕ → Bool
plain policy b = not (eqb b 0) && not (policy && (eqb b 0x2a || (eqb b 0x3f || eqb b 0x5b)))

-- Each byte is one that a path may hold.
abbrev pub all_plain : Bool → List ℕ → Bool
all_plain policy [] = true
all_plain policy (b ∷ bs) = plain policy b && all_plain policy bs

-- A good path, for a policy or for a start or target: a path of at most 64 bytes, each of which it may hold.
unfoldable pub good_path : Bool → List ℕ → Bool
good_path policy p = leb (length p) 64 && (is_path p && all_plain policy p)

-- The first name gets one more byte in front.
abbrev pub lead : ℕ → List (List ℕ) → List (List ℕ)
lead b [] = []
lead b (n ∷ ns) = (b ∷ n) ∷ ns

-- The names that a slash ends.
abbrev pub ended : List ℕ → List (List ℕ)
ended [] = []
ended (b ∷ bs) = cond (eqb b slash) ([] ∷ ended bs) (lead b (ended bs))

-- The names of a path: those after its first slash.
unfoldable pub names : List ℕ → List (List ℕ)
names [] = []
names (b ∷ bs) = ended bs

-- Two names are the same.
abbrev pub same : List ℕ → List ℕ → Bool
same [] [] = true
same [] (c ∷ cs) = false
same (b ∷ bs) [] = false
same (b ∷ bs) (c ∷ cs) = eqb b c && same bs cs

-- The path `/`.
abbrev pub is_slash : List ℕ → Bool
is_slash p = same p (slash ∷ [])

-- The names qs are the first of the names ps.
abbrev pub first : List (List ℕ) → List (List ℕ) → Bool
first [] ps = true
first (q ∷ qs) [] = false
first (q ∷ qs) (p ∷ ps) = same q p && first qs ps

-- p is under q: q's names are the first names of p.
unfoldable pub under : List ℕ → List ℕ → Bool
under p q = first (names q) (names p)

-- The same as a statement, and the bytes of one path in front of those of another: laws say that these three agree.
unfoldable pub Under : List ℕ → List ℕ → Type 0
Under p q = (rest : List (List ℕ)) × (names p ≡ names q ++ rest)

abbrev pub begins : List ℕ → List ℕ → Bool
begins [] p = true
begins (b ∷ bs) [] = false
begins (b ∷ bs) (c ∷ cs) = eqb b c && begins bs cs
