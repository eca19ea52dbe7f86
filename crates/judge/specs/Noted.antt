-- The digests of the paths so far, as marks. No caller of `load` has to believe them: `LoadedAs` says what comes back.
-- Assumes nothing.
use Rattle.std.specs.Prelude.{◌≡◌, true, List, [], ◌∷◌, ℕ, suc, ◌+◌, ◌*◌, ◌%◌, get_or}
use Rattle.paths.specs.Path.{same}
use Rattle.gran.specs.Lists.{any}
use Rattle.gran.specs.Policy.{Policy}

-- The sum of the bytes, each times its place, the first of which is n.
unfoldable pub weighed : ℕ → List ℕ → ℕ
weighed n [] = 0
weighed n (b ∷ bytes) = n * b + weighed (suc n) bytes

-- A path's digest.
unfoldable pub digest_of : List ℕ → ℕ
digest_of path = weighed 1 path % 1024

-- Each path of the policy has its digest marked.
abbrev pub Noted : Policy → List ℕ → Type 0
Noted P marks = (path : List ℕ) → any (same path) P.paths ≡ true → get_or marks (digest_of path) 0 ≡ 0 → ⊥
