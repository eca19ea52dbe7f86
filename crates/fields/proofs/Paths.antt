-- Paths, read from a store that holds a policy: the law holds for every number.
-- Assumes nothing.
use mathlib.Core.Path.{◌≡◌, ◌∙◌, sym}
use mathlib.Core.List.{List, [], ◌∷◌, ◌++◌}
use Prim.Native.Nat.{ℕ, ◌+◌, ◌*◌, ◌≤◌, ◌<◌}
use native.Mathlib.Decide.{dec_lt}
use native.Mathlib.Omega.{arith}
use lib.ListN.{length, get_or, take, get_or-eq_default}
use Rattle.rows.specs.Rows.{joined}
use Rattle.gran.specs.Policy.{Policy}
use Rattle.gran.specs.Match.{path_at}
use Rattle.store.specs.Layout.{two, header}
use Rattle.store.specs.Held.{Loaded}
use Rattle.store.proofs.Regions.{header-length}
use Rattle.store.proofs.Reading.{place_byte, path_within, path_part}
use Rattle.fields.specs.Fields.{byte_at, word_at, path_size, path_in}
use Rattle.fields.proofs.Bytes.{word_of, part_inside, path_known, path_unknown}
use Rattle.fields.proofs.Header.{held, store_long, path-count}

module _ {P : Policy} {rest s : List ℕ} (L : Loaded P rest s) (n : ℕ) where
  module _ (h : n < length P.paths) where
    place_at : (k at : ℕ) → k < 3 → at ≡ 676 + 3 * n + k → byte_at s at ≡ get_or (two (length (joined (take n P.paths))) ++ (length (get_or P.paths n []) ∷ [])) k 0
    place_at k at l e =
        let place : at ≡ 676 + (n * 3 + k) = omega arith in
        rw place (place_byte P (header P) rest s L.fits (header-length P) (held L) n k h l)

    within : length (joined (take n P.paths)) + length (get_or P.paths n []) ≤ 13436
    within = path_within P (header P) rest s L.fits (header-length P) (held L) n

    place_read : word_at s (676 + 3 * n) ≡ length (joined (take n P.paths))
    unfolding two
    place_read = word_of s (676 + 3 * n) _ (omega (arith, within)) (place_at 0 _ (omega arith) (omega arith)) (place_at 1 _ (omega arith) (omega arith))

    pub size_read : path_size s n ≡ length (path_at P.paths n)
    unfolding two
    size_read = place_at 2 _ (omega arith) (omega arith)

    known : path_in s n ≡ path_at P.paths n
    known =
        (path_known s n (omega (arith, store_long L, L.fits.paths)) (omega (arith, path-count L))).0
        ∙ rw (place_read, size_read) (part_inside s _ _ (omega (arith, within, store_long L)) ∙ path_part P (header P) rest s L.fits (header-length P) (held L) n)

  pub path_read : path_in s n ≡ path_at P.paths n
  path_read = go (dec_lt n (length P.paths))
    where
      go : Dec (n < length P.paths) → path_in s n ≡ path_at P.paths n
      go (yes h) = known h
      go (no h) =
          let past : length P.paths ≤ n = omega arith in
          (path_unknown s n (omega (arith, path-count L))).0 ∙ sym (get_or-eq_default P.paths [] past)
