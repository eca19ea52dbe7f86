-- The cells of a part, as a loop fills them one by one; a byte as a test.
-- Assumes nothing.
use mathlib.Core.Path.{◌≡◌, refl}
use mathlib.Core.Logic.{◌⊎◌, inl, inr}
use mathlib.Core.Bool.{Bool, true, false}
use mathlib.Core.List.{List}
use Prim.Native.Nat.{ℕ, ◌+◌, ◌≤◌, ◌<◌}
use native.Mathlib.Decide.{dec_lt}
use native.Mathlib.Nat.{eq-or-lt_of_le, le_of_suc-le-suc}
use native.Mathlib.Numerals.{add-one}
use native.Mathlib.Omega.{arith}
use lib.ListN.{length, set, length-set}
use lib.Seq.{get_or-set_same, get_or-set_other}
use Rattle.std.specs.Int.{from_bool}
use Rattle.gran.specs.Policy.{Policy}
use Rattle.store.specs.Held.{Loaded}
use Rattle.tables.specs.Tables.{cell}
use Rattle.tables.specs.Regions.{holds, Region}

pub holds_flag : (b : Bool) → holds (from_bool b) ≡ b
unfolding holds
holds_flag true = refl
holds_flag false = refl

module _ (s : List ℕ) (Held : Policy → ℕ → ℕ → Type 0) where
  -- One cell more.
  pub region_more : (n v : ℕ) (part : List ℕ) → Region s Held n part → ((P : Policy) (rest : List ℕ) → Loaded P rest s → Held P n v) → Region s Held (n + 1) (set part n v)
  region_more n v part before here P rest L i h l = go (eq-or-lt_of_le (le_of_suc-le-suc (rw add-one at h)))
    where
      inside : i < length part
      inside = rw length-set at l

      go : (i ≡ n) ⊎ (i < n) → Held P i (cell (set part n v) i)
      go (inl e) = rw (e, get_or-set_same part n v 0 (omega (arith, inside))) (here P rest L)
      go (inr m) = rw (get_or-set_other part n i v 0 (omega arith)) (before P rest L i m inside)

  -- The cells from n on are as they are to be, whatever they hold.
  pub region_past : (n m : ℕ) (part : List ℕ) → Region s Held n part → ((P : Policy) (rest : List ℕ) → Loaded P rest s → (i v : ℕ) → n ≤ i → i < m → Held P i v) → Region s Held m part
  region_past n m part before past P rest L i h l = go (dec_lt i n)
    where
      go : Dec (i < n) → Held P i (cell part i)
      go (yes below) = before P rest L i below l
      go (no above) = past P rest L i (cell part i) (omega arith) h
