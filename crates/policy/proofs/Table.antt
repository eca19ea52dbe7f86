-- Laws of the frame table, at what is left from a row on.
-- Assumes nothing.
use mathlib.Core.Path.{◌≡◌}
use mathlib.Core.Bool.{false, ◌&&◌}
use mathlib.Core.List.{List}
use Prim.Native.Nat.{ℕ, ◌+◌, ◌≤◌, ◌<◌}
use native.Mathlib.Numerals.{add-one}
use borrow.Author.Tests.{eq-eqb, ne_eqb}
use lib.Dec.{leb}
use lib.ListN.{length, get_or, drop, drop_of_length-le}
use lib.Seq.{drop-cons}
use Rattle.policy.specs.declared.frame.FrameForm.{FrameForm}
use Rattle.policy.specs.Frames.{fits_table}

module _ (table : List FrameForm) (other : FrameForm) (k type size : ℕ) where
  -- The row at k is of another type, or of this one.
  pub other_type : k < length table → ((get_or table k other).code ≡ type → ⊥) → fits_table (drop k table) type size ≡ fits_table (drop (k + 1) table) type size
  unfolding fits_table
  other_type h n = rw (add-one, drop-cons table k other h) (simp (ne_eqb _ _ n))

  pub this_type : k < length table → (get_or table k other).code ≡ type
      → fits_table (drop k table) type size ≡ leb (get_or table k other).shortest size && leb size (get_or table k other).longest
  unfolding fits_table
  this_type h e = rw (drop-cons table k other h) (simp (eq-eqb _ _ e))

  -- No row is left.
  pub no_type : length table ≤ k → fits_table (drop k table) type size ≡ false
  unfolding fits_table
  no_type h = rw (drop_of_length-le table {i = k} h)
