-- Laws of a step's line: its bytes for each kind, and its length.
-- Assumes nothing.
use mathlib.Core.Path.{◌≡◌, ◌∙◌, refl, ap}
use mathlib.Core.Bool.{Bool, true, false, cond}
use mathlib.Core.List.{List, [], ◌∷◌, ◌++◌}
use Prim.Native.Nat.{ℕ, suc, ◌+◌, ◌*◌, ◌≤◌}
use native.Mathlib.Omega.{arith}
use borrow.Author.Tests.{eq-eqb, ne_eqb}
use lib.Dec.{eqb}
use lib.ListN.{length, take, length-append}
use lib.Seq.{take-append_seam}
use Rattle.gran.specs.Policy.{Policy}
use Rattle.gran.specs.Real
use Rattle.gran.specs.Abstract.{Act, real_act}
use Rattle.lines.specs.Line.{line_of}
use Rattle.lines.proofs.Encoding.{line_of-length}
use Rattle.lines.proofs.Rooms.{drop-zeros}
use Rattle.store.specs.Layout.{two, four}
use Rattle.records.specs.Record.{records_of, step_bytes, step_lines, summary, filled}
use Rattle.records.specs.declared.Step.{Step}

-- how many bytes the line of a kind has
abbrev pub size_of : ℕ → ℕ
size_of kind = cond (eqb kind 0x81) 2 (cond (eqb kind 0x82) 5 (cond (eqb kind 0x83) 5 11))

module _ (r : Step) where
  -- ---- the bytes, by kind

  pub special_bytes : r.kind ≡ 0x81 → step_bytes r ≡ r.kind ∷ r.role ∷ []
  unfolding step_bytes
  special_bytes e = rw (eq-eqb _ _ e)

  pub user_bytes : r.kind ≡ 0x82 → step_bytes r ≡ r.kind ∷ four r.uid
  unfolding step_bytes
  user_bytes e = rw e

  pub group_bytes : r.kind ≡ 0x83 → step_bytes r ≡ r.kind ∷ four r.gid
  unfolding step_bytes
  group_bytes e = rw e

  pub exec_bytes : (r.kind ≡ 0x81 → ⊥) → (r.kind ≡ 0x82 → ⊥) → (r.kind ≡ 0x83 → ⊥) → step_bytes r ≡ r.kind ∷ r.object ∷ r.file ∷ (four r.uid ++ four r.gid)
  unfolding step_bytes
  exec_bytes m n o = rw (ne_eqb _ _ m, ne_eqb _ _ n, ne_eqb _ _ o)

  -- ---- the length

  pub step_bytes-length : length (step_bytes r) ≡ size_of r.kind
  unfolding step_bytes four
  step_bytes-length = go (eqb r.kind 0x81) (eqb r.kind 0x82) (eqb r.kind 0x83)
    where
      go : (s u g : Bool) →
          length (cond s (r.kind ∷ r.role ∷ []) (cond u (r.kind ∷ four r.uid) (cond g (r.kind ∷ four r.gid) (r.kind ∷ r.object ∷ r.file ∷ (four r.uid ++ four r.gid)))))
          ≡ cond s 2 (cond u 5 (cond g 5 11))
      go true u g = refl
      go false true g = refl
      go false false true = refl
      go false false false = refl

  pub step_line-length : length (line_of (step_bytes r)) ≡ 2 * size_of r.kind + 1
  step_line-length = line_of-length (step_bytes r) ∙ rw step_bytes-length

size_of_within : (kind : ℕ) → (1 ≤ size_of kind) × (size_of kind ≤ 11)
size_of_within kind = go (eqb kind 0x81) (eqb kind 0x82) (eqb kind 0x83)
  where
    go : (s u g : Bool) → (1 ≤ cond s 2 (cond u 5 (cond g 5 11))) × (cond s 2 (cond u 5 (cond g 5 11)) ≤ 11)
    go true u g = (omega arith, omega arith)
    go false true g = (omega arith, omega arith)
    go false false true = (omega arith, omega arith)
    go false false false = (omega arith, omega arith)

pub step_bytes-some : (r : Step) → 1 ≤ length (step_bytes r)
step_bytes-some r = rw (step_bytes-length r) (size_of_within r.kind).0

pub step_bytes_most : (r : Step) → length (step_bytes r) ≤ 11
step_bytes_most r = rw (step_bytes-length r) (size_of_within r.kind).1

pub step_line_most : (r : Step) → length (line_of (step_bytes r)) ≤ 23
step_line_most r = omega (arith, line_of-length (step_bytes r), step_bytes_most r)

pub step_lines_most : (rs : List Step) → length (step_lines rs) ≤ 23 * length rs
step_lines_most [] = omega arith
step_lines_most (r ∷ rs) = rw (length-append (line_of (step_bytes r)) (step_lines rs)) (omega (arith, step_line_most r, step_lines_most rs))

-- a record for each act
pub records_of-length : (P : Policy) (σ : Real.State) (acts : List Act) → length (records_of P σ acts) ≡ length acts
records_of-length P σ [] = refl
records_of-length P σ (a ∷ acts) = ap suc (records_of-length P (Real.next σ (real_act P σ a)) acts)

pub summary-length : (verdict opened steps : ℕ) → length (summary verdict opened steps) ≡ 13
unfolding summary two
summary-length verdict opened steps = line_of-length _

-- ---- the bytes in the front of 11

module _ (bytes : List ℕ) where
  pub filled_size : (filled bytes).size ≡ length bytes
  unfolding filled
  filled_size = refl

  pub filled_front : take (filled bytes).size (filled bytes).bytes ≡ bytes
  unfolding filled
  filled_front = take-append_seam bytes _

-- What the functions here cite: a line's text and its zeros, and a step's bytes in front of them.
pub ruleset line_laws = (line_of-length, drop-zeros, step_bytes_most, filled_size, filled_front)
