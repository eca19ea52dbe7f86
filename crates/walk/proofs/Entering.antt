-- What a state that enters changes in the work area, and what stays.
-- Assumes nothing.
use mathlib.Core.Path.{◌≡◌, ◌∙◌}
use mathlib.Core.List.{List}
use Prim.Native.Nat.{ℕ, suc, ◌+◌, ◌*◌, ◌<◌}
use native.Mathlib.Omega.{arith}
use native.Mathlib.Numerals.{add-one}
use lib.ListN.{length, get_or, set, length-set}
use lib.Seq.{get_or-set_same, get_or-set_other}
use Rattle.walk.specs.Walk.{queued, mark, labelled}

-- State n, found from place p by a step labelled c, where `count` were found.
abbrev pub entered : List ℕ → ℕ → ℕ → ℕ → ℕ → List ℕ
entered area count p c n = set (set (set area (3 * count) n) (3 * n + 1) (p + 1)) (3 * n + 2) c

module _ (area : List ℕ) (count p c n : ℕ) where
  queue₁ : List ℕ
  queue₁ = set area (3 * count) n

  mark₁ : List ℕ
  mark₁ = set queue₁ (3 * n + 1) (p + 1)

  pub entered-length : length (entered area count p c n) ≡ length area
  entered-length = simp length-set

  -- Every other place holds what it held.
  pub entered_other : (i : ℕ) → (i ≡ 3 * count → ⊥) → (i ≡ 3 * n + 1 → ⊥) → (i ≡ 3 * n + 2 → ⊥) → get_or (entered area count p c n) i 0 ≡ get_or area i 0
  unfolding mark₁ queue₁
  entered_other i queue mark label =
      get_or-set_other mark₁ (3 * n + 2) i c 0 label
      ∙ get_or-set_other queue₁ (3 * n + 1) i (p + 1) 0 mark
      ∙ get_or-set_other area (3 * count) i n 0 queue

  pub queue-stays : (k : ℕ) → k < count → queued (entered area count p c n) k ≡ queued area k
  queue-stays k h = entered_other (3 * k) (omega arith) (omega arith) (omega arith)

  pub queue_new : 3 * count < length area → queued (entered area count p c n) count ≡ n
  unfolding mark₁ queue₁
  queue_new room =
      get_or-set_other mark₁ (3 * n + 2) (3 * count) c 0 (omega arith)
      ∙ get_or-set_other queue₁ (3 * n + 1) (3 * count) (p + 1) 0 (omega arith)
      ∙ get_or-set_same area (3 * count) n 0 room

  pub mark-stays : (m : ℕ) → (m ≡ n → ⊥) → mark (entered area count p c n) m ≡ mark area m
  mark-stays m ne = entered_other (3 * m + 1) (omega arith) (λ eq. ne (omega arith)) (omega arith)

  pub mark_new : 3 * n + 1 < length area → mark (entered area count p c n) n ≡ suc p
  unfolding mark₁ queue₁
  mark_new room =
      get_or-set_other mark₁ (3 * n + 2) (3 * n + 1) c 0 (omega arith)
      ∙ get_or-set_same queue₁ (3 * n + 1) (p + 1) 0 (simp length-set room) ∙ add-one p

  pub label-stays : (m : ℕ) → (m ≡ n → ⊥) → labelled (entered area count p c n) m ≡ labelled area m
  label-stays m ne = entered_other (3 * m + 2) (omega arith) (omega arith) (λ eq. ne (omega arith))

  pub label_new : 3 * n + 2 < length area → labelled (entered area count p c n) n ≡ c
  unfolding mark₁ queue₁
  label_new room = get_or-set_same mark₁ (3 * n + 2) c 0 (simp length-set room)
