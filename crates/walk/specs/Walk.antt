-- The search on its memory. The work area has three numbers for each state: number 3k is place k of the queue of the states found, 3n + 1 a mark
-- and 3n + 2 a label for state n. So a search among few states touches its front alone.
-- A mark is 0 until its state is found, then 1 + the queue's place from which it was found; the label is that of the step.
-- Assumes nothing.
use Rattle.std.specs.Prelude.{◌≡◌, Bool, false, cond, List, [], ◌∷◌, ◌++◌, ℕ, zero, suc, ◌+◌, ◌*◌, ◌-◌, ◌≤◌, ◌<◌, eqb, ltb, length, get_or, set, drop}
use Rattle.numbered.specs.Candidates.{Step}

-- The work area, how many states were found, and whether the last of them has the access, which ends the search.
pub record Walk : Type 0 where
  pub area : List ℕ
  pub count : ℕ
  pub met : Bool

-- Place k of the queue, the mark of state n, and its label.
abbrev pub queued : List ℕ → ℕ → ℕ
queued area k = get_or area (3 * k) 0

abbrev pub mark : List ℕ → ℕ → ℕ
mark area n = get_or area (3 * n + 1) 0

abbrev pub labelled : List ℕ → ℕ → ℕ
labelled area n = get_or area (3 * n + 2) 0

-- A work area long enough for so many states, with no mark in it, and a search that has found nothing.
pub record Cleared (all : ℕ) (area : List ℕ) : Type 0 where
  pub long : 3 * all ≤ length area
  pub unmarked : (n : ℕ) → n < 8192 → mark area n ≡ 0

abbrev pub empty : List ℕ → Walk
empty area = record { area = area; count = 0; met = false }

module _ (goal : ℕ → Bool) where
  -- State n goes to the queue's end, found from place p by a step labelled c.
  abbrev pub enter : ℕ → ℕ → ℕ → Walk → Walk
  enter p c n w = record {
    area = set (set (set w.area (3 * w.count) n) (3 * n + 1) (p + 1)) (3 * n + 2) c;
    count = w.count + 1;
    met = goal n;
  }

  -- One step: a state that was not found yet enters.
  unfoldable pub visit : ℕ → ℕ → ℕ → Walk → Walk
  visit p c n w = cond w.met w (cond (eqb (mark w.area n) 0) (enter p c n w) w)

  -- The steps of a list, in order.
  unfoldable pub visits : ℕ → List Step → Walk → Walk
  visits p [] w = w
  visits p (x ∷ xs) w = visits p xs (visit p x.label x.target w)

  module _ (steps : ℕ → List Step) where
    -- The queue's places from p on, until the access is met or none is left; at most `fuel` of them.
    unfoldable pub sweep : ℕ → ℕ → Walk → Walk
    sweep zero p w = w
    sweep (suc fuel) p w =
        let on = sweep fuel (p + 1) (visits p (steps (queued w.area p)) w) in
        cond w.met w (cond (ltb p w.count) on w)

    -- The whole search from a state, in a cleared work area.
    unfoldable pub search : ℕ → List ℕ → Walk
    search start area = sweep 8192 0 (visit 0 0 start (empty area))

-- The queue's places from k back to the start by the marks, k first, the start's own left out.
unfoldable pub trail : List ℕ → ℕ → ℕ → List ℕ
trail area zero k = []
trail area (suc fuel) k =
    let back = k ∷ trail area fuel (mark area (queued area k) - 1) in
    cond (eqb k 0) [] back

-- n numbers were written: these in front, and the rest kept.
pub record Written (xs was is : List ℕ) (n : ℕ) : Type 0 where
  pub size : n ≡ length xs
  pub kept : is ≡ xs ++ drop n was
