-- A row of cases in one input, each behind its length.
-- Assumes nothing.
use Rattle.std.specs.Prelude.{cond, List, ℕ, ◌+◌, ◌*◌, leb, length, get_or, Option, Some, None}

-- The number in four bytes at a place, big-endian.
abbrev pub size_at : List ℕ → ℕ → ℕ
size_at input at = (get_or input at 0 * 256 + get_or input (at + 1) 0) * 65536 + (get_or input (at + 2) 0 * 256 + get_or input (at + 3) 0)

-- The case whose length stands at a place, where it begins and ends; none, where no whole one is left.
unfoldable pub next_case : List ℕ → ℕ → Option (ℕ × ℕ)
next_case input at = cond (leb (at + 4) (length input)) (cond (leb (at + 4 + size_at input at) (length input)) (Some (at + 4, at + 4 + size_at input at)) None) None
