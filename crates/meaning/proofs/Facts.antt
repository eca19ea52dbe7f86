-- Two answers read out of the bytes that `listing` prints: to 01's listing, and to the same asked for UID 1001.
-- Assumes nothing.
use mathlib.Core.Path.{◌≡◌, refl}
use mathlib.Core.List.{List, [], ◌∷◌, ◌++◌}
use Prim.Native.Nat.{ℕ}
use Rattle.lines.specs.Line.{line_length, decoded, good_line, hex_pairs, pair_value, hex_value, bytes_of, frame_of, zeros}
use Rattle.policy.specs.Frames.{number2, number4}
use Rattle.replay.specs.Replay.{step_of}
use Rattle.meaning.specs.Read.{step_said, steps_said, said_in}

-- 800100020002, 8102, 840101000003e800000064
abbrev reached : List ℕ
reached =
    (56 ∷ 48 ∷ 48 ∷ 49 ∷ 48 ∷ 48 ∷ 48 ∷ 50 ∷ 48 ∷ 48 ∷ 48 ∷ 50 ∷ 10 ∷ [])
    ++ (56 ∷ 49 ∷ 48 ∷ 50 ∷ 10 ∷ [])
    ++ (56 ∷ 52 ∷ 48 ∷ 49 ∷ 48 ∷ 49 ∷ 48 ∷ 48 ∷ 48 ∷ 48 ∷ 48 ∷ 51 ∷ 101 ∷ 56 ∷ 48 ∷ 48 ∷ 48 ∷ 48 ∷ 48 ∷ 48 ∷ 54 ∷ 52 ∷ 10 ∷ [])

-- 800000010000
abbrev never : List ℕ
never = 56 ∷ 48 ∷ 48 ∷ 48 ∷ 48 ∷ 48 ∷ 48 ∷ 49 ∷ 48 ∷ 48 ∷ 48 ∷ 48 ∷ 10 ∷ []

-- Reached, two states opened: the special role 2, then an exec of path 1 as UID 1000 and GID 100.
pub listing_read : said_in reached ≡ record { verdict = 1; opened = 2; steps = step_of 0x81 2 0 0 0 0 ∷ step_of 0x84 0 1000 100 1 1 ∷ [] }
unfolding line_length decoded good_line hex_pairs pair_value hex_value bytes_of frame_of zeros number2 number4 step_said steps_said
listing_read = refl

-- Never, one state opened, no step.
pub never_read : said_in never ≡ record { verdict = 0; opened = 1; steps = [] }
unfolding line_length decoded good_line hex_pairs pair_value hex_value bytes_of frame_of zeros number2 number4 step_said steps_said
never_read = refl
