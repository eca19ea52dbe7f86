-- What loading a text gives: a fold over its lines, the tests at its end, and what is left in the store (document 01, the table of refusals).
-- Assumes nothing.
use Rattle.std.specs.Prelude.{◌≡◌, Bool, not, cond, ◌||◌, List, [], ◌∷◌, ◌++◌, ℕ, zero, suc, ◌+◌, ◌-◌, eqb, ltb, length, drop}
use Rattle.lines.specs.declared.Frame.{Frame}
use Rattle.lines.specs.Line.{lines_of, decoded, zeros}
use Rattle.gran.specs.Lists.{any, numbers}
use Rattle.gran.specs.Policy.{Policy, Entry, DEFAULT}
use Rattle.gran.specs.Match.{subjects_of, objects_of}
use Rattle.gran.specs.Role.{of_kind}
use Rattle.gran.specs.Good.{is_root, states_of}
use Rattle.store.specs.Layout.{layout}
use Rattle.store.specs.Grow.{no_policy, with_role, with_path, with_move, with_entry, with_object, with_uid, with_gid}
use Rattle.policy.specs.Frames.{type_of, is_type, role_from, path_from, move_from, entry_from, object_from, id_from, frame_table, fits_table, may_follow, in_range, is_second, is_full, miscounts}

-- ---- one line

-- The policy so far, the type of the last frame, 0 for none, and how many lines there were.
pub record Load : Type 0 where
  pub policy : Policy
  pub last : ℕ
  pub lines : ℕ

-- Nothing yet.
abbrev pub start : Load
start = record { policy = no_policy; last = 0; lines = 0 }

-- The policy with what a frame says; 01 and 7f add nothing.
unfoldable pub add : Policy → Frame → Policy
add P f =
    cond (is_type 0x10 f) (with_role P (role_from f))
    (cond (is_type 0x20 f) (with_path P (path_from f))
    (cond (is_type 0x30 f) (with_move P (move_from f))
    (cond (is_type 0x40 f) (with_entry P (entry_from f))
    (cond (is_type 0x41 f) (with_object P (object_from f))
    (cond (is_type 0x42 f) (with_uid P (id_from f))
    (cond (is_type 0x43 f) (with_gid P (id_from f)) P))))))

-- The lowest refusal of a frame, or 0.
unfoldable pub frame_refusal : Load → Frame → ℕ
frame_refusal s f =
    cond (not (fits_table frame_table (type_of f) (f.size - 1))) 8
    (cond (not (may_follow s.last (type_of f))) 9
    (cond (not (in_range s.policy f)) 10
    (cond (is_second s.policy f) 11
    (cond (is_full s.policy f) 12
    (cond (miscounts s.lines f) 13 0)))))

-- The lowest refusal of a line, or 0: a line of wrong form has no bytes.
unfoldable pub refusal_of : Load → List ℕ → ℕ
refusal_of s line = cond (eqb (decoded line).size 0) 7 (frame_refusal s (decoded line))

-- One frame more.
unfoldable pub after : Load → Frame → Load
after s f = record { policy = add s.policy f; last = type_of f; lines = s.lines + 1 }

-- ---- all lines

-- Loading goes on, or was stopped by a refusal at a line, counted from 1.
pub data Progress : Type 0 where
  going : Load → Progress
  stopped : ℕ → ℕ → Progress

-- A line with this refusal, or with none.
unfoldable pub step_by : ℕ → Load → List ℕ → Progress
step_by zero s line = going (after s (decoded line))
step_by (suc n) s line = stopped (suc n) (s.lines + 1)

-- The first faulty line decides.
unfoldable pub step : Progress → List ℕ → Progress
step (going s) line = step_by (refusal_of s line) s line
step (stopped n l) line = stopped n l

-- The lines one after the other.
unfoldable pub run : Progress → List (List ℕ) → Progress
run p [] = p
run p (line ∷ lines) = run (step p line) lines

-- ---- the end

-- A role, by its number, has no entry for `/`.
unfoldable pub lacks_entry : Policy → ℕ → Bool
lacks_entry P r = not (any (is_root P) (subjects_of P r))

-- An entry has no object `/`.
unfoldable pub lacks_object : Policy → Entry → Bool
lacks_object P e = not (any (is_root P) (objects_of e))

-- No default role, a role without an entry for `/`, an entry without an object `/`.
unfoldable pub unrooted : Policy → Bool
unrooted P =
    not (any (of_kind DEFAULT) P.roles)
    || (any (lacks_entry P) (numbers 0 (length P.roles))
    || any (lacks_object P) P.entries)

-- What a text gives: a refusal with its number and its line, 0 for none, or a policy.
pub data Reading : Type 0 where
  refused : ℕ → ℕ → Reading
  accepted : Policy → Reading

-- After the last line: 14 no 7f, 15, 16 too many states.
unfoldable pub finish : Progress → Reading
finish (stopped n l) = refused n l
finish (going s) =
    cond (not (eqb s.last 0x7f)) (refused 14 0)
    (cond (unrooted s.policy) (refused 15 0)
    (cond (ltb 8192 (states_of s.policy)) (refused 16 0) (accepted s.policy)))

-- From nothing through all lines to the end.
unfoldable pub reading : List ℕ → Reading
reading text = finish (run (going start) (lines_of text))

-- ---- what comes back

-- The refusal, 0 for none, its line, 0 for none, and the store's bytes.
pub record Outcome : Type 0 where
  pub number : ℕ
  pub line : ℕ
  pub bytes : List ℕ

-- 1 and 2 change nothing.
abbrev pub unchanged : ℕ → List ℕ → Outcome
unchanged n store = record { number = n; line = 0; bytes = store }

-- A refusal zeroes the store's first 16,384 bytes; otherwise they hold the loaded policy. What lies beyond is kept.
unfoldable pub settled : Reading → List ℕ → Outcome
settled (refused n l) store = record { number = n; line = l; bytes = zeros 16384 ++ drop 16384 store }
settled (accepted P) store = record { number = 0; line = 0; bytes = layout P ++ drop 16384 store }

-- 1 text too long, 2 store too short, then what the text gives.
unfoldable pub outcome : List ℕ → List ℕ → Outcome
outcome text store =
    cond (ltb 32768 (length text)) (unchanged 1 store)
    (cond (ltb (length store) 16384) (unchanged 2 store) (settled (reading text) store))

-- Loading a text into a store answers a number and a line, and leaves these bytes.
pub record LoadedAs (text store : List ℕ) (number line : ℕ) (left : List ℕ) : Type 0 where
  pub refusal : number ≡ (outcome text store).number
  pub place : line ≡ (outcome text store).line
  pub bytes : left ≡ (outcome text store).bytes
