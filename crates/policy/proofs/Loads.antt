-- Every load is sound.
-- Assumes nothing.
use mathlib.Core.Path.{◌≡◌, refl}
use mathlib.Core.List.{List, [], ◌∷◌}
use Prim.Native.Nat.{ℕ, zero, suc}
use native.Mathlib.Omega.{arith}
use Rattle.lines.specs.Line.{decoded}
use Rattle.store.specs.Layout.{all_objects}
use Rattle.store.specs.Held.{last_entry}
use Rattle.policy.specs.Load.{Load, start, after, refusal_of, Progress, going, stopped, step_by, step, run}
use Rattle.policy.specs.Sound.{Sound}
use Rattle.policy.proofs.Refusals.{taken}
use Rattle.policy.proofs.Adding.{sound-after}

abbrev pub SoundProgress : Progress → Type 0
SoundProgress (going s) = Sound s
SoundProgress (stopped n l) = Unit

pub sound-start : Sound start
unfolding all_objects last_entry
sound-start = record {
  policy = record {
    roles = record { good = tt; users_distinct = tt; groups_distinct = tt; few_users = omega arith; few_groups = omega arith; few_specials = omega arith; few_defaults = omega arith };
    paths = record { good = tt; distinct = tt; few = omega arith };
    moves = record { good = tt; distinct = tt };
    entries = record { good = tt; distinct = tt; few = omega arith; few_objects = omega arith };
  };
  no_moves = λ l. refl;
  no_entries = λ l. refl;
  some_entry = λ l h. absurd (omega arith);
  no_gids = λ l. refl;
}

pub sound_line : (s : Load) (line : List ℕ) → Sound s → refusal_of s line ≡ 0 → Sound (after s (decoded line))
sound_line s line sound e = let t = taken s line e in sound-after s (decoded line) sound t.bytes t.passed

sound-step : (p : Progress) (line : List ℕ) → SoundProgress p → SoundProgress (step p line)
unfolding step step_by
sound-step (stopped n l) line h = tt
sound-step (going s) line h = go (refusal_of s line) (sound_line s line h)
  where
    go : (n : ℕ) → (n ≡ 0 → Sound (after s (decoded line))) → SoundProgress (step_by n s line)
    go zero f = f refl
    go (suc n) f = tt

pub sound-run : (p : Progress) (lines : List (List ℕ)) → SoundProgress p → SoundProgress (run p lines)
unfolding run
sound-run p [] h = h
sound-run p (line ∷ lines) h = sound-run (step p line) lines (sound-step p line h)

-- The first refusal stays.
pub run-stopped : (n l : ℕ) (lines : List (List ℕ)) → run (stopped n l) lines ≡ stopped n l
unfolding run step
run-stopped n l [] = refl
run-stopped n l (line ∷ lines) = run-stopped n l lines
