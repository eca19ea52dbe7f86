-- What a frame that is not refused gives to its writer: a known kind, a short path, the order of frames, counts that are bytes.
-- Assumes nothing.
use mathlib.Core.Path.{◌≡◌}
use mathlib.Core.List.{List, [], ◌∷◌}
use Prim.Native.Nat.{ℕ, ◌≤◌, ◌<◌}
use native.Mathlib.Omega.{arith}
use borrow.Author.Tests.{leb-false}
use lib.ListN.{length, length-map}
use Rattle.paths.proofs.Paths.{good_short}
use Rattle.lines.specs.declared.Frame.{Frame}
use Rattle.lines.specs.Line.{Bytes}
use Rattle.gran.specs.Lists.{All}
use Rattle.gran.specs.Policy.{Object, Entry}
use Rattle.gran.specs.Match.{object_path, objects_of}
use Rattle.gran.proofs.Counting.{few_below}
use Rattle.store.specs.Held.{last_entry}
use Rattle.gran.specs.Good.{KnownKind}
use Rattle.policy.specs.Frames.{type_of, role_from, path_from, in_range, is_full}
use Rattle.policy.specs.Load.{Load}
use Rattle.policy.specs.Sound.{SoundObject, SoundEntry, Sound}
use Rattle.policy.proofs.More.{all_imply, all_map}
use Rattle.policy.proofs.Roles.{good-role}
use Rattle.policy.proofs.Refusals.{Passed, next, last_below, number4_range}

-- an entry has no more objects than there are paths
few_objects : (roles paths : ℕ) (es : List Entry) → All (SoundEntry roles paths) es → length (last_entry es).objects ≤ paths
unfolding last_entry objects_of
few_objects roles paths [] h = omega arith
few_objects roles paths (e ∷ []) h =
    omega (arith, length-map e.objects object_path, few_below paths (objects_of e) (all_map object_path (λ (n : ℕ). n < paths) e.objects (all_imply (SoundObject paths) (λ (o : Object). o.path < paths) (λ o s. s.path) e.objects h.0.objects)) h.0.distinct)
few_objects roles paths (e ∷ (g ∷ es)) h = few_objects roles paths (g ∷ es) h.1

module _ (s : Load) (f : Frame) (sound : Sound s) (p : Passed s f) where
  pub known : Bytes f.bytes → type_of f ≡ 0x10 → KnownKind (role_from f)
  unfolding in_range
  known small e = (good-role (role_from f) (number4_range f small 2) (rw e at p.ranged)).known

  pub path_given : type_of f ≡ 0x20 → (length (path_from f) ≤ 64) × (s.policy.moves ≡ []) × (s.policy.entries ≡ [])
  unfolding in_range
  path_given e =
      let l : s.last ≤ 0x20 = last_below s f p 0x20 e (λ x. omega arith) (λ x. omega arith) in
      (good_short _ (path_from f) (rw e at p.ranged), sound.no_moves (omega arith), sound.no_entries (omega arith))

  pub move_given : type_of f ≡ 0x30 → s.policy.entries ≡ []
  move_given e = let l : s.last ≤ 0x30 = last_below s f p 0x30 e (λ x. omega arith) (λ x. omega arith) in sound.no_entries (omega arith)

  pub object_given : length (last_entry s.policy.entries).objects < 255
  object_given = omega (arith, few_objects _ _ s.policy.entries sound.policy.entries.good, sound.policy.paths.few)

  pub uid_given : type_of f ≡ 0x42 → (length (last_entry s.policy.entries).users.ids < 255) × ((last_entry s.policy.entries).groups.ids ≡ [])
  unfolding is_full
  uid_given e =
      let l : s.last ≤ 0x42 = last_below s f p 0x42 e (λ x. omega arith) (λ x. omega arith) in
      (omega (arith, leb-false 16 (length (last_entry s.policy.entries).users.ids) (rw e at p.free)), sound.no_gids (omega arith))

  pub gid_given : type_of f ≡ 0x43 → length (last_entry s.policy.entries).groups.ids < 255
  unfolding is_full
  gid_given e = omega (arith, leb-false 16 (length (last_entry s.policy.entries).groups.ids) (rw e at p.free))

  -- an object or id has its entry
  pub entry_given : 0x40 < type_of f → type_of f ≤ 0x43 → 0 < length s.policy.entries
  entry_given low high = sound.some_entry ((next s f p).grouped low (λ x. omega arith)) (omega (arith, (next s f p).below (λ x. omega arith) (λ x. omega arith)))
