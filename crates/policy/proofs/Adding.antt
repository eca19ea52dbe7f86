-- A frame that is not refused keeps a load sound.
-- Assumes nothing.
use mathlib.Core.Path.{◌≡◌, refl, sym, ◌∙◌}
use Prim.Native.Nat.{ℕ, ◌+◌, ◌≤◌, ◌<◌}
use native.Mathlib.Omega.{arith}
use lib.ListN.{length}
use Rattle.lines.specs.declared.Frame.{Frame}
use Rattle.lines.specs.Line.{Bytes}
use Rattle.gran.specs.Policy.{Entry}
use Rattle.gran.proofs.Lists.{length_more}
use Rattle.store.proofs.Growing.{last_of, changed-length}
use Rattle.store.specs.Grow.{with_entries, on_last, add_object, add_uid, add_gid}
use Rattle.policy.specs.Frames.{type_of, role_from, path_from, move_from, object_from, id_from, in_range, is_second, is_full}
use Rattle.policy.specs.Load.{Load, add, after}
use Rattle.policy.specs.Sound.{SoundEntries, Sound}
use Rattle.policy.proofs.Types.{Other, by_type, add_other}
use Rattle.policy.proofs.Roles.{good-role, sound-role}
use Rattle.policy.proofs.Entries.{last-on_last, sound_no_moves, sound_no_entries, sound_path, sound-move, sound-entry, sound_object, sound_uid, sound_gid}
use Rattle.policy.proofs.Refusals.{Passed, next, last_below, number4_range}

-- The types of a group.
in_no-group : (t : ℕ) → 0x40 ≤ t → t ≤ 0x43 → Other t → ⊥
in_no-group t low high o = omega (arith, o.not_40, o.not_41, o.not_42, o.not_43)

module _ (s : Load) (f : Frame) (sound : Sound s) (small : Bytes f.bytes) (p : Passed s f) where
  sound-10 : type_of f ≡ 0x10 → Sound (after s f)
  unfolding after add in_range is_second is_full
  sound-10 e =
      let l : s.last ≤ 0x10 = last_below s f p 0x10 e (λ x. omega arith) (λ x. omega arith) in
      let good = good-role (role_from f) (number4_range f small 2) (rw e at p.ranged) in
      rw e
      (record {
        policy = record {
          roles = sound-role s.policy (role_from f) sound.policy.roles good (rw e at p.new) (rw e at p.free);
          paths = sound.policy.paths;
          moves = sound_no_moves _ _ (sound.no_moves (omega arith));
          entries = sound_no_entries _ _ _ (sound.no_entries (omega arith));
        };
        no_moves = λ x. sound.no_moves (omega arith);
        no_entries = λ x. sound.no_entries (omega arith);
        some_entry = λ x y. absurd (omega arith);
        no_gids = λ x. sound.no_gids (omega arith);
      })

  sound-20 : type_of f ≡ 0x20 → Sound (after s f)
  unfolding after add in_range is_second is_full
  sound-20 e =
      let l : s.last ≤ 0x20 = last_below s f p 0x20 e (λ x. omega arith) (λ x. omega arith) in
      rw e
      (record {
        policy = record {
          roles = sound.policy.roles;
          paths = sound_path s.policy.paths (path_from f) sound.policy.paths (rw e at p.ranged) (rw e at p.new) (rw e at p.free);
          moves = sound.policy.moves;
          entries = sound_no_entries _ _ _ (sound.no_entries (omega arith));
        };
        no_moves = λ x. sound.no_moves (omega arith);
        no_entries = λ x. sound.no_entries (omega arith);
        some_entry = λ x y. absurd (omega arith);
        no_gids = λ x. sound.no_gids (omega arith);
      })

  sound-30 : type_of f ≡ 0x30 → Sound (after s f)
  unfolding after add in_range is_second is_full
  sound-30 e =
      let l : s.last ≤ 0x30 = last_below s f p 0x30 e (λ x. omega arith) (λ x. omega arith) in
      rw e
      (record {
        policy = record {
          roles = sound.policy.roles;
          paths = sound.policy.paths;
          moves = sound-move s.policy.roles s.policy.moves (move_from f) sound.policy.moves (rw e at p.ranged) (rw e at p.new);
          entries = sound.policy.entries;
        };
        no_moves = λ x. absurd (omega arith);
        no_entries = λ x. sound.no_entries (omega arith);
        some_entry = λ x y. absurd (omega arith);
        no_gids = λ x. sound.no_gids (omega arith);
      })

  sound-40 : type_of f ≡ 0x40 → Sound (after s f)
  unfolding after add in_range is_second is_full
  sound-40 e =
      rw e
      (record {
        policy = record {
          roles = sound.policy.roles;
          paths = sound.policy.paths;
          moves = sound.policy.moves;
          entries = sound-entry s.policy sound.policy f (rw e at p.ranged) (rw e at p.new) (rw e at p.free);
        };
        no_moves = λ x. absurd (omega arith);
        no_entries = λ x. absurd (omega arith);
        some_entry = λ x y. rw length_more (omega arith);
        no_gids = λ x. rw last_of refl;
      })

  -- A frame of a group, for the last entry: its type, and what it makes of the entry.
  module _ (t : ℕ) (e : type_of f ≡ t) (low : 0x40 < t) (high : t ≤ 0x43) (g : Entry → Entry) where
    in_group : after s f ≡ record { policy = with_entries s.policy (on_last g s.policy.entries); last = t; lines = s.lines + 1 }
        → SoundEntries (length s.policy.roles) (length s.policy.paths) (on_last g s.policy.entries)
        → (t < 0x43 → (d : Entry) → (g d).groups ≡ d.groups) → Sound (after s f)
    in_group d entries kept =
        let from : 0x40 ≤ s.last = (next s f p).grouped (rw e low) (λ x. omega (arith, sym e ∙ x)) in
        let to : s.last ≤ t = last_below s f p t e (λ x. omega arith) (λ x. omega arith) in
        rw d
        (record {
          policy = record { roles = sound.policy.roles; paths = sound.policy.paths; moves = sound.policy.moves; entries = entries };
          no_moves = λ x. absurd (omega arith);
          no_entries = λ x. absurd (omega arith);
          some_entry = λ x y. rw changed-length (sound.some_entry from (omega arith));
          no_gids = λ x. rw (last-on_last g (λ (e : Entry). e.groups) (kept x)) (sound.no_gids (omega arith));
        })

  sound-41 : type_of f ≡ 0x41 → Sound (after s f)
  unfolding after add in_range is_second is_full
  sound-41 e =
      in_group 0x41 e (omega arith) (omega arith) (add_object (object_from f)) (rw e)
      (sound_object s.policy sound.policy (object_from f) (rw e at p.ranged) (rw e at p.new) (rw e at p.free))
      (λ x d. refl)

  sound-42 : type_of f ≡ 0x42 → Sound (after s f)
  unfolding after add in_range is_second is_full
  sound-42 e =
      in_group 0x42 e (omega arith) (omega arith) (add_uid (id_from f)) (rw e)
      (sound_uid s.policy sound.policy (id_from f) (number4_range f small 1) (rw e at p.ranged) (rw e at p.new) (rw e at p.free))
      (λ x d. refl)

  sound-43 : type_of f ≡ 0x43 → Sound (after s f)
  unfolding after add in_range is_second is_full
  sound-43 e =
      in_group 0x43 e (omega arith) (omega arith) (add_gid (id_from f)) (rw e)
      (sound_gid s.policy sound.policy (id_from f) (number4_range f small 1) (rw e at p.ranged) (rw e at p.new) (rw e at p.free))
      (λ x d. absurd (omega arith))

  sound_other : Other (type_of f) → Sound (after s f)
  unfolding after
  sound_other o =
      rw (add_other s.policy f o)
      (record {
        policy = sound.policy;
        no_moves = λ x. sound.no_moves (omega (arith, (next s f p).below o.not_40 (λ y. omega arith)));
        no_entries = λ x. sound.no_entries (omega (arith, (next s f p).below o.not_40 (λ y. omega arith)));
        some_entry = λ x y. absurd (in_no-group (type_of f) x y o);
        no_gids = λ x. sound.no_gids (omega (arith, (next s f p).below o.not_40 (λ y. omega arith)));
      })

  pub sound-after : Sound (after s f)
  sound-after = by_type (type_of f) sound-10 sound-20 sound-30 sound-40 sound-41 sound-42 sound-43 sound_other
