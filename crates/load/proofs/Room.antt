-- A frame that is not refused, of a text that is short enough, has room: the tallies after it are bounded.
-- Assumes nothing.
use mathlib.Core.Path.{◌≡◌, ◌∙◌, ap}
use mathlib.Core.Bool.{Bool, true, false, cond, ◌||◌, So, false≢true}
use mathlib.Core.List.{List, [], ◌∷◌, ◌++◌}
use Prim.Native.Nat.{ℕ, ◌+◌, ◌*◌, ◌≤◌, ◌<◌}
use native.Mathlib.Omega.{arith}
use borrow.Author.Tests.{leb-false, ne_eqb}
use lib.ListN.{length, length-append}
use Rattle.lines.specs.declared.Frame.{Frame}
use Rattle.lines.specs.Line.{Bytes}
use Rattle.rows.specs.Rows.{joined}
use Rattle.rows.proofs.Tables.{joined_append}
use Rattle.gran.specs.Policy.{Entry, USER, GROUP, SPECIAL, DEFAULT}
use Rattle.gran.specs.Role.{of_kind}
use Rattle.store.specs.declared.Tally.{Tally}
use Rattle.store.specs.Layout.{all_objects, ids_of, all_ids, moves_at}
use Rattle.store.specs.Held.{Bounded, Holds, last_entry, role_tally, path_tally, move_tally, entry_tally, object_tally, uid_tally, gid_tally}
use Rattle.store.specs.Grow.{with_path, with_move, on_last, add_uid, add_gid}
use Rattle.store.proofs.Growing.{only_more, ids_more, last-split, on-last}
use Rattle.policy.specs.Frames.{byte_at, type_of, role_from, path_from, move_from, id_from, is_full}
use Rattle.policy.specs.Load.{Load, add, after}
use Rattle.policy.specs.Sound.{SoundRoles, Sound, Roomy}
use Rattle.gran.proofs.Lists.{length_more}
use Rattle.policy.proofs.Types.{Other, by_type}
use Rattle.policy.proofs.Refusals.{Passed}
use Rattle.policy.proofs.Adding.{sound-after}
use Rattle.load.specs.Step.{next_tally, Ready}
use Rattle.load.proofs.Given.{known, entry_given}

-- of a known kind, what counts as default is default
default_counts : (u g s d : Bool) → So (u || g || s || d) → cond u 0 (cond g 0 (cond s 0 1)) ≤ cond d 1 0
default_counts true g s d t = omega arith
default_counts false true s d t = omega arith
default_counts false false true d t = omega arith
default_counts false false false true t = omega arith
default_counts false false false false t = absurd (false≢true t)

-- the last entry has one id more
ids_one_more : (g : Entry → Entry) → ((e : Entry) → length (ids_of (g e)) ≡ length (ids_of e) + 1) → (es : List Entry) → 0 < length es → length (all_ids (on_last g es)) ≡ length (all_ids es) + 1
ids_one_more g more es some =
    let s = last-split es some in
    let e = last_entry es in
    let was : length (all_ids es) ≡ length (all_ids s.0) + length (ids_of e) = ap length (ap all_ids s.1 ∙ ids_more s.0 e) ∙ length-append (all_ids s.0) (ids_of e) in
    let is : length (all_ids (on_last g es)) ≡ length (all_ids s.0) + length (ids_of (g e)) =
    ap length (ap all_ids (ap (on_last g) s.1 ∙ on-last g s.0 e) ∙ ids_more s.0 (g e)) ∙ length-append (all_ids s.0) (ids_of (g e)) in
    omega (arith, more e)

module _ (s : Load) (f : Frame) (sound : Sound s) (small : Bytes f.bytes) (p : Passed s f) (room : Roomy (add s.policy f))
    (rest : List ℕ) (t : Tally) (bytes : List ℕ) (h : Holds s.policy rest t bytes) (b : Bounded t) where
  role_bounded : type_of f ≡ 0x10 → Bounded (role_tally t (byte_at f 1))
  unfolding after add
  role_bounded e =
      let rs : SoundRoles (s.policy.roles ++ (role_from f ∷ [])) = (rw e at (sound-after s f sound small p).policy).roles in
      record {
        users = omega (arith, h.users, rs.few_users, only_more (of_kind USER) s.policy.roles (role_from f));
        groups = omega (arith, h.groups, rs.few_groups, only_more (of_kind GROUP) s.policy.roles (role_from f));
        specials = omega (arith, h.specials, rs.few_specials, only_more (of_kind SPECIAL) s.policy.roles (role_from f));
        defaults = omega (arith, h.defaults, rs.few_defaults, only_more (of_kind DEFAULT) s.policy.roles (role_from f), default_counts (of_kind USER (role_from f)) (of_kind GROUP (role_from f)) (of_kind SPECIAL (role_from f)) (of_kind DEFAULT (role_from f)) (known s f sound p small e));
        paths = b.paths;
        moves = b.moves;
        entries = b.entries;
        objects = b.objects;
        pool = b.pool;
        last_objects = b.last_objects;
        last_ids = b.last_ids;
      }

  path_bounded : type_of f ≡ 0x20 → Bounded (path_tally t (length (path_from f)))
  unfolding add is_full moves_at
  path_bounded e =
      let more : Roomy (with_path s.policy (path_from f)) = rw e at room in
      let free : length s.policy.paths < 96 = leb-false 96 _ (rw e at p.free) in
      let long : length (joined (s.policy.paths ++ (path_from f ∷ []))) ≡ length (joined s.policy.paths) + length (path_from f) = ap length (joined_append s.policy.paths (path_from f)) ∙ length-append (joined s.policy.paths) (path_from f) in
      let pool : t.bytes + length (path_from f) + 2 * t.moves + 4 * t.ids ≤ 13436 = omega (arith, more.pool, long, h.path_bytes, h.moves, h.ids) in
      omega (arith, h.paths)

  move_bounded : type_of f ≡ 0x30 → Bounded (move_tally t)
  unfolding add moves_at
  move_bounded e =
      let more : Roomy (with_move s.policy (move_from f)) = rw e at room in
      let long = length_more s.policy.moves (move_from f) in
      let moves : t.moves + 1 ≤ 210 = omega (arith, more.moves, h.moves) in
      let pool : t.bytes + 2 * (t.moves + 1) + 4 * t.ids ≤ 13436 = omega (arith, more.pool, h.path_bytes, h.moves, h.ids) in
      omega arith

  -- what belongs to entries changes, and the rest is as it was
  entry_bounded : type_of f ≡ 0x40 → Bounded (entry_tally t (byte_at f 4) (byte_at f 5))
  unfolding is_full
  entry_bounded e = let free : length s.policy.entries < 64 = leb-false 64 _ (rw e at p.free) in omega (arith, h.entries)

  object_bounded : type_of f ≡ 0x41 → Bounded (object_tally t)
  unfolding is_full
  object_bounded e = let free : length (all_objects s.policy.entries) < 512 = leb-false 512 _ (rw e at p.free) in omega (arith, h.objects)

  ids-pool : (g : Entry → Entry) → ((d : Entry) → length (ids_of (g d)) ≡ length (ids_of d) + 1) → 0x40 < type_of f → type_of f ≤ 0x43 → (add s.policy f).entries ≡ on_last g s.policy.entries →
      (add s.policy f).paths ≡ s.policy.paths → (add s.policy f).moves ≡ s.policy.moves → t.bytes + 2 * t.moves + 4 * (t.ids + 1) ≤ 13436
  unfolding moves_at
  ids-pool g more low high e paths moves =
      let ids = ids_one_more g more s.policy.entries (entry_given s f sound p low high) in
      let pool = rw (e, paths, moves) at room.pool in
      omega (arith, h.path_bytes, h.moves, h.ids)

  uid_bounded : type_of f ≡ 0x42 → Bounded (uid_tally t)
  unfolding add ids_of
  uid_bounded e = let pool = ids-pool (add_uid (id_from f)) (λ d. simp length-append (omega arith)) (omega arith) (omega arith) (rw e) (rw e) (rw e) in omega arith

  gid_bounded : type_of f ≡ 0x43 → Bounded (gid_tally t)
  unfolding add ids_of
  gid_bounded e = let pool = ids-pool (add_gid (id_from f)) (λ d. simp length-append (omega arith)) (omega arith) (omega arith) (rw e) (rw e) (rw e) in omega arith

  other_bounded : Other (type_of f) → Bounded (next_tally t f)
  unfolding next_tally
  other_bounded o = rw (ne_eqb _ _ o.not_10, ne_eqb _ _ o.not_20, ne_eqb _ _ o.not_30, ne_eqb _ _ o.not_40, ne_eqb _ _ o.not_41, ne_eqb _ _ o.not_42, ne_eqb _ _ o.not_43) b

  next_bounded : Bounded (next_tally t f)
  unfolding next_tally
  next_bounded =
      by_type (type_of f) (λ e. rw e (role_bounded e)) (λ e. rw e (path_bounded e)) (λ e. rw e (move_bounded e)) (λ e. rw e (entry_bounded e)) (λ e. rw e (object_bounded e)) (λ e. rw e (uid_bounded e)) (λ e. rw e (gid_bounded e)) other_bounded

  pub ready : 1 ≤ f.size → f.size ≤ length f.bytes → Ready t f
  ready some most = record { some = some; most = most; bounded = next_bounded; grouped = λ low high. omega (arith, entry_given s f sound p low high, h.entries) }
