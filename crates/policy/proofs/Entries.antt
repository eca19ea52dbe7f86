-- One path, move or entry more, and one object or id more in the last entry.
-- Assumes nothing.
use mathlib.Core.Path.{◌≡◌, refl, sym, ap}
use mathlib.Core.Bool.{true, false, not, ◌&&◌, So}
use mathlib.Core.List.{List, [], ◌∷◌, ◌++◌, map, append-nil}
use Prim.Native.Nat.{ℕ, suc, ◌≤◌, ◌<◌}
use native.Mathlib.Omega.{arith}
use borrow.Author.Tests.{leb-true, leb-false, ltb-true, eqb-false, not-true}
use lib.Dec.{eqb, leb, ltb}
use lib.ListN.{length, length-append}
use Rattle.paths.specs.Path.{good_path, same}
use Rattle.paths.proofs.Bools.{both, left, right, eqb_of, parts₅}
use Rattle.paths.proofs.Paths.{same_refl}
use Rattle.lines.specs.declared.Frame.{Frame}
use Rattle.gran.specs.Lists.{any, member, All}
use Rattle.gran.specs.Policy.{Policy, Role, Move, Object, Allowed, Entry, no_id}
use Rattle.gran.specs.Match.{is_entry, object_path, objects_of}
use Rattle.gran.specs.Role.{is_move}
use Rattle.gran.specs.Good.{GoodIds}
use Rattle.gran.proofs.Lists.{length_more}
use Rattle.store.specs.Layout.{all_objects}
use Rattle.store.specs.Held.{last_entry}
use Rattle.store.specs.Grow.{unlisted, on_last, listing, add_object, add_uid, add_gid}
use Rattle.store.proofs.Growing.{objects_more, changed-length}
use Rattle.policy.specs.Frames.{good_move, good_entry, good_object, good_id, byte_at, entry_from}
use Rattle.policy.specs.Sound.{SoundPaths, SoundMove, SoundMoves, SoundObject, SoundEntry, SoundEntries, SoundPolicy, entry_key}
use Rattle.policy.proofs.More.{map_more, all_more, all_map, all_apart, distinct_more}

-- ---- the last entry

module _ (g : Entry → Entry) where
  -- What holds of all entries still does, where it does of the changed one.
  all-on_last : (Q : Entry → Type 0) (es : List Entry) → All Q es → (Q (last_entry es) → Q (g (last_entry es))) → All Q (on_last g es)
  unfolding on_last last_entry
  all-on_last Q [] h f = tt
  all-on_last Q (e ∷ []) h f = (f h.0, tt)
  all-on_last Q (e ∷ (d ∷ es)) h f = (h.0, all-on_last Q (d ∷ es) h.1 f)

  module _ {B : Type 0} (key : Entry → B) (kept : (e : Entry) → key (g e) ≡ key e) where
    -- What the change keeps of an entry, the row of entries keeps, and the last one.
    map-on_last : (es : List Entry) → map key (on_last g es) ≡ map key es
    unfolding on_last
    map-on_last [] = refl
    map-on_last (e ∷ []) = ap (λ (b : B). b ∷ []) (kept e)
    map-on_last (e ∷ (d ∷ es)) = ap (λ (bs : List B). key e ∷ bs) (map-on_last (d ∷ es))

    pub last-on_last : (es : List Entry) → key (last_entry (on_last g es)) ≡ key (last_entry es)
    unfolding on_last last_entry
    last-on_last [] = refl
    last-on_last (e ∷ []) = kept e
    last-on_last (e ∷ (d ∷ [])) = kept d
    last-on_last (e ∷ (d ∷ (c ∷ es))) = last-on_last (d ∷ (c ∷ es))

longer : (xs ys zs : List Object) → length ys ≤ suc (length zs) → length (xs ++ ys) ≤ suc (length (xs ++ zs))
longer xs ys zs h = simp length-append (omega arith)

object_more : (o : Object) (es : List Entry) → length (all_objects (on_last (add_object o) es)) ≤ suc (length (all_objects es))
unfolding all_objects on_last
object_more o [] = omega arith
object_more o (e ∷ []) = simp length-append (omega arith)
object_more o (e ∷ (d ∷ es)) = longer e.objects (all_objects (on_last (add_object o) (d ∷ es))) (all_objects (d ∷ es)) (object_more o (d ∷ es))

objects-same : (g : Entry → Entry) → ((e : Entry) → (g e).objects ≡ e.objects) → (es : List Entry) → all_objects (on_last g es) ≡ all_objects es
unfolding all_objects on_last
objects-same g kept [] = refl
objects-same g kept (e ∷ []) = rw (kept e)
objects-same g kept (e ∷ (d ∷ es)) = ap (λ (os : List Object). e.objects ++ os) (objects-same g kept (d ∷ es))

-- ---- the parts of an entry

pub good-unlisted : (mode : ℕ) → mode ≤ 2 → GoodIds (unlisted mode)
good-unlisted mode h = record { mode = h; range = tt; distinct = tt; few = omega arith; none_listed = λ z. refl }

good-listing : (a : Allowed) (n : ℕ) → n ≤ no_id → GoodIds a → So (good_id a n) → member n a.ids ≡ false → leb 16 (length a.ids) ≡ false → GoodIds (listing a n)
unfolding good_id
good-listing a n h good t new free =
    let other : n ≡ no_id → ⊥ = eqb-false n no_id (not-true _ (left _ _ t)) in
    let listed : a.mode ≡ 0 → ⊥ = eqb-false a.mode 0 (not-true _ (right (not (eqb n no_id)) _ t)) in
    record {
      mode = good.mode;
      range = all_more (λ (m : ℕ). m < no_id) a.ids n good.range (omega arith);
      distinct = distinct_more a.ids n good.distinct (all_apart (λ (m : ℕ). m) n (eqb n) (λ m e. eqb_of (sym e)) a.ids new);
      few = rw length_more (leb-false 16 (length a.ids) free);
      none_listed = λ z. absurd (listed z);
    }

-- An object more.
sound-add_object : (roles paths : ℕ) (o : Object) (e : Entry) → SoundObject paths o → member o.path (objects_of e) ≡ false
    → SoundEntry roles paths e → SoundEntry roles paths (add_object o e)
unfolding objects_of
sound-add_object roles paths o e good new sound = record {
  role = sound.role;
  subject = sound.subject;
  caps = sound.caps;
  users = sound.users;
  groups = sound.groups;
  objects = all_more (SoundObject paths) e.objects o sound.objects good;
  distinct = rw map_more (distinct_more (map object_path e.objects) o.path sound.distinct (all_apart (λ (m : ℕ). m) o.path (eqb o.path) (λ m d. eqb_of (sym d)) (map object_path e.objects) new));
}

-- Other allowed ids.
sound_ids : (roles paths : ℕ) (e : Entry) {users groups : Allowed} → GoodIds users → GoodIds groups → SoundEntry roles paths e
    → SoundEntry roles paths (record { role = e.role; subject = e.subject; caps = e.caps; users = users; groups = groups; objects = e.objects })
unfolding objects_of
sound_ids roles paths e users groups sound = record {
  role = sound.role;
  subject = sound.subject;
  caps = sound.caps;
  users = users;
  groups = groups;
  objects = sound.objects;
  distinct = sound.distinct;
}

-- ---- moves and entries, none yet; paths, moves and entries with one more

pub sound_no_moves : (rs : List Role) (ms : List Move) → ms ≡ [] → SoundMoves rs ms
sound_no_moves rs ms e = rw e (record { good = tt; distinct = tt })

pub sound_no_entries : (roles paths : ℕ) (es : List Entry) → es ≡ [] → SoundEntries roles paths es
unfolding all_objects
sound_no_entries roles paths es e = rw e (record { good = tt; distinct = tt; few = omega arith; few_objects = omega arith })

pub sound_path : (ps : List (List ℕ)) (p : List ℕ) → SoundPaths ps → So (good_path true p) → any (same p) ps ≡ false → leb 96 (length ps) ≡ false → SoundPaths (ps ++ p ∷ [])
sound_path ps p sound good new free = record {
  good = all_more (λ (q : List ℕ). So (good_path true q)) ps p sound.good good;
  distinct = distinct_more ps p sound.distinct (all_apart (λ (q : List ℕ). q) p (same p) (λ q e. rw e (same_refl p)) ps new);
  few = rw length_more (leb-false 96 (length ps) free);
}

pub sound-move : (rs : List Role) (ms : List Move) (m : Move) → SoundMoves rs ms → So (good_move rs m) → any (is_move m.role m.special) ms ≡ false → SoundMoves rs (ms ++ m ∷ [])
unfolding good_move
sound-move rs ms m sound good new = record {
  good = all_more (SoundMove rs) ms m sound.good named;
  distinct = distinct_more ms m sound.distinct (all_apart (λ (x : Move). x) m (is_move m.role m.special) again ms new);
}
  where
    again : (x : Move) → x ≡ m → So (is_move m.role m.special x)
    again x e = both (eqb_of (ap (λ (y : Move). y.role) e)) (eqb_of (ap (λ (y : Move). y.special) e))

    named : SoundMove rs m
    named =
        let from = ltb m.role (length rs) in
        let to = ltb m.special (length rs) in
        let there = left (from && to) _ good in
        record { from = ltb-true _ _ (left from to there); to = ltb-true _ _ (right from to there); special = right (from && to) _ good }

module _ (P : Policy) (sound : SoundPolicy P) where
  abbrev Entries : List Entry → Type 0
  Entries = SoundEntries (length P.roles) (length P.paths)

  pub sound-entry : (f : Frame) → So (good_entry P (entry_from f)) → any (is_entry (byte_at f 1) (byte_at f 2)) P.entries ≡ false → leb 64 (length P.entries) ≡ false
      → Entries (P.entries ++ entry_from f ∷ [])
  unfolding good_entry objects_of all_objects
  sound-entry f good new free = record {
    good = all_more (SoundEntry (length P.roles) (length P.paths)) P.entries (entry_from f) sound.entries.good named;
    distinct =
        rw map_more
        (distinct_more (map entry_key P.entries) (byte_at f 1, byte_at f 2) sound.entries.distinct
        (all_map entry_key (λ (k : ℕ × ℕ). k ≡ (byte_at f 1, byte_at f 2) → ⊥) P.entries (all_apart entry_key (byte_at f 1, byte_at f 2) (is_entry (byte_at f 1) (byte_at f 2)) again P.entries new)));
    few = rw length_more (leb-false 64 (length P.entries) free);
    few_objects = rw (objects_more P.entries (entry_from f), append-nil (all_objects P.entries)) sound.entries.few_objects;
  }
    where
      again : (e : Entry) → entry_key e ≡ (byte_at f 1, byte_at f 2) → So (is_entry (byte_at f 1) (byte_at f 2) e)
      again e d = both (eqb_of (ap (λ (k : ℕ × ℕ). k.0) d)) (eqb_of (sym (ap (λ (k : ℕ × ℕ). k.1) d)))

      named : SoundEntry (length P.roles) (length P.paths) (entry_from f)
      named =
          let p = parts₅ _ _ _ _ _ good in
          record {
            role = ltb-true _ _ p.0;
            subject = ltb-true _ _ p.1;
            caps = ltb-true _ _ p.2;
            users = good-unlisted (byte_at f 4) (leb-true _ _ p.3);
            groups = good-unlisted (byte_at f 5) (leb-true _ _ p.4);
            objects = tt;
            distinct = tt;
          }

  -- The last entry changed, which keeps its role and its subject.
  module _ (g : Entry → Entry) (kept : (e : Entry) → entry_key (g e) ≡ entry_key e) where
    sound-last : (SoundEntry (length P.roles) (length P.paths) (last_entry P.entries) → SoundEntry (length P.roles) (length P.paths) (g (last_entry P.entries)))
        → length (all_objects (on_last g P.entries)) ≤ 512 → Entries (on_last g P.entries)
    sound-last good few = record {
      good = all-on_last g (SoundEntry (length P.roles) (length P.paths)) P.entries sound.entries.good good;
      distinct = rw (map-on_last g entry_key kept) sound.entries.distinct;
      few = rw changed-length sound.entries.few;
      few_objects = few;
    }

  pub sound_object : (o : Object) → So (good_object P o) → member o.path (objects_of (last_entry P.entries)) ≡ false → leb 512 (length (all_objects P.entries)) ≡ false
      → Entries (on_last (add_object o) P.entries)
  unfolding good_object
  sound_object o good new free =
      sound-last (add_object o) (λ e. refl)
      (sound-add_object _ _ o (last_entry P.entries) named new)
      (omega (arith, object_more o P.entries, leb-false 512 (length (all_objects P.entries)) free))
    where
      named : SoundObject (length P.paths) o
      named = record { path = ltb-true _ _ (left _ _ good); modes = ltb-true _ _ (right (ltb o.path (length P.paths)) _ good) }

  -- A change that keeps the objects.
  few-same : (g : Entry → Entry) → ((e : Entry) → (g e).objects ≡ e.objects) → length (all_objects (on_last g P.entries)) ≤ 512
  few-same g kept = rw (objects-same g kept) sound.entries.few_objects

  module _ (n : ℕ) (range : n ≤ no_id) where
    pub sound_uid : So (good_id (last_entry P.entries).users n) → member n (last_entry P.entries).users.ids ≡ false → leb 16 (length (last_entry P.entries).users.ids) ≡ false
        → Entries (on_last (add_uid n) P.entries)
    sound_uid good new free =
        sound-last (add_uid n) (λ e. refl)
        (λ s. sound_ids _ _ (last_entry P.entries) (good-listing (last_entry P.entries).users n range s.users good new free) s.groups s)
        (few-same (add_uid n) (λ e. refl))

    pub sound_gid : So (good_id (last_entry P.entries).groups n) → member n (last_entry P.entries).groups.ids ≡ false → leb 16 (length (last_entry P.entries).groups.ids) ≡ false
        → Entries (on_last (add_gid n) P.entries)
    sound_gid good new free =
        sound-last (add_gid n) (λ e. refl)
        (λ s. sound_ids _ _ (last_entry P.entries) s.users (good-listing (last_entry P.entries).groups n range s.groups good new free) s)
        (few-same (add_gid n) (λ e. refl))
