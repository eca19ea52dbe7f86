-- One thing more is written: the tallies after it and the bytes hold the policy with it added.
-- Assumes nothing.
use mathlib.Core.Path.{◌≡◌, ◌∙◌, refl, ap, sym}
use mathlib.Core.Logic.{◌⊎◌, inl, inr}
use mathlib.Core.Bool.{Bool, true, false, cond, ◌||◌, So}
use mathlib.Core.List.{List, [], ◌∷◌, ◌++◌, map, append-nil, append_assoc}
use Prim.Native.Nat.{ℕ, ◌+◌, ◌-◌, ◌*◌, ◌%◌, ◌≤◌, ◌<◌}
use native.Mathlib.Nat.{mod-eq_of_lt}
use native.Mathlib.Omega.{arith}
use lib.Dec.{eqb}
use lib.ListN.{length, set, length-append}
use lib.Seq.{paste}
use Rattle.paths.proofs.Bools.{either, eqb-to}
use Rattle.lines.specs.Line.{zeros}
use Rattle.rows.specs.Rows.{joined, written, padded, table_of}
use Rattle.rows.proofs.Tables.{joined_append, map_more}
use Rattle.gran.specs.Policy.{Role, Move, Object, Entry, Policy, USER, GROUP, SPECIAL, DEFAULT}
use Rattle.gran.specs.Role.{of_kind}
use Rattle.gran.specs.Good.{roles_of, KnownKind}
use Rattle.store.specs.Layout.{two, four, role_row, place_rows, move_row, object_row, entry_row, entry_rows, all_objects, all_ids, ids_of, ids_at, moves_at, pool, body}
use Rattle.store.specs.Held.{Bounded, Holds, role_tally, path_tally, move_tally, entry_tally, group_tally, last_tally, object_tally, uid_tally, gid_tally, last_entry}
use Rattle.store.specs.Grow.{with_role, with_path, with_move, with_entries, with_entry, new_entry, on_last, add_object, add_uid, add_gid, with_object, with_uid, with_gid}
use Rattle.store.specs.declared.Last.{Last}
use Rattle.store.specs.declared.Tally.{Tally}
use Rattle.store.proofs.Growing.{only_more, objects_more, ids_more, last_of, changed-length, changed-last, changed_objects, changed_ids, places_more, entries_more, entries_changed, path-pool, move-pool, id-pool}
use Rattle.store.proofs.Regions.{role-row-length, object-row-length, regions-whole}
use Rattle.store.proofs.Holding.{Room, held-written, held_twice, ids_begin, pool-end, pool_more}

-- what holds of the four kinds holds of a known one
by_kind : (C : ℕ → Type 0) (r : Role) → KnownKind r → C USER → C GROUP → C SPECIAL → C DEFAULT → C r.kind
by_kind C r known u g s d = go (either _ _ known)
  where
    is : (k : ℕ) → So (of_kind k r) → C k → C r.kind
    is k e c = rw (eqb-to r.kind k e) c

    go : So (of_kind USER r || of_kind GROUP r || of_kind SPECIAL r) ⊎ So (of_kind DEFAULT r) → C r.kind
    go (inr e) = is DEFAULT e d
    go (inl e) = second (either _ _ e)
      where
        second : So (of_kind USER r || of_kind GROUP r) ⊎ So (of_kind SPECIAL r) → C r.kind
        second (inr e) = is SPECIAL e s
        second (inl e) = first (either _ _ e)
          where
            first : So (of_kind USER r) ⊎ So (of_kind GROUP r) → C r.kind
            first (inl e) = is USER e u
            first (inr e) = is GROUP e g

-- where one role more is within the bounds, its row has room
pub role_room : (t : Tally) (kind : ℕ) → Bounded (role_tally t kind) → (t.users + t.groups + t.specials + t.defaults) * 22 + 22 ≤ 660
role_room t kind b = go (eqb kind USER) (eqb kind GROUP) (eqb kind SPECIAL) b.users b.groups b.specials b.defaults
  where
    go : (u g s : Bool) → t.users + cond u 1 0 ≤ 15 → t.groups + cond g 1 0 ≤ 7 → t.specials + cond s 1 0 ≤ 7 → t.defaults + cond u 0 (cond g 0 (cond s 0 1)) ≤ 1 →
        (t.users + t.groups + t.specials + t.defaults) * 22 + 22 ≤ 660
    go true g s p q r d = omega arith
    go false true s p q r d = omega arith
    go false false true p q r d = omega arith
    go false false false p q r d = omega arith

-- one more in an entry's row
module _ (object id n : ℕ) where
  set_objects : (o : Object) (e : Entry) → n ≡ length (e.objects ++ (o ∷ [])) → set (entry_row object id e) 7 n ≡ entry_row object id (add_object o e)
  unfolding entry_row two
  set_objects o e f = rw f

  set_uids : (i : ℕ) (e : Entry) → n ≡ length (e.users.ids ++ (i ∷ [])) → set (entry_row object id e) 10 n ≡ entry_row object id (add_uid i e)
  unfolding entry_row two
  set_uids i e f = rw f

  set_gids : (i : ℕ) (e : Entry) → n ≡ length (e.groups.ids ++ (i ∷ [])) → set (entry_row object id e) 11 n ≡ entry_row object id (add_gid i e)
  unfolding entry_row two
  set_gids i e f = rw f

short-fits : (p : List ℕ) → length p ≤ 64 → length p < 256
short-fits p l = omega arith

-- what the tallies say of the last entry
record LastHeld (l : Last) (e : Entry) : Type 0 where
  objects : l.objects ≡ length e.objects
  uids : l.uids ≡ length e.users.ids
  gids : l.gids ≡ length e.groups.ids
  users : l.users ≡ e.users.mode
  groups : l.groups ≡ e.groups.mode

module _ (P : Policy) (rest : List ℕ) (t : Tally) (bytes : List ℕ) (h : Holds P rest t bytes) where
  -- a role's row behind the roles
  pub role_held : (role : Role) → Bounded (role_tally t role.kind) → KnownKind role → Holds (with_role P role) rest (role_tally t role.kind) (written 16 660 ((t.users + t.groups + t.specials + t.defaults) * 22) (role_row role) bytes)
  unfolding pool ids_at moves_at
  role_held role b known =
      let count = t.users + t.groups + t.specials + t.defaults in
      let table : paste (table_of 660 (map role_row P.roles)) (count * 22) (role_row role) (length (role_row role)) ≡ table_of 660 (map role_row (P.roles ++ (role ∷ []))) =
      rw h.roles (map_more 22 role_row role-row-length 660 P.roles role) in
      record {
        users = rw h.users (sym (only_more (of_kind USER) P.roles role));
        groups = rw h.groups (sym (only_more (of_kind GROUP) P.roles role));
        specials = rw h.specials (sym (only_more (of_kind SPECIAL) P.roles role));
        defaults = by_kind rest_default role known (omega arith) (omega arith) (omega arith) (omega arith) ∙ sym (only_more (of_kind DEFAULT) P.roles role);
        roles = rw (length-append P.roles (role ∷ [])) (by_kind sum role known (omega arith) (omega arith) (omega arith) (omega arith));
        paths = h.paths;
        path_bytes = h.path_bytes;
        moves = h.moves;
        entries = h.entries;
        objects = h.objects;
        ids = h.ids;
        last_objects = h.last_objects;
        last_uids = h.last_uids;
        last_gids = h.last_gids;
        last_users = h.last_users;
        last_groups = h.last_groups;
        stored = held-written P rest t bytes h (omega arith) 1 (omega arith) (count * 22) (role_row role) ∙ rw table (sym (regions-whole (zeros 16) (with_role P role) rest));
      }
    where
      -- a known kind that is none of the other three is the default
      rest_default : ℕ → Type 0
      rest_default k = (role_tally t k).defaults ≡ length (roles_of P DEFAULT) + cond (eqb k DEFAULT) 1 0

      sum : ℕ → Type 0
      sum k = (role_tally t k).users + (role_tally t k).groups + (role_tally t k).specials + (role_tally t k).defaults ≡ length P.roles + 1

  -- where there is no entry, there is no id, and no row
  no_ids : P.entries ≡ [] → length (all_ids P.entries) ≡ 0
  unfolding all_ids
  no_ids e = rw e

  no_rows : (id id₂ : ℕ) → P.entries ≡ [] → entry_rows 0 id P.entries ≡ entry_rows 0 id₂ P.entries
  unfolding entry_rows
  no_rows id id₂ e = rw e

  -- a path's place behind the places, and its bytes behind the pool
  pub path_held : (p : List ℕ) → Bounded (path_tally t (length p)) → length p ≤ 64 → P.moves ≡ [] → P.entries ≡ [] →
      Holds (with_path P p) rest (path_tally t (length p)) (written 2948 13436 t.bytes p (written 676 288 (t.paths * 3) (two t.bytes ++ (length p % 256 ∷ [])) bytes))
  unfolding moves_at two
  path_held p b short m e =
      let table : paste (table_of 288 (place_rows 0 P.paths)) (t.paths * 3) (two t.bytes ++ (length p % 256 ∷ [])) (length (two t.bytes ++ (length p % 256 ∷ []))) ≡ table_of 288 (place_rows 0 (P.paths ++ (p ∷ []))) =
      rw (h.paths, h.path_bytes, mod-eq_of_lt (short-fits p short)) (places_more P.paths p) in
      let used : t.bytes ≡ length (pool P) = omega (arith, pool-end P rest t bytes h, h.moves, ap length m, h.ids, no_ids e) in
      record {
        users = h.users;
        groups = h.groups;
        specials = h.specials;
        defaults = h.defaults;
        roles = h.roles;
        paths = rw h.paths (sym (length-append P.paths (p ∷ [])));
        path_bytes = rw (h.path_bytes, joined_append P.paths p) (sym (length-append (joined P.paths) p));
        moves = h.moves;
        entries = h.entries;
        objects = h.objects;
        ids = h.ids;
        last_objects = h.last_objects;
        last_uids = h.last_uids;
        last_gids = h.last_gids;
        last_users = h.last_users;
        last_groups = h.last_groups;
        stored =
            held_twice P rest t bytes h (omega arith) 2 6 (omega arith) (omega arith) (t.paths * 3) (two t.bytes ++ (length p % 256 ∷ [])) _ table (omega (arith, b.paths)) t.bytes p
            ∙ rw (pool_more P rest t bytes h p (pool (with_path P p)) t.bytes used (path-pool P p m e), no_rows (ids_at P) (ids_at (with_path P p)) e) (sym (regions-whole (zeros 16) (with_path P p) rest));
      }

  -- a move behind the pool
  pub move_held : (m : Move) → Bounded (move_tally t) → P.entries ≡ [] → Holds (with_move P m) rest (move_tally t) (written 2948 13436 (t.bytes + 2 * t.moves) (move_row m) bytes)
  unfolding moves_at
  move_held m b e =
      let used : t.bytes + 2 * t.moves ≡ length (pool P) = omega (arith, pool-end P rest t bytes h, h.ids, no_ids e) in
      record {
        users = h.users;
        groups = h.groups;
        specials = h.specials;
        defaults = h.defaults;
        roles = h.roles;
        paths = h.paths;
        path_bytes = h.path_bytes;
        moves = rw h.moves (sym (length-append P.moves (m ∷ [])));
        entries = h.entries;
        objects = h.objects;
        ids = h.ids;
        last_objects = h.last_objects;
        last_uids = h.last_uids;
        last_gids = h.last_gids;
        last_users = h.last_users;
        last_groups = h.last_groups;
        stored =
            held-written P rest t bytes h (omega arith) 6 (omega arith) (t.bytes + 2 * t.moves) (move_row m)
            ∙ rw (pool_more P rest t bytes h (move_row m) (pool (with_move P m)) (t.bytes + 2 * t.moves) used (move-pool P m e), no_rows (ids_at P) (ids_at (with_move P m)) e) (sym (regions-whole (zeros 16) (with_move P m) rest));
      }

  -- other entries: what the tallies say of them, and where the bytes hold them
  module _ (es : List Entry) (objects ids : ℕ) (last : Last) (bytes₂ : List ℕ) where
    entries_held : (n : ℕ) → n ≡ length es → objects ≡ length (all_objects es) → ids ≡ length (all_ids es) → LastHeld last (last_entry es) → bytes₂ ≡ zeros 16 ++ (body (with_entries P es) ++ rest) →
        Holds (with_entries P es) rest (group_tally t n objects ids last) bytes₂
    unfolding moves_at
    entries_held n e o i l s = record {
      users = h.users;
      groups = h.groups;
      specials = h.specials;
      defaults = h.defaults;
      roles = h.roles;
      paths = h.paths;
      path_bytes = h.path_bytes;
      moves = h.moves;
      entries = e;
      objects = o;
      ids = i;
      last_objects = l.objects;
      last_uids = l.uids;
      last_gids = l.gids;
      last_users = l.users;
      last_groups = l.groups;
      stored = s;
    }

  -- an entry's row behind the entries
  pub entry_held : (subject role caps users groups : ℕ) → Bounded (entry_tally t users groups) → let e = new_entry subject role caps users groups in
      Holds (with_entry P e) rest (entry_tally t users groups) (written 1156 768 (t.entries * 12) (entry_row t.objects (t.bytes + 2 * t.moves + 4 * t.ids) e) bytes)
  unfolding pool ids_at moves_at ids_of
  entry_held subject role caps users groups b =
      let e = new_entry subject role caps users groups in
      let objects : all_objects (P.entries ++ (e ∷ [])) ≡ all_objects P.entries = objects_more P.entries e ∙ append-nil _ in
      let ids : all_ids (P.entries ++ (e ∷ [])) ≡ all_ids P.entries = ids_more P.entries e ∙ append-nil _ in
      let row = entry_row t.objects (t.bytes + 2 * t.moves + 4 * t.ids) e in
      let table : paste (table_of 768 (entry_rows 0 (ids_at P) P.entries)) (t.entries * 12) row (length row) ≡ table_of 768 (entry_rows 0 (ids_at P) (P.entries ++ (e ∷ []))) =
      rw (h.entries, h.objects, ids_begin P rest t bytes h, h.ids) (entries_more (ids_at P) P.entries e) in
      entries_held (P.entries ++ (e ∷ [])) t.objects t.ids (record { objects = 0; uids = 0; gids = 0; users = users; groups = groups }) _ (t.entries + 1)
      (rw h.entries (sym (length-append P.entries (e ∷ []))))
      (rw objects h.objects)
      (rw ids h.ids)
      (rw (last_of P.entries e) (record { objects = refl; uids = refl; gids = refl; users = refl; groups = refl }))
      (held-written P rest t bytes h (omega arith) 4 (omega arith) (t.entries * 12) row ∙ rw table (sym (regions-whole (zeros 16) (with_entry P e) rest ∙ rw (objects, ids))))

  module _ (some : 0 < t.entries) where
    there : 0 < length P.entries
    there = omega (arith, h.entries)

    -- an object's row behind the objects, and one more in the last entry's row
    pub object_held : (o : Object) → Bounded (object_tally t) → length (last_entry P.entries).objects < 255 →
        Holds (with_object P o) rest (object_tally t) (written 1156 768 ((t.entries - 1) * 12 + 7) ((t.last.objects + 1) % 256 ∷ []) (written 1924 1024 (t.objects * 2) (object_row o) bytes))
    unfolding pool ids_at moves_at ids_of object_row
    object_held o b few =
        let es = on_last (add_object o) P.entries in
        let objects : all_objects es ≡ all_objects P.entries ++ (o ∷ []) = changed_objects (add_object o) P.entries there (o ∷ []) refl in
        let ids : all_ids es ≡ all_ids P.entries = changed_ids (add_object o) P.entries there [] (sym (append-nil _)) ∙ append-nil _ in
        let one : t.last.objects + 1 ≡ length ((last_entry P.entries).objects ++ (o ∷ [])) = rw h.last_objects (sym (length-append (last_entry P.entries).objects (o ∷ []))) in
        let table : paste (table_of 1024 (map object_row (all_objects P.entries))) (t.objects * 2) (object_row o) (length (object_row o)) ≡ table_of 1024 (map object_row (all_objects es)) =
        rw (h.objects, objects) (map_more 2 object_row object-row-length 1024 (all_objects P.entries) o) in
        let count : paste (table_of 768 (entry_rows 0 (ids_at P) P.entries)) ((t.entries - 1) * 12 + 7) ((t.last.objects + 1) % 256 ∷ []) 1 ≡ table_of 768 (entry_rows 0 (ids_at P) es) =
        rw h.entries (entries_changed (add_object o) (ids_at P) P.entries 7 ((t.last.objects + 1) % 256) there (omega arith) (λ a i. set_objects a i ((t.last.objects + 1) % 256) o (last_entry P.entries) (mod-eq_of_lt (omega (arith, h.last_objects)) ∙ one))) in
        entries_held es (t.objects + 1) t.ids (last_tally t.last (t.last.objects + 1) t.last.uids t.last.gids) _ t.entries
        (h.entries ∙ sym (changed-length (add_object o) P.entries))
        (rw (objects, h.objects) (sym (length-append (all_objects P.entries) (o ∷ []))))
        (rw ids h.ids)
        (rw (changed-last (add_object o) P.entries there) (record { objects = one; uids = h.last_uids; gids = h.last_gids; users = h.last_users; groups = h.last_groups }))
        (held_twice P rest t bytes h (omega arith) 5 4 (omega arith) (omega arith) (t.objects * 2) (object_row o) _ table (omega (arith, b.objects)) ((t.entries - 1) * 12 + 7) ((t.last.objects + 1) % 256 ∷ [])
        ∙ rw count (sym (regions-whole (zeros 16) (with_object P o) rest ∙ rw (objects, ids))))

    -- four bytes behind the pool, and byte k of the last entry's row: a listed id, a UID or a GID
    id_held : (change : Entry → Entry) (n k v : ℕ) (last : Last) → Room t → t.bytes + 2 * t.moves + 4 * (t.ids + 1) ≤ 13436 → k < 12 →
        (change (last_entry P.entries)).objects ≡ (last_entry P.entries).objects →
        ids_of (change (last_entry P.entries)) ≡ ids_of (last_entry P.entries) ++ (n ∷ []) →
        ((object id : ℕ) → set (entry_row object id (last_entry P.entries)) k v ≡ entry_row object id (change (last_entry P.entries))) →
        LastHeld last (change (last_entry P.entries)) →
        Holds (with_entries P (on_last change P.entries)) rest (group_tally t t.entries t.objects (t.ids + 1) last)
        (written 1156 768 ((t.entries - 1) * 12 + k) (v ∷ []) (written 2948 13436 (t.bytes + 2 * t.moves + 4 * t.ids) (four n) bytes))
    unfolding ids_at moves_at four
    id_held change n k v last room more_Room l same more row held =
        let es = on_last change P.entries in
        let objects : all_objects es ≡ all_objects P.entries = changed_objects change P.entries there [] (same ∙ sym (append-nil _)) ∙ append-nil _ in
        let ids : all_ids es ≡ all_ids P.entries ++ (n ∷ []) = changed_ids change P.entries there (n ∷ []) more in
        let used = t.bytes + 2 * t.moves + 4 * t.ids in
        let pooled : paste (padded 13436 (pool P)) used (four n) (length (four n)) ≡ padded 13436 (pool (with_entries P es)) =
        pool_more P rest t bytes h (four n) (pool (with_entries P es)) used (pool-end P rest t bytes h) (id-pool P es n ids) in
        let count : paste (table_of 768 (entry_rows 0 (ids_at P) P.entries)) ((t.entries - 1) * 12 + k) (v ∷ []) 1 ≡ table_of 768 (entry_rows 0 (ids_at P) es) =
        rw h.entries (entries_changed change (ids_at P) P.entries k v there l row) in
        entries_held es t.objects (t.ids + 1) last _ t.entries
        (h.entries ∙ sym (changed-length change P.entries))
        (rw objects h.objects)
        (rw (ids, h.ids) (sym (length-append (all_ids P.entries) (n ∷ []))))
        (rw (changed-last change P.entries there) held)
        (held_twice P rest t bytes h room 6 4 (omega arith) (omega arith) used (four n) _ pooled (omega arith) ((t.entries - 1) * 12 + k) (v ∷ [])
        ∙ rw count (sym (regions-whole (zeros 16) (with_entries P es) rest ∙ rw objects)))

    pub uid_held : (n : ℕ) → Bounded (uid_tally t) → length (last_entry P.entries).users.ids < 255 → (last_entry P.entries).groups.ids ≡ [] →
        Holds (with_uid P n) rest (uid_tally t) (written 1156 768 ((t.entries - 1) * 12 + 10) ((t.last.uids + 1) % 256 ∷ []) (written 2948 13436 (t.bytes + 2 * t.moves + 4 * t.ids) (four n) bytes))
    unfolding ids_of
    uid_held n b few none =
        let one : t.last.uids + 1 ≡ length ((last_entry P.entries).users.ids ++ (n ∷ [])) = rw h.last_uids (sym (length-append (last_entry P.entries).users.ids (n ∷ []))) in
        let v = (t.last.uids + 1) % 256 in
        id_held (add_uid n) n 10 v (last_tally t.last t.last.objects (t.last.uids + 1) t.last.gids) (omega arith) b.pool (omega arith) refl
        (rw (none, append-nil (last_entry P.entries).users.ids) (append-nil _))
        (λ a i. set_uids a i v n (last_entry P.entries) (mod-eq_of_lt (omega (arith, h.last_uids)) ∙ one))
        (record { objects = h.last_objects; uids = one; gids = h.last_gids; users = h.last_users; groups = h.last_groups })

    pub gid_held : (n : ℕ) → Bounded (gid_tally t) → length (last_entry P.entries).groups.ids < 255 →
        Holds (with_gid P n) rest (gid_tally t) (written 1156 768 ((t.entries - 1) * 12 + 11) ((t.last.gids + 1) % 256 ∷ []) (written 2948 13436 (t.bytes + 2 * t.moves + 4 * t.ids) (four n) bytes))
    unfolding ids_of
    gid_held n b few =
        let one : t.last.gids + 1 ≡ length ((last_entry P.entries).groups.ids ++ (n ∷ [])) = rw h.last_gids (sym (length-append (last_entry P.entries).groups.ids (n ∷ []))) in
        let v = (t.last.gids + 1) % 256 in
        id_held (add_gid n) n 11 v (last_tally t.last t.last.objects t.last.uids (t.last.gids + 1)) (omega arith) b.pool (omega arith) refl
        (sym (append_assoc (last_entry P.entries).users.ids (last_entry P.entries).groups.ids (n ∷ [])))
        (λ a i. set_gids a i v n (last_entry P.entries) (mod-eq_of_lt (omega (arith, h.last_gids)) ∙ one))
        (record { objects = h.last_objects; uids = h.last_uids; gids = one; users = h.last_users; groups = h.last_groups })
