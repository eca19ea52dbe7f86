-- Reading back what `layout` wrote gives the policy again.
-- Assumes nothing.
use mathlib.Core.Path.{◌≡◌}
use mathlib.Core.List.{List, []}
use Prim.Native.Nat.{ℕ, ◌<◌}
use lib.ListN.{length, get_or}
use Rattle.gran.specs.Policy.{Move, Object, Policy}
use Rattle.gran.specs.Role.{no_role}
use Rattle.gran.specs.Match.{no_entry}
use Rattle.store.specs.Held.{Loaded}
use Rattle.fields.specs.Fields.{role_count, path_count, entry_count, move_count, object_count, uid_count, gid_count, uid_at, gid_at, role_read, move_read, object_read, entry_read, path_in, policy_in}
use Rattle.fields.proofs.Rows.{row_is}
use Rattle.fields.proofs.Header.{role-count, path-count, entry-count, move-count}
use Rattle.fields.proofs.Roles.{role-kind, role-id, move-role, move-special}
use Rattle.fields.proofs.Paths.{path_read}
use Rattle.fields.proofs.Entries.{entry-subject, entry-role, entry-caps, user-mode, group-mode, object-count, uid-count, gid-count, object-path, object-modes, uid_read, gid_read}

module _ {P : Policy} {rest s : List ℕ} (L : Loaded P rest s) where
  role-again : (r : ℕ) → r < length P.roles → role_read s r ≡ get_or P.roles r no_role
  role-again r h = rw (role-kind L r h, role-id L r h)

  move-again : (i : ℕ) (d : Move) → i < length P.moves → move_read s i ≡ get_or P.moves i d
  move-again i d h = rw (move-role L i d h, move-special L i d h)

  entry-again : (e : ℕ) → e < length P.entries → entry_read s e ≡ get_or P.entries e no_entry
  entry-again e h =
      let E = get_or P.entries e no_entry in
      let d : Object = record { path = 0; modes = 0 } in
      rw (
        entry-role L e h,
        entry-subject L e h,
        entry-caps L e h,
        user-mode L e h,
        group-mode L e h,
        row_is (uid_at s e) (uid_count s e) E.users.ids 0 (uid-count L e h) (uid_read L e h),
        row_is (gid_at s e) (gid_count s e) E.groups.ids 0 (gid-count L e h) (gid_read L e h),
        row_is (object_read s e) (object_count s e) E.objects d (object-count L e h) (λ i l. rw (object-path L e h i d l, object-modes L e h i d l)),
      )

  pub policy-again : policy_in s ≡ P
  unfolding policy_in
  policy-again =
      let d : Move = record { role = 0; special = 0 } in
      rw (
        row_is (role_read s) (role_count s) P.roles no_role (role-count L) role-again,
        row_is (path_in s) (path_count s) P.paths [] (path-count L) (λ n h. path_read L n),
        row_is (move_read s) (move_count s) P.moves d (move-count L) (λ i h. move-again i d h),
        row_is (entry_read s) (entry_count s) P.entries no_entry (entry-count L) entry-again,
      )
