-- What each writer promises, from what it wrote.
-- Assumes nothing.
use mathlib.Core.Path.{◌≡◌}
use mathlib.Core.List.{List, [], ◌∷◌, ◌++◌}
use Prim.Native.Nat.{ℕ, ◌+◌, ◌-◌, ◌*◌, ◌%◌, ◌<◌}
use lib.ListN.{length, take, drop}
use lib.Seq.{paste}
use Rattle.rows.specs.Rows.{replaced, written}
use Rattle.gran.specs.Policy.{Role, Move, Object, Policy}
use Rattle.store.specs.Layout.{two, four, role_row, move_row, object_row, entry_row}
use Rattle.store.specs.Held.{Bounded, Holds, role_tally, path_tally, move_tally, entry_tally, object_tally, uid_tally, gid_tally}
use Rattle.store.specs.Grow.{new_entry}
use Rattle.store.specs.declared.Tally.{Tally}
use Rattle.store.proofs.Adding.{role_held, path_held, move_held, entry_held, object_held, uid_held, gid_held}
use Rattle.writing.specs.Added.{Added, RoleAdded, PathAdded, MoveAdded, EntryAdded, ObjectAdded, UidAdded, GidAdded}

added : {Given : Policy → Type 0} {grown : Policy → Policy} {t next r : Tally} {before after after₂ : List ℕ} → r ≡ next → length after ≡ length before → after ≡ after₂ →
    ((P : Policy) (rest : List ℕ) → Given P → Holds P rest t before → Holds (grown P) rest next after₂) → Added Given grown t next before r after
added e kept f held = record { tally = e; kept = kept; held = λ P rest g h. rw (e, f) (held P rest g h) }

module _ (t : Tally) (before : List ℕ) where
  pub role_added : (role : Role) {r : Tally} {row part : List ℕ} → Bounded (role_tally t role.kind) → r ≡ role_tally t role.kind → row ≡ role_row role →
      part ≡ paste (take 660 (drop 16 before)) ((t.users + t.groups + t.specials + t.defaults) * 22) row (length row) →
      let after = replaced 16 660 part before in length after ≡ length before → RoleAdded role t before r after
  role_added role b e f w kept = added e kept (rw (w, f)) (λ P rest known h. role_held P rest t before h role b known)

  pub path_added : (path : List ℕ) {r : Tally} {row part part₂ : List ℕ} → Bounded (path_tally t (length path)) → r ≡ path_tally t (length path) → row ≡ two t.bytes ++ (length path % 256 ∷ []) →
      part ≡ paste (take 288 (drop 676 before)) (t.paths * 3) row (length row) →
      let middle = replaced 676 288 part before in part₂ ≡ paste (take 13436 (drop 2948 middle)) t.bytes path (length path) →
      let after = replaced 2948 13436 part₂ middle in length after ≡ length before → PathAdded path t before r after
  path_added path b e f v w kept = added e kept (rw (w, v, f)) (λ P rest given h. path_held P rest t before h path b given.0 given.1 given.2)

  pub move_added : (move : Move) {r : Tally} {part : List ℕ} → Bounded (move_tally t) → r ≡ move_tally t → part ≡ paste (take 13436 (drop 2948 before)) (t.bytes + 2 * t.moves) (move.role ∷ move.special ∷ []) 2 →
      let after = replaced 2948 13436 part before in length after ≡ length before → MoveAdded move t before r after
  unfolding move_row
  move_added move b e w kept = added e kept (rw w) (λ P rest none h. move_held P rest t before h move b none)

  pub entry_added : (subject role caps users groups : ℕ) {r : Tally} {row part : List ℕ} → Bounded (entry_tally t users groups) → r ≡ entry_tally t users groups →
      row ≡ entry_row t.objects (t.bytes + 2 * t.moves + 4 * t.ids) (new_entry subject role caps users groups) →
      part ≡ paste (take 768 (drop 1156 before)) (t.entries * 12) row (length row) →
      let after = replaced 1156 768 part before in length after ≡ length before → EntryAdded (new_entry subject role caps users groups) t before r after
  entry_added subject role caps users groups b e f w kept = added e kept (rw (w, f)) (λ P rest given h. entry_held P rest t before h subject role caps users groups b)

  -- a count's byte is written last
  module _ (some : 0 < t.entries) where
    pub object_added : (object : Object) {r : Tally} {part after : List ℕ} → Bounded (object_tally t) → r ≡ object_tally t →
        part ≡ paste (take 1024 (drop 1924 before)) (t.objects * 2) (object.path ∷ object.modes ∷ []) 2 →
        after ≡ written 1156 768 ((t.entries - 1) * 12 + 7) (r.last.objects % 256 ∷ []) (replaced 1924 1024 part before) → length after ≡ length before → ObjectAdded object t before r after
    unfolding object_row
    object_added object b e v w kept = added e kept (rw (v, e) at w) (λ P rest few h. object_held P rest t before h some object b few)

    pub uid_added : (id : ℕ) {r : Tally} {after : List ℕ} → Bounded (uid_tally t) → r ≡ uid_tally t →
        after ≡ written 1156 768 ((t.entries - 1) * 12 + 10) (r.last.uids % 256 ∷ []) (written 2948 13436 (t.bytes + 2 * t.moves + 4 * t.ids) (four id) before) →
        length after ≡ length before → UidAdded id t before r after
    uid_added id b e w kept = added e kept (rw e at w) (λ P rest given h. uid_held P rest t before h some id b given.0 given.1)

    pub gid_added : (id : ℕ) {r : Tally} {after : List ℕ} → Bounded (gid_tally t) → r ≡ gid_tally t →
        after ≡ written 1156 768 ((t.entries - 1) * 12 + 11) (r.last.gids % 256 ∷ []) (written 2948 13436 (t.bytes + 2 * t.moves + 4 * t.ids) (four id) before) →
        length after ≡ length before → GidAdded id t before r after
    gid_added id b e w kept = added e kept (rw e at w) (λ P rest few h. gid_held P rest t before h some id b few)

  pub id-written : (id field count : ℕ) {row part after : List ℕ} → row ≡ four id → part ≡ paste (take 13436 (drop 2948 before)) (t.bytes + 2 * t.moves + 4 * t.ids) row (length row) →
      after ≡ written 1156 768 ((t.entries - 1) * 12 + field) (count % 256 ∷ []) (replaced 2948 13436 part before) →
      after ≡ written 1156 768 ((t.entries - 1) * 12 + field) (count % 256 ∷ []) (written 2948 13436 (t.bytes + 2 * t.moves + 4 * t.ids) (four id) before)
  id-written id field count e v w = rw (v, e) at w
