-- What the writers promise, as a promise for the frame: by its type.
-- Assumes nothing.
use mathlib.Core.Path.{◌≡◌, ◌∙◌, refl, sym}
use mathlib.Core.List.{List}
use Prim.Native.Nat.{ℕ, ◌-◌, ◌<◌}
use borrow.Author.Tests.{ne_eqb}
use native.Mathlib.Omega.{arith}
use lib.ListN.{length, take, drop}
use Rattle.lines.specs.declared.Frame.{Frame}
use Rattle.lines.specs.Line.{Bytes}
use Rattle.gran.specs.Policy.{Policy}
use Rattle.store.specs.declared.Tally.{Tally}
use Rattle.store.specs.Held.{Bounded, role_tally, path_tally, move_tally, entry_tally, object_tally, uid_tally, gid_tally}
use Rattle.store.specs.Grow.{new_entry}
use Rattle.writing.specs.Added.{Added, RoleAdded, PathAdded, MoveAdded, EntryAdded, ObjectAdded, UidAdded, GidAdded}
use Rattle.policy.specs.Frames.{byte_at, number4, type_of, path_from}
use Rattle.policy.specs.Load.{Load, add}
use Rattle.policy.specs.Sound.{Sound}
use Rattle.policy.proofs.Refusals.{Passed, passed}
use Rattle.policy.proofs.Types.{Other, add_other}
use Rattle.load.specs.Step.{next_tally, Ready, FrameAdded}
use Rattle.load.proofs.Given.{known, path_given, move_given, object_given, uid_given, gid_given}

-- ---- room for the writer

module _ (t : Tally) (f : Frame) (ready : Ready t f) where
  pub role_room : {kind : ℕ} → type_of f ≡ 0x10 → kind ≡ byte_at f 1 → Bounded (role_tally t kind)
  unfolding next_tally
  role_room e k = rw k (rw e at ready.bounded)

  pub path_room : type_of f ≡ 0x20 → Bounded (path_tally t (length (take (f.size - 1) (drop 1 f.bytes))))
  unfolding next_tally path_from
  path_room e = rw e at ready.bounded

  pub move_room : type_of f ≡ 0x30 → Bounded (move_tally t)
  unfolding next_tally
  move_room e = rw e at ready.bounded

  pub entry_room : {users groups : ℕ} → type_of f ≡ 0x40 → users ≡ byte_at f 4 → groups ≡ byte_at f 5 → Bounded (entry_tally t users groups)
  unfolding next_tally
  entry_room e u g = rw (u, g) (rw e at ready.bounded)

  pub object_room : type_of f ≡ 0x41 → Bounded (object_tally t) × (0 < t.entries)
  unfolding next_tally
  object_room e = (rw e at ready.bounded, ready.grouped (omega arith) (omega arith))

  pub uid_room : type_of f ≡ 0x42 → Bounded (uid_tally t) × (0 < t.entries)
  unfolding next_tally
  uid_room e = (rw e at ready.bounded, ready.grouped (omega arith) (omega arith))

  pub gid_room : type_of f ≡ 0x43 → Bounded (gid_tally t) × (0 < t.entries)
  unfolding next_tally
  gid_room e = (rw e at ready.bounded, ready.grouped (omega arith) (omega arith))

-- ---- what was added

module _ (f : Frame) (t : Tally) (before : List ℕ) (r : Tally) (left : List ℕ) where
  by_writer : {Given : Policy → Type 0} {grown : Policy → Policy} {next : Tally} → Added Given grown t next before r left → next_tally t f ≡ next →
      ((s : Load) → Sound s → Bytes f.bytes → Passed s f → Given s.policy) → ((P : Policy) → add P f ≡ grown P) → FrameAdded f t before r left
  by_writer a n given e = record {
    tally = a.tally ∙ sym n;
    kept = a.kept;
    held = λ s rest sound small z h. rw (e s.policy) (a.held s.policy rest (given s sound small (passed s f z)) h);
  }

  pub role_added : {kind id : ℕ} → type_of f ≡ 0x10 → kind ≡ byte_at f 1 → id ≡ number4 f 2 → RoleAdded (record { kind = kind; id = id }) t before r left → FrameAdded f t before r left
  unfolding next_tally add
  role_added e k i a = by_writer (rw (k, i) at a) (rw e) (λ s sound small p. known s f sound p small e) (λ P. rw e)

  pub path_added : type_of f ≡ 0x20 → PathAdded (take (f.size - 1) (drop 1 f.bytes)) t before r left → FrameAdded f t before r left
  unfolding next_tally add path_from
  path_added e a = by_writer a (rw e) (λ s sound small p. path_given s f sound p e) (λ P. rw e)

  pub move_added : {role special : ℕ} → type_of f ≡ 0x30 → role ≡ byte_at f 1 → special ≡ byte_at f 2 → MoveAdded (record { role = role; special = special }) t before r left → FrameAdded f t before r left
  unfolding next_tally add
  move_added e k i a = by_writer (rw (k, i) at a) (rw e) (λ s sound small p. move_given s f sound p e) (λ P. rw e)

  pub entry_added : {subject role caps users groups : ℕ} → type_of f ≡ 0x40 → role ≡ byte_at f 1 → subject ≡ byte_at f 2 → caps ≡ byte_at f 3 → users ≡ byte_at f 4 → groups ≡ byte_at f 5 →
      EntryAdded (new_entry subject role caps users groups) t before r left → FrameAdded f t before r left
  unfolding next_tally add
  entry_added e i j k l m a = by_writer (rw (i, j, k, l, m) at a) (rw e) (λ s sound small p. tt) (λ P. rw e)

  pub object_added : {path modes : ℕ} → type_of f ≡ 0x41 → path ≡ byte_at f 1 → modes ≡ byte_at f 2 → ObjectAdded (record { path = path; modes = modes }) t before r left → FrameAdded f t before r left
  unfolding next_tally add
  object_added e k i a = by_writer (rw (k, i) at a) (rw e) (λ s sound small p. object_given s f sound p) (λ P. rw e)

  pub uid_added : {id : ℕ} → type_of f ≡ 0x42 → id ≡ number4 f 1 → UidAdded id t before r left → FrameAdded f t before r left
  unfolding next_tally add
  uid_added e i a = by_writer (rw i at a) (rw e) (λ s sound small p. uid_given s f sound p e) (λ P. rw e)

  pub gid_added : {id : ℕ} → type_of f ≡ 0x43 → id ≡ number4 f 1 → GidAdded id t before r left → FrameAdded f t before r left
  unfolding next_tally add
  gid_added e i a = by_writer (rw i at a) (rw e) (λ s sound small p. gid_given s f sound p e) (λ P. rw e)

-- a frame of another type adds nothing
pub none_added : (f : Frame) (t : Tally) (before : List ℕ) → Other (type_of f) → FrameAdded f t before t before
unfolding next_tally
none_added f t before o = record {
  tally = rw (ne_eqb _ _ o.not_10, ne_eqb _ _ o.not_20, ne_eqb _ _ o.not_30, ne_eqb _ _ o.not_40, ne_eqb _ _ o.not_41, ne_eqb _ _ o.not_42, ne_eqb _ _ o.not_43);
  kept = refl;
  held = λ s rest sound small z h. rw (add_other s.policy f o) h;
}
