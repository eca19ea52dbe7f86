-- What is found in the bytes of a loaded store: grades, and the best places by them.
-- Assumes nothing.
use mathlib.Core.Path.{◌≡◌, ◌∙◌}
use mathlib.Core.Logic.{◌≢◌}
use mathlib.Core.Bool.{true, cond, So}
use mathlib.Core.List.{List, []}
use Prim.Native.Nat.{ℕ, ◌+◌, ◌<◌}
use native.Mathlib.Omega.{arith}
use borrow.Author.Tests.{le-leb}
use borrow.Author.Count.{below_more}
use lib.ListN.{length, get_or, set}
use lib.Seq.{get_or-set_same, get_or-set_other}
use Rattle.paths.specs.Path.{good_path}
use Rattle.paths.proofs.Paths.{good_short}
use Rattle.gran.specs.Policy.{Policy, Object}
use Rattle.gran.specs.Match.{path_at, subject_path, object_path, of_role, no_entry, subjects_of, objects_of, object_in, modes_of}
use Rattle.gran.specs.Good.{GoodObject}
use Rattle.gran.proofs.Lists.{all_at}
use Rattle.gran.proofs.Policies.{role_rooted, entry_rooted}
use Rattle.store.specs.Held.{Loaded}
use Rattle.fields.specs.Fields.{entry_count, entry_subject, first_object, object_count, object_path_at, object_modes_at}
use Rattle.fields.proofs.Header.{entry-count}
use Rattle.fields.proofs.Paths.{path_read}
use Rattle.fields.proofs.Entries.{entry-subject, entry-role, object-count, object-path, object-modes}
use Rattle.lookup.specs.Best.{best_of, grade_in, role_grade, object_grade}
use Rattle.lookup.specs.Lookup.{grade_of, Graded, entry_at, InForce, Placed}
use Rattle.lookup.proofs.Search.{always, only_all}
use Rattle.lookup.proofs.Picked.{picked}
use Rattle.lookup.proofs.Matches.{no_object, good-entry, entry_picked, object_picked, placed_path, placed_modes}

-- One place more of a list holds its value.
pub filled : (xs : List ℕ) (a : ℕ → ℕ) (i v : ℕ) → i < length xs → v ≡ a i → ((k : ℕ) → k < i → get_or xs k 0 ≡ a k) → (k : ℕ) → k < i + 1 → get_or (set xs i v) k 0 ≡ a k
filled xs a i v l e before =
    below_more (λ (k : ℕ). get_or (set xs i v) k 0 ≡ a k) i
    (λ k h. let apart : k ≢ i = λ d. omega (arith, d) in get_or-set_other xs i k v 0 apart ∙ before k h) (get_or-set_same xs i v 0 l ∙ e)

module _ {P : Policy} {rest s : List ℕ} (L : Loaded P rest s) (f : List ℕ) where
  -- the store's grade of a path is the policy's
  pub grade_read : (c : ℕ) → c < length P.paths → grade_in s f c ≡ grade_of P f c
  unfolding grade_in grade_of
  grade_read c l = rw (path_read L c, le-leb _ 64 (good_short true (path_at P.paths c) (all_at (λ (p : List ℕ). So (good_path true p)) P.paths [] L.good.paths c l)))

  subject-named : (e : ℕ) → e < length P.entries → (entry_at P e).subject < length P.paths
  subject-named e l = (good-entry P L.good e l).subject

  module _ (of : List ℕ) (graded : Graded P f of) where
    subject_grade : (e : ℕ) → e < length P.entries → get_or of (entry_subject s e) 0 ≡ grade_of P f (entry_at P e).subject
    subject_grade e l = rw (entry-subject L e l) (graded _ (subject-named e l))

    module _ (r : ℕ) (known : r < length P.roles) where
      role-grade : (e : ℕ) → e < length P.entries → role_grade s of r e ≡ cond (of_role r (entry_at P e)) (grade_of P f (entry_at P e).subject) 0
      unfolding role_grade
      role-grade e l = rw (entry-role L e l, subject_grade e l)

      pub entry_found : InForce P r f (best_of (role_grade s of r) (entry_count s)).place
      unfolding subjects_of
      entry_found =
          rw (entry-count L) (entry_picked P L.good f r _
          (picked P L.good f (of_role r) subject_path no_entry P.entries (role_rooted P L.good r known) (role_grade s of r) role-grade))

    module _ (e : ℕ) (known : e < length P.entries) where
      pub object_found : Placed P e f (best_of (object_grade s of (first_object s e)) (object_count s e)).place
      unfolding object_grade objects_of
      object_found =
          rw (object-count L e known) (object_picked P L.good f e known _
          (picked P L.good f always object_path no_object objects (rw (only_all objects) (entry_rooted P L.good (entry_at P e) (good-entry P L.good e known))) (object_grade s of (first_object s e))
          (λ i l. rw (object-path L e known i no_object l) (graded _ (named i l)))))
        where
          objects : List Object
          objects = (entry_at P e).objects

          named : (i : ℕ) → i < length objects → (get_or objects i no_object).path < length P.paths
          named i l = (all_at (GoodObject P) objects no_object (good-entry P L.good e known).objects i l).path

-- What callers read at the place of an object.
module _ {P : Policy} {rest s : List ℕ} (L : Loaded P rest s) {e i : ℕ} {f : List ℕ} (known : e < length P.entries) (placed : Placed P e f i) where
  pub object_path_is : object_path_at s e i ≡ object_in P (entry_at P e) f
  object_path_is = object-path L e known i no_object placed.inside ∙ placed_path P L.good f e known i placed

  pub object_modes_is : object_modes_at s e i ≡ modes_of (entry_at P e) (object_in P (entry_at P e) f)
  object_modes_is = object-modes L e known i no_object placed.inside ∙ placed_modes P L.good f e known i placed
