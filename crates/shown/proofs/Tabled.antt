-- What the tables say of a state: its parts, the entry in force, and the object for its subject.
-- Assumes nothing.
use mathlib.Core.Path.{◌≡◌, refl}
use mathlib.Core.Bool.{cond}
use mathlib.Core.List.{List}
use Prim.Native.Nat.{ℕ, ◌<◌}
use native.Mathlib.Omega.{arith}
use lib.Dec.{eqb}
use lib.ListN.{length, get_or}
use Rattle.gran.specs.Lists.{none}
use Rattle.gran.specs.Policy.{Policy}
use Rattle.gran.specs.Match.{path_at, objects_of}
use Rattle.gran.specs.Role.{chosen, in_force}
use Rattle.gran.specs.Good.{Good}
use Rattle.gran.specs.Abstract.{role, executed}
use Rattle.gran.specs.Reach.{Question}
use Rattle.gran.specs.declared.State.{State}
use Rattle.lookup.specs.Lookup.{entry_at, InForce, Placed}
use Rattle.lookup.proofs.Matches.{good-entry}
use Rattle.tables.specs.Tables.{Tabled, cell, special_cell, user_cell, group_cell, subject_cell, default_cell, force_cell, object_cell}
use Rattle.numbered.specs.Number.{Inside, sizes_of, digits_of, state_number, places_of}
use Rattle.numbered.specs.declared.Sizes.{Sizes}
use Rattle.numbered.specs.declared.Digits.{Digits}
use Rattle.numbered.proofs.Places.{same_place}
use Rattle.numbered.proofs.Numbers.{special_at, user_at, group_at, subject_at, digits-places, role_known}
use Rattle.numbered.proofs.Objects.{objects-length}
use Rattle.shown.specs.Shown.{seen_of}
use Rattle.shown.specs.declared.Seen.{Seen}

-- What stands in the cells of digits.
abbrev pub cells : List ℕ → Digits → Seen
cells t d = record { special = cell t (special_cell d.special); user = cell t (user_cell d.user); group = cell t (group_cell d.group); subject = cell t (subject_cell d.subject); place = d.subject }

module _ (P : Policy) (q : Question) (t : List ℕ) (good : Good P) (tabled : Tabled P q t) (α : State) (inside : Inside P α) where
  pub seen_is : (z : Sizes) (n : ℕ) → z ≡ sizes_of P → n ≡ state_number P α → cells t (digits_of z n) ≡ seen_of P α
  seen_is z n ez en = rw (
    ez,
    en,
    digits-places P α inside,
    tabled.special _ (special_at P α inside).inside,
    (special_at P α inside).is,
    tabled.user _ (user_at P α inside).inside,
    (user_at P α inside).is,
    tabled.group _ (group_at P α inside).inside,
    (group_at P α inside).is,
    tabled.subject _ (subject_at P α inside).inside,
    (subject_at P α inside).is,
  ) refl

  pub force_is : InForce P (role P α) (path_at P.paths α.subject) (cell t (force_cell (places_of P α).subject (chosen α.special α.user α.group (cell t default_cell))))
  unfolding role in_force
  force_is = rw tabled.fallback (rw (subject_at P α inside).is at (tabled.force _ (role P α) (subject_at P α inside).inside (role_known P good α inside)))

  -- The executed path for the object at place i of entry e.
  module _ (e : ℕ) (known : e < length P.entries) (i : ℕ) (h : i < length (objects_of (entry_at P e))) where
    pub file_is : cond (eqb (cell t (object_cell (places_of P α).subject e)) i) α.subject (get_or (objects_of (entry_at P e)) i none)
        ≡ executed P (entry_at P e) (get_or (objects_of (entry_at P e)) i none) α.subject
    unfolding executed
    file_is =
        let objects = objects_of (entry_at P e) in
        let placed : Placed P e (path_at P.paths α.subject) (cell t (object_cell (places_of P α).subject e)) = rw (subject_at P α inside).is at (tabled.object _ e (subject_at P α inside).inside known) in
        rw (same_place objects (good-entry P good e known).distinct (cell t (object_cell (places_of P α).subject e)) i (omega (arith, objects-length P e, placed.inside)) h, placed.is)
