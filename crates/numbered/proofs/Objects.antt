-- The objects of an entry by their places, as the policy has them and as the store says them.
-- Assumes nothing.
use mathlib.Core.Path.{◌≡◌, sym, ap, ◌∙◌}
use mathlib.Core.List.{List}
use Prim.Native.Nat.{ℕ, ◌<◌}
use native.Mathlib.Omega.{arith}
use lib.ListN.{length, get_or, length-map, get_or-map}
use Rattle.gran.specs.Lists.{none}
use Rattle.gran.specs.Policy.{Policy}
use Rattle.gran.specs.Match.{object_path, objects_of, modes_of}
use Rattle.gran.specs.Good.{Good, GoodObject}
use Rattle.gran.proofs.Lists.{all_at}
use Rattle.store.specs.Held.{Loaded}
use Rattle.fields.specs.Fields.{object_count, object_path_at, object_modes_at}
use Rattle.fields.proofs.Entries.{object-count, object-path, object-modes}
use Rattle.lookup.specs.Lookup.{entry_at}
use Rattle.lookup.proofs.Matches.{no_object, good-entry, modes_at}

pub objects-length : (P : Policy) (e : ℕ) → length (objects_of (entry_at P e)) ≡ length (entry_at P e).objects
unfolding objects_of
objects-length P e = length-map (entry_at P e).objects object_path

module _ (P : Policy) (good : Good P) (e : ℕ) (known : e < length P.entries) where
  module _ (i : ℕ) (h : i < length (objects_of (entry_at P e))) where
    inside : i < length (entry_at P e).objects
    inside = omega (arith, objects-length P e)

    -- The path of the object at place i, and its modes.
    path-at : (get_or (entry_at P e).objects i no_object).path ≡ get_or (objects_of (entry_at P e)) i none
    unfolding objects_of
    path-at = sym (get_or-map object_path (entry_at P e).objects i no_object)

    -- It names a path.
    pub object-named : get_or (objects_of (entry_at P e)) i none < length P.paths
    object-named = rw (← path-at) (all_at (GoodObject P) (entry_at P e).objects no_object (good-entry P good e known).objects i inside).path

module _ {P : Policy} {rest s : List ℕ} (loaded : Loaded P rest s) (e : ℕ) (known : e < length P.entries) where
  pub count_is : object_count s e ≡ length (objects_of (entry_at P e))
  count_is = object-count loaded e known ∙ sym (objects-length P e)

  module _ (i : ℕ) (h : i < length (objects_of (entry_at P e))) where
    pub path_is : object_path_at s e i ≡ get_or (objects_of (entry_at P e)) i none
    path_is = object-path loaded e known i no_object (inside P loaded.good e known i h) ∙ path-at P loaded.good e known i h

    pub modes_is : object_modes_at s e i ≡ modes_of (entry_at P e) (get_or (objects_of (entry_at P e)) i none)
    modes_is = object-modes loaded e known i no_object (inside P loaded.good e known i h) ∙ modes_at P loaded.good e known i (inside P loaded.good e known i h) ∙ ap (modes_of (entry_at P e)) (path-at P loaded.good e known i h)
