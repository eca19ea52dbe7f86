-- The best places are the model's: the entry in force, its object.
-- Assumes nothing.
use mathlib.Core.Path.{◌≡◌, refl, sym, ap, ◌∙◌}
use mathlib.Core.Bool.{So}
use mathlib.Core.List.{List, map}
use Prim.Native.Nat.{ℕ, ◌<◌}
use native.Mathlib.Nat.{zero-add}
use native.Mathlib.Omega.{arith}
use lib.Dec.{eqb}
use lib.ListN.{length, get_or, length-map}
use Rattle.paths.proofs.Bools.{both, left, right, eqb_of, eqb-to}
use Rattle.rows.proofs.Tables.{map_at}
use Rattle.gran.specs.Policy.{Policy, Object, Entry}
use Rattle.gran.specs.Match.{subject_path, object_path, of_role, is_entry, is_object, no_entry, subjects_of, subject_in, objects_of, object_in, entry_of, entry_in, modes_of}
use Rattle.gran.specs.Lists.{none, Distinct}
use Rattle.gran.specs.Good.{Good, GoodEntry}
use Rattle.gran.proofs.Lists.{all_at, distinct_at}
use Rattle.lookup.specs.Lookup.{entry_at, InForce, Placed}
use Rattle.lookup.proofs.Search.{find_at, place_at, always, only_all}
use Rattle.lookup.proofs.Picked.{Picked}

abbrev pub no_object : Object
no_object = record { path = none; modes = 0 }

-- Where all have different keys, one key is at one place.
once : {A B : Type 0} (key : A → B) (d : A) (e : B) (xs : List A) → Distinct (map key xs) → (i j : ℕ) → i < length xs → j < length xs → key (get_or xs i d) ≡ key (get_or xs j d) → i ≡ j
once key d e xs distinct i j l m same =
    distinct_at (map key xs) e distinct i j (rw (length-map xs key) l) (rw (length-map xs key) m) (map_at key xs i d e l ∙ same ∙ sym (map_at key xs j d e m))

pub good-entry : (P : Policy) → Good P → (e : ℕ) → e < length P.entries → GoodEntry P (entry_at P e)
good-entry P good e l = all_at (GoodEntry P) P.entries no_entry good.entries e l

-- The objects of an entry have different paths, so that the modes at a place are those of its path.
module _ (P : Policy) (good : Good P) (e : ℕ) (known : e < length P.entries) where
  distinct : Distinct (map object_path (entry_at P e).objects)
  distinct = unfold objects_of in (good-entry P good e known).distinct

  pub modes_at : (i : ℕ) → i < length (entry_at P e).objects → (get_or (entry_at P e).objects i no_object).modes ≡ modes_of (entry_at P e) (get_or (entry_at P e).objects i no_object).path
  unfolding modes_of
  modes_at i l = ap (λ (o : Object). o.modes) (sym (find_at (is_object (get_or (entry_at P e).objects i no_object).path) no_object (entry_at P e).objects i (record {
    inside = l;
    passes = eqb_of {m = (get_or (entry_at P e).objects i no_object).path} refl;
    none_before = λ j k t. omega (arith, once object_path no_object none (entry_at P e).objects distinct j i (omega arith) l (eqb-to _ _ t));
  })))

module _ (P : Policy) (good : Good P) (f : List ℕ) where
  pub entry_picked : (r i : ℕ) → Picked P f (of_role r) subject_path no_entry P.entries i → InForce P r f i
  unfolding entry_in entry_of subject_in subjects_of
  entry_picked r i p = record {
    inside = p.inside;
    is = sym (find_at (is_entry r s) no_entry P.entries i (record { inside = p.inside; passes = both p.counts (eqb_of p.is); none_before = other }));
  }
    where
      s : ℕ
      s = subject_in P r f

      -- no two entries have a role and a subject in common
      other : (j : ℕ) → j < i → So (is_entry r s (entry_at P j)) → ⊥
      other j l t = omega (arith, same)
        where
          role : (entry_at P j).role ≡ (entry_at P i).role
          role = eqb-to _ r (left (of_role r (entry_at P j)) _ t) ∙ sym (eqb-to _ r p.counts)

          subject : (entry_at P j).subject ≡ (entry_at P i).subject
          subject = sym (eqb-to s _ (right (of_role r (entry_at P j)) _ t)) ∙ p.is

          same : j ≡ i
          same = once {B = ℕ × ℕ} (λ (e : Entry). (e.role, e.subject)) no_entry (0, 0) P.entries good.entries_distinct j i (omega (arith, p.inside)) p.inside (rw (role, subject))

  module _ (e : ℕ) (known : e < length P.entries) where
    abbrev objects : List Object
    objects = (entry_at P e).objects

    abbrev object : ℕ
    object = object_in P (entry_at P e) f

    pub object_picked : (i : ℕ) → Picked P f always object_path no_object objects i → Placed P e f i
    unfolding object_in objects_of
    object_picked i p = record {
      inside = p.inside;
      is = here;
      first = place_at (eqb object) none 0 paths i (record {
        inside = within;
        passes = eqb_of (sym here);
        none_before = λ j l t. omega (arith, distinct_at paths none (distinct P good e known) j i (omega (arith, within)) within (sym (eqb-to object _ t) ∙ sym here));
      }) ∙ zero-add i;
    }
      where
        paths : List ℕ
        paths = map object_path objects

        within : i < length paths
        within = rw (length-map objects object_path) p.inside

        here : get_or paths i none ≡ object
        here = map_at object_path objects i no_object none p.inside ∙ sym (rw (only_all objects) at p.is)

    module _ (i : ℕ) (placed : Placed P e f i) where
      pub placed_path : (get_or objects i no_object).path ≡ object
      placed_path = sym (map_at object_path objects i no_object none placed.inside) ∙ unfold objects_of in placed.is

      pub placed_modes : (get_or objects i no_object).modes ≡ modes_of (entry_at P e) object
      placed_modes = modes_at P good e known i placed.inside ∙ ap (modes_of (entry_at P e)) placed_path
