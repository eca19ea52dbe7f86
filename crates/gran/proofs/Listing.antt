-- Document 01's listing: a good policy, so the theorems are not empty, in which the two steps that 01 prints are a run to the write.
-- Assumes nothing.
use mathlib.Core.Path.{◌≡◌, refl, sym, ap, ◌∙◌}
use mathlib.Core.Bool.{true, false, ◌&&◌, So, false≢true}
use mathlib.Core.List.{List, [], ◌∷◌}
use Prim.Native.Nat.{ℕ, zero, suc, ◌<◌}
use native.Mathlib.Omega.{arith}
use lib.Dec.{eqb, lit<, lit≤}
use Rattle.paths.specs.Path.{names, is_path, plain, good_path, under, same}
use Rattle.paths.proofs.Bools.{both, eqb_of}
use Rattle.paths.proofs.Paths.{same_refl}
use Rattle.gran.specs.Lists.{none, any, All, Distinct}
use Rattle.gran.specs.Policy.{Policy, Object, USER, SPECIAL, DEFAULT}
use Rattle.gran.specs.Match.{closer, subjects_of, subjects, paths_of_s, objects_of, subject_in, subject_of, object_in, entry_of, entry_in, modes_of}
use Rattle.gran.specs.Role.{role_of, default_role, chosen, in_force, may_take, allowed_by, allows}
use Rattle.gran.specs.Access.{has, sees, asked, grant, grants}
use Rattle.gran.specs.Exec.{exec_may}
use Rattle.gran.specs.Good.{Good, GoodIds, GoodObject, GoodEntry, is_root, states_of}
use Rattle.gran.specs.Real
use Rattle.gran.specs.Abstract
use Rattle.gran.specs.Abstract.{image}
use Rattle.gran.proofs.Facts.{root, bin, role_with, object, entry_with}

abbrev etc : List ℕ
etc = 47 ∷ 101 ∷ 116 ∷ 99 ∷ 47 ∷ []

abbrev ntp : List ℕ
ntp = 47 ∷ 101 ∷ 116 ∷ 99 ∷ 47 ∷ 110 ∷ 116 ∷ 112 ∷ 47 ∷ []

abbrev pub listing : Policy
listing = record {
  roles = role_with DEFAULT 0 ∷ role_with USER 1000 ∷ role_with SPECIAL 0 ∷ [];
  paths = root ∷ bin ∷ etc ∷ [];
  moves = record { role = 1; special = 2 } ∷ [];
  entries =
      entry_with 0 0 (object 0 8 ∷ [])
      ∷ entry_with 1 0 (object 0 1 ∷ object 2 8 ∷ [])
      ∷ entry_with 2 0 (object 0 1 ∷ object 1 5 ∷ [])
      ∷ entry_with 2 1 (object 0 1 ∷ object 2 3 ∷ [])
      ∷ [];
}

abbrev pub begin : Real.State
begin = Real.start 1000 100 root

abbrev pub shown : List Abstract.Act
shown = Abstract.set_special 2 ∷ Abstract.exec 1 1 none 1 ∷ []

-- Its two steps are an abstract run to the write, and the acts that show it are those it prints.
pub listing_found : Abstract.run listing (Abstract.abstract listing begin) shown && Abstract.access listing 1 ntp (Abstract.last (Abstract.abstract listing begin) shown) ≡ true
unfolding names is_path under closer subjects_of subjects objects_of subject_in subject_of object_in entry_of entry_in modes_of role_of default_role chosen in_force may_take allowed_by allows has sees asked grant grants exec_may image Abstract.role Abstract.abstract Abstract.entry Abstract.id_for Abstract.reaches Abstract.may_exec Abstract.may Abstract.access
listing_found = refl

pub listing_shown : Abstract.real_acts listing begin shown ≡ Real.set_special 2 ∷ Real.exec bin 1000 100 ∷ []
unfolding names is_path under closer subjects_of subjects objects_of subject_in subject_of object_in entry_of entry_in modes_of role_of default_role chosen in_force may_take allowed_by allows has sees asked grant grants exec_may Real.role Real.entry Abstract.id_for Abstract.id_after Abstract.executed Abstract.real_act
listing_shown = refl

-- ---- the listing is good

apart : (p r : List ℕ) → same p r ≡ false → p ≡ r → ⊥
apart p r e d = false≢true (sym e ∙ ap (same p) (sym d) ∙ same_refl p)

no_ids : GoodIds (record { mode = 1; ids = [] })
no_ids = record { mode = lit≤ tt; range = tt; distinct = tt; few = lit≤ tt; none_listed = λ e. refl }

good-object : {p m : ℕ} → p < 3 → m < 32 → GoodObject listing (object p m)
good-object l k = record { path = l; modes = k }

good-entry : (r s : ℕ) (os : List Object) → r < 3 → s < 3 → All (GoodObject listing) os → Distinct (objects_of (entry_with r s os)) → So (any (is_root listing) (objects_of (entry_with r s os))) → GoodEntry listing (entry_with r s os)
good-entry r s os l k all d root = record { role = l; subject = k; caps = lit< tt; users = no_ids; groups = no_ids; objects = all; distinct = d; rooted = root }

pairs_apart : (a b c d : ℕ) → eqb a c && eqb b d ≡ false → ◌≡◌ {A = ℕ × ℕ} (a, b) (c, d) → ⊥
pairs_apart a b c d h e = false≢true (sym h ∙ both (eqb_of (ap (λ (x : ℕ × ℕ). x.0) e)) (eqb_of (ap (λ (x : ℕ × ℕ). x.1) e)))

rooted : (r : ℕ) → r < 3 → So (any (is_root listing) (subjects_of listing r))
unfolding subjects_of
rooted zero l = refl
rooted (suc zero) l = refl
rooted (suc (suc zero)) l = refl
rooted (suc (suc (suc r))) l = absurd (omega arith)

pub listing_good : Good listing
unfolding objects_of subjects_of subjects paths_of_s states_of is_path plain good_path
listing_good = record {
  roles = (
    record { known = refl; id_range = lit< tt; id_zero = λ t. refl },
    (
      record { known = refl; id_range = lit< tt; id_zero = λ t. absurd (false≢true t) },
      (record { known = refl; id_range = lit< tt; id_zero = λ t. refl }, tt),
    ),
  );
  paths = (
    refl,
    (
      refl,
      (refl, tt),
    ),
  );
  moves = (record { from = lit< tt; to = lit< tt; special = refl }, tt);
  entries = (
    good-entry 0 0 _ (lit< tt) (lit< tt) (good-object (lit< tt) (lit< tt), tt) (tt, tt) refl,
    (
      good-entry 1 0 _ (lit< tt) (lit< tt) (good-object (lit< tt) (lit< tt), (good-object (lit< tt) (lit< tt), tt)) ((λ e. omega (arith, e), tt), (tt, tt)) refl,
      (
        good-entry 2 0 _ (lit< tt) (lit< tt) (good-object (lit< tt) (lit< tt), (good-object (lit< tt) (lit< tt), tt)) ((λ e. omega (arith, e), tt), (tt, tt)) refl,
        (good-entry 2 1 _ (lit< tt) (lit< tt) (good-object (lit< tt) (lit< tt), (good-object (lit< tt) (lit< tt), tt)) ((λ e. omega (arith, e), tt), (tt, tt)) refl, tt),
      ),
    ),
  );
  one_default = refl;
  rooted = rooted;
  users_distinct = (tt, tt);
  groups_distinct = tt;
  moves_distinct = (tt, tt);
  paths_distinct = ((apart root bin refl, (apart root etc refl, tt)), ((apart bin etc refl, tt), (tt, tt)));
  entries_distinct = (
    (pairs_apart 0 0 1 0 refl, (pairs_apart 0 0 2 0 refl, (pairs_apart 0 0 2 1 refl, tt))),
    (
      (pairs_apart 1 0 2 0 refl, (pairs_apart 1 0 2 1 refl, tt)),
      (
        (pairs_apart 2 0 2 1 refl, tt),
        (tt, tt),
      ),
    ),
  );
  few_users = lit≤ tt;
  few_groups = lit≤ tt;
  few_specials = lit≤ tt;
  few_paths = lit≤ tt;
  few_entries = lit≤ tt;
  few_objects = lit≤ tt;
  few_states = lit≤ tt;
}
