-- The parts put together: the lists, the tests, and all tables.
-- Assumes nothing.
use mathlib.Core.Path.{◌≡◌, sym, ap, subst, ◌∙◌}
use mathlib.Core.List.{List, [], ◌∷◌}
use Prim.Native.Nat.{ℕ, ◌+◌, ◌*◌, ◌≤◌, ◌<◌}
use native.Mathlib.Nat.{zero-add}
use native.Mathlib.Omega.{arith}
use lib.ListN.{length, get_or, take, drop, set, length-set}
use lib.Seq.{get_or-take, get_or-drop, get_or-set_same, take-take}
use Rattle.rows.proofs.Parts.{part_length}
use Rattle.gran.specs.Lists.{none}
use Rattle.gran.specs.Policy.{Policy, USER, GROUP, SPECIAL}
use Rattle.gran.specs.Match.{paths_of_s}
use Rattle.gran.specs.Role.{default_role}
use Rattle.gran.specs.Reach.{Question}
use Rattle.gran.proofs.Counting.{few-subjects}
use Rattle.runs.specs.Steps.{choices}
use Rattle.store.specs.Held.{Loaded}
use Rattle.fields.specs.Fields.{role_count, entry_count, path_count, subject_count}
use Rattle.fields.proofs.Header.{role-count, path-count, entry-count, subject-count}
use Rattle.lookup.specs.Lookup.{Graded}
use Rattle.tables.specs.Tables.{cell, is_set, subject_path_at, Tabled}
use Rattle.tables.specs.Regions.{holds, Front, Region, Stands, Grants, offers, rows_for, Offers, Lists, Tests, Row, RowsFilled}
use Rattle.tables.proofs.Front.{front_at}
use Rattle.tables.proofs.Choices.{choices-length}
use Rattle.tables.proofs.Parts.{Parts, part_is}
use Rattle.tables.proofs.Rows.{offer_at}

pub lists_of : {P : Policy} (specials users groups subjects t : List ℕ) → Parts (specials ∷ users ∷ groups ∷ subjects ∷ []) (8 ∷ 16 ∷ 8 ∷ 64 ∷ []) 96 96 t
    → Front (choices P SPECIAL) specials → Front (choices P USER) users → Front (choices P GROUP) groups → Front (paths_of_s P) subjects → Lists P t
lists_of {P} specials users groups subjects t p a b c d = record {
  specials = subst (Front (choices P SPECIAL)) (sym (part_is p 0 (omega arith)).lent) a;
  users = subst (Front (choices P USER)) (sym (part_is p 1 (omega arith)).lent) b;
  groups = subst (Front (choices P GROUP)) (sym (part_is p 2 (omega arith)).lent) c;
  subjects = subst (Front (paths_of_s P)) (sym (part_is p 3 (omega arith)).lent) d;
}

module _ {P : Policy} {rest s : List ℕ} (L : Loaded P rest s) where
  few_specials : length (choices P SPECIAL) ≤ 8
  few_specials = omega (arith, choices-length P SPECIAL, L.good.few_specials)

  few_users : length (choices P USER) ≤ 16
  few_users = omega (arith, choices-length P USER, L.good.few_users)

  few_groups : length (choices P GROUP) ≤ 8
  few_groups = omega (arith, choices-length P GROUP, L.good.few_groups)

  pub few : length (paths_of_s P) ≤ 64
  few = omega (arith, few-subjects P, L.fits.entries)

  module _ (lists : List ℕ) (long : length lists ≡ 96) (listed : Lists P lists) where
    -- A number of a list that stands from b on.
    list_at : (b m : ℕ) (xs : List ℕ) → Front xs (take m (drop b lists)) → length xs ≤ m → b + m ≤ 96 → (j : ℕ) → j < length xs → cell lists (b + j) ≡ get_or xs j none
    list_at b m xs front small room j h =
        let wide = part_length b m lists (omega arith) in
        let inside : j < m = omega arith in
        sym (get_or-take m (drop b lists) j 0 inside ∙ get_or-drop b lists j 0) ∙ front_at xs (take m (drop b lists)) j front (omega arith) h

    pub subjects_are : take (subject_count s) (drop 32 lists) ≡ paths_of_s P
    subjects_are =
        let wide = part_length 32 64 lists (omega arith) in
        rw (subject-count L) (sym (take-take (length (paths_of_s P)) 64 (drop 32 lists) few) ∙ listed.subjects (omega (arith, few)))

    pub tests_of : (kind roles entries default : ℕ) (target grades grants takes old fallback groups users part : List ℕ)
        → Parts (grants ∷ takes ∷ fallback ∷ groups ∷ users ∷ []) (64 ∷ 240 ∷ 16 ∷ 512 ∷ 1024 ∷ []) 1856 1856 part
        → roles ≡ role_count s → entries ≡ entry_count s → Graded P target grades → default ≡ default_role P → fallback ≡ set old 0 default
        → Region s (Grants kind grades) (entry_count s) grants
        → Region s (Offers SPECIAL (take 8 lists)) (roles * length (take 8 lists)) takes
        → Region s (Offers GROUP (take 8 (drop 24 lists))) (entries * length (take 8 (drop 24 lists))) groups
        → Region s (Offers USER (take 16 (drop 8 lists))) (entries * length (take 16 (drop 8 lists))) users
        → Tests P (record { kind = kind; target = target }) part
    unfolding offers rows_for
    tests_of kind roles entries default target grades grants takes old fallback groups users part p roles-are entries-are graded default-is stored granted taken grouped used = record {
      grant = λ e h.
          let at = rw (zero-add e) at ((part_is p 0 (omega arith)).read e (omega (arith, L.fits.entries))) in
          rw at (granted P rest L e (omega (arith, entry-count L)) (omega (arith, (part_is p 0 (omega arith)).long, L.fits.entries)) target graded h);
      take = λ r j h l.
          let at = (part_is p 1 (omega arith)).read (8 * r + j) (omega (arith, L.fits.roles, few_specials)) in
          rw at (offer_at L SPECIAL roles 8 (take 8 lists) takes (part_length 0 8 lists (omega arith)) listed.specials taken (omega (arith, role-count L)) (omega (arith, role-count L, (part_is p 1 (omega arith)).long, L.fits.roles)) few_specials r j h l);
      fallback =
          let room = sym (length-set old 0 default) ∙ ap length (sym stored) ∙ (part_is p 2 (omega arith)).long in
          (part_is p 2 (omega arith)).read 0 (omega arith) ∙ ap (λ (l : List ℕ). cell l 0) stored ∙ get_or-set_same old 0 default 0 (omega arith) ∙ default-is;
      group = λ e j h l.
          let at = (part_is p 3 (omega arith)).read (8 * e + j) (omega (arith, L.fits.entries, few_groups)) in
          rw at (offer_at L GROUP entries 8 (take 8 (drop 24 lists)) groups (part_length 24 8 lists (omega arith)) listed.groups grouped (omega (arith, entry-count L)) (omega (arith, entry-count L, (part_is p 3 (omega arith)).long, L.fits.entries)) few_groups e j h l);
      user = λ e j h l.
          let at = (part_is p 4 (omega arith)).read (16 * e + j) (omega (arith, L.fits.entries, few_users)) in
          rw at (offer_at L USER entries 16 (take 16 (drop 8 lists)) users (part_length 8 16 lists (omega arith)) listed.users used (omega (arith, entry-count L)) (omega (arith, entry-count L, (part_is p 4 (omega arith)).long, L.fits.entries)) few_users e j h l);
    }

    pub tabled_of : (q : Question) (subjects first stands tests rows t : List ℕ) → Parts (first ∷ stands ∷ tests ∷ rows ∷ []) (96 ∷ 96 ∷ 1856 ∷ 6144 ∷ []) 8192 8192 t
        → first ≡ lists → subjects ≡ paths_of_s P → Region s (Stands subjects) (path_count s) stands → Tests P q tests → RowsFilled s subjects (length subjects) rows → Tabled P q t
    unfolding is_set holds
    tabled_of q subjects first stands tests rows t p copied own stood tested filled = record {
      long = p.long;
      special = λ j h. rw (zero-add j) at (first_at 0 j (omega (arith, few_specials)) ∙ list_at 0 8 (choices P SPECIAL) listed.specials few_specials (omega arith) j h);
      user = λ j h. first_at 8 j (omega (arith, few_users)) ∙ list_at 8 16 (choices P USER) listed.users few_users (omega arith) j h;
      group = λ j h. first_at 24 j (omega (arith, few_groups)) ∙ list_at 24 8 (choices P GROUP) listed.groups few_groups (omega arith) j h;
      subject = λ j h. first_at 32 j (omega (arith, few)) ∙ list_at 32 64 (paths_of_s P) listed.subjects few (omega arith) j h;
      stand = λ c h.
          (part_is p 1 (omega arith)).read c (omega (arith, L.fits.paths))
          ∙ stood P rest L c (omega (arith, path-count L)) (omega (arith, (part_is p 1 (omega arith)).long, L.fits.paths)) own;
      grant = λ e h. rw ((part_is p 2 (omega arith)).read e (omega (arith, L.fits.entries))) (tested.grant e h);
      take = λ r j h l. rw (test_at (256 + (8 * r + j)) (64 + (8 * r + j)) (omega arith) (omega (arith, L.fits.roles, few_specials))) (tested.take r j h l);
      fallback = test_at 496 304 (omega arith) (omega arith) ∙ tested.fallback;
      group_reach = λ e j h l. rw (test_at (512 + (8 * e + j)) (320 + (8 * e + j)) (omega arith) (omega (arith, L.fits.entries, few_groups))) (tested.group e j h l);
      user_reach = λ e j h l. rw (test_at (1024 + (16 * e + j)) (832 + (16 * e + j)) (omega arith) (omega (arith, L.fits.entries, few_users))) (tested.user e j h l);
      force = λ k r h l.
          rw ((part_is p 3 (omega arith)).read (32 * k + r) (omega (arith, L.fits.roles, few))) ((row k h).force r l);
      object = λ k e h l.
          let at : 4096 + (64 * k + e) ≡ 2048 + (2048 + (64 * k + e)) = omega arith in
          rw (at, (part_is p 3 (omega arith)).read (2048 + (64 * k + e)) (omega (arith, L.fits.entries, few))) ((row k h).object e l);
    }
      where
        first_at : (b j : ℕ) → b + j < 96 → cell t (b + j) ≡ cell lists (b + j)
        first_at b j h = rw (zero-add (b + j)) at ((part_is p 0 (omega arith)).read (b + j) h) ∙ ap (λ (l : List ℕ). cell l (b + j)) copied

        test_at : (i j : ℕ) → i ≡ 192 + j → j < 1856 → cell t i ≡ cell tests j
        test_at i j e h = rw e ((part_is p 2 (omega arith)).read j h)

        row : (k : ℕ) → k < length (paths_of_s P) → Row P (subject_path_at P k) k rows
        row k h = rw own at (filled P rest L own k (rw own h))
