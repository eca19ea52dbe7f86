-- The numbers that pass, as a loop writes them; S among the paths; the marks of the paths that an entry has as its subject.
-- Assumes nothing.
use mathlib.Core.Path.{◌≡◌, refl, sym, ◌∙◌}
use mathlib.Core.Bool.{Bool, true, false, cond, ◌||◌, or-true, or-false, So}
use mathlib.Core.List.{List, ◌∷◌}
use Prim.Native.Nat.{ℕ, zero, suc, ◌+◌, ◌-◌, ◌≤◌, ◌<◌, zero-le}
use native.Mathlib.Decide.{ℕ_discrete}
use native.Mathlib.Omega.{arith}
use borrow.Author.Tests.{eq-eqb, ne_eqb}
use lib.Dec.{eqb}
use lib.ListN.{length, get_or, drop, set, length-map, replicate}
use lib.Seq.{get_or-set_same, get_or-set_other}
use Rattle.rows.proofs.Tables.{map_at}
use Rattle.gran.specs.Lists.{only, numbers, member}
use Rattle.gran.specs.Policy.{Policy}
use Rattle.gran.specs.Match.{is_subject, subjects, paths_of_s, subject_path, no_entry}
use Rattle.gran.proofs.Lists.{numbers-next, any_next, any-end}
use Rattle.store.specs.Held.{Loaded}
use Rattle.fields.specs.Fields.{path_count, entry_count, entry_subject}
use Rattle.fields.proofs.Header.{path-count, entry-count}
use Rattle.fields.proofs.Entries.{entry-subject}
use Rattle.tables.specs.Regions.{Written}
use Rattle.tables.proofs.Front.{written_more, written_kept}

module _ (test : ℕ → Bool) (c n : ℕ) (h : c < n) where
  -- Those that pass from c on, where c passes and where it does not.
  pub numbers_here : So (test c) → only test (numbers c (n - c)) ≡ c ∷ only test (numbers (c + 1) (n - (c + 1)))
  numbers_here t = rw (numbers-next c n h, t)

  pub numbers-not : test c ≡ false → only test (numbers c (n - c)) ≡ only test (numbers (c + 1) (n - (c + 1)))
  numbers-not t = rw (numbers-next c n h, t)

-- One number more is written, and counts where it passes.
pub passing_more : (test : ℕ → Bool) (c n : ℕ) {whole : List ℕ} {at : ℕ} {part : List ℕ} (b : Bool) → c < n → b ≡ test c → length whole ≤ length part → Written whole at part (only test (numbers c (n - c)))
    → Written whole (cond b (at + 1) at) (set part at c) (only test (numbers (c + 1) (n - (c + 1))))
passing_more test c n true h e room w = written_more c _ room (rw (numbers_here test c n h (sym e)) at w)
passing_more test c n false h e room w = written_kept c _ (rw (numbers-not test c n h (sym e)) at w)

-- ---- S, among the paths

module _ {P : Policy} {rest s : List ℕ} (L : Loaded P rest s) where
  pub subjects_begin : (part : List ℕ) → Written (paths_of_s P) 0 part (only (is_subject P) (numbers 0 (path_count s)))
  unfolding paths_of_s
  subjects_begin part = record { inside = zero-le; is = rw (path-count L) }

-- ---- marks

-- The numbers of xs up to place i are marked.
abbrev pub Marked : List ℕ → List Bool → ℕ → Type 0
Marked xs marks i = (s : ℕ) → member s xs ≡ (get_or marks s false || member s (drop i xs))

pub marks_begin : (xs : List ℕ) (n : ℕ) → Marked xs (replicate n false) 0
marks_begin xs n s = rw (none n s)
  where
    none : (n s : ℕ) → get_or (replicate n false) s false ≡ false
    none zero s = refl
    none (suc n) zero = refl
    none (suc n) (suc s) = none n s

module _ (xs : List ℕ) (marks : List Bool) (i : ℕ) (marked : Marked xs marks i) where
  pub marks-next : i < length xs → (x : ℕ) → x ≡ get_or xs i 0 → x < length marks → Marked xs (set marks x true) (i + 1)
  marks-next h x e l s = go (ℕ_discrete s x)
    where
      go : Dec (s ≡ x) → member s xs ≡ (get_or (set marks x true) s false || member s (drop (i + 1) xs))
      go (yes p) = marked s ∙ rw (p, get_or-set_same marks x true false l, any_next (eqb x) xs i 0 h true (sym (eq-eqb x _ e))) (or-true (get_or marks x false))
      go (no d) = marked s ∙ rw (get_or-set_other marks x s true false d, any_next (eqb s) xs i 0 h false (sym (ne_eqb s _ (λ p. d (p ∙ sym e)))))

  pub marks-end : length xs ≤ i → (s : ℕ) → member s xs ≡ get_or marks s false
  marks-end h s = marked s ∙ rw (any-end (eqb s) xs i h) (or-false _)

-- ---- the loop over the entries

module _ {P : Policy} {rest s : List ℕ} (L : Loaded P rest s) where
  pub subjects_long : length (subjects P) ≡ entry_count s
  unfolding subjects
  subjects_long = length-map P.entries subject_path ∙ sym (entry-count L)

  pub subject_at : (e : ℕ) → e < entry_count s → entry_subject s e ≡ get_or (subjects P) e 0
  unfolding subjects
  subject_at e h =
      let inside : e < length P.entries = omega (arith, entry-count L) in
      entry-subject L e inside ∙ sym (map_at subject_path P.entries e no_entry 0 inside)
