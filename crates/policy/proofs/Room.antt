-- What a text's length bounds: the paths' bytes, the moves and the listed ids have room in the pool.
-- Assumes nothing.
use mathlib.Core.Path.{◌≡◌}
use mathlib.Core.Bool.{true, So}
use mathlib.Core.List.{List, [], ◌∷◌, ◌++◌, append-nil}
use Prim.Native.Nat.{ℕ, ◌+◌, ◌-◌, ◌*◌, ◌≤◌}
use native.Mathlib.Nat.{le-add_right}
use native.Mathlib.Omega.{arith}
use borrow.Author.Tests.{leb-true}
use lib.ListN.{length, length-append, length-take}
use Rattle.paths.specs.Path.{good_path}
use Rattle.paths.proofs.Bools.{left}
use Rattle.paths.proofs.Paths.{good_short}
use Rattle.lines.specs.declared.Frame.{Frame}
use Rattle.lines.specs.Line.{decoded}
use Rattle.rows.specs.Rows.{joined}
use Rattle.rows.proofs.Tables.{joined_append}
use Rattle.gran.specs.Lists.{All}
use Rattle.gran.specs.Policy.{Policy, Entry}
use Rattle.store.specs.Layout.{ids_of, all_ids}
use Rattle.gran.proofs.Lists.{length_more}
use Rattle.store.proofs.Growing.{ids_more, changed-length}
use Rattle.store.specs.Grow.{with_entries, on_last, add_object, add_uid, add_gid}
use Rattle.policy.specs.Frames.{type_of, path_from, frame_table, fits_table, entry_from, object_from, id_from}
use Rattle.policy.specs.Load.{Load, add, after, refusal_of}
use Rattle.policy.specs.Sound.{SoundEntry, SoundPolicy, least_text, Roomy}
use Rattle.policy.proofs.Types.{Other, by_type, add_other}
use Rattle.policy.proofs.Moves.{few_moves}
use Rattle.policy.proofs.Refusals.{taken}

-- ---- in a sound policy

short_paths : (ps : List (List ℕ)) → All (λ (p : List ℕ). So (good_path true p)) ps → length (joined ps) ≤ 64 * length ps
unfolding joined
short_paths [] h = omega arith
short_paths (p ∷ ps) h = rw length-append (omega (arith, good_short true p h.0, short_paths ps h.1))

few_ids : (roles paths : ℕ) (es : List Entry) → All (SoundEntry roles paths) es → length (all_ids es) ≤ 32 * length es
unfolding all_ids ids_of
few_ids roles paths [] h = omega arith
few_ids roles paths (e ∷ es) h = simp length-append (omega (arith, h.0.users.few, h.0.groups.few, few_ids roles paths es h.1))

pub roomy : (P : Policy) → SoundPolicy P → least_text P ≤ 32768 → Roomy P
unfolding least_text
roomy P sound h = record {
  moves = few_moves P sound;
  pool = omega (arith, short_paths P.paths sound.paths.good, few_ids _ _ P.entries sound.entries.good, sound.paths.few);
}

-- ---- one frame more

-- A change of the last entry that adds at most k ids.
ids-on_last : (g : Entry → Entry) (k : ℕ) → ((e : Entry) → length (ids_of (g e)) ≤ length (ids_of e) + k) → (es : List Entry) → length (all_ids (on_last g es)) ≤ length (all_ids es) + k
unfolding all_ids on_last
ids-on_last g k f [] = omega arith
ids-on_last g k f (e ∷ []) = simp length-append (omega (arith, f e))
ids-on_last g k f (e ∷ (d ∷ es)) = longer (ids_of e) (all_ids (on_last g (d ∷ es))) (all_ids (d ∷ es)) (ids-on_last g k f (d ∷ es))
  where
    longer : (xs ys zs : List ℕ) → length ys ≤ length zs + k → length (xs ++ ys) ≤ length (xs ++ zs) + k
    longer xs ys zs h = simp length-append (omega arith)

-- What a frame adds takes no more text than its line has.
module _ (P : Policy) (f : Frame) (fits : So (fits_table frame_table (type_of f) (f.size - 1))) where
  Short : Type 0
  Short = least_text (add P f) ≤ least_text P + (2 * f.size + 1)

  text-10 : type_of f ≡ 0x10 → Short
  unfolding Short least_text add
  text-10 e = rw e (omega arith)

  text-20 : type_of f ≡ 0x20 → Short
  unfolding Short least_text add fits_table path_from
  text-20 e =
      let some : 1 ≤ f.size - 1 = leb-true 1 (f.size - 1) (left _ _ (rw e at fits)) in
      let size : length (path_from f) ≤ f.size - 1 = rw length-take (omega arith) in
      rw (e, length_more, joined_append, length-append) (omega arith)

  text-30 : type_of f ≡ 0x30 → Short
  unfolding Short least_text add fits_table
  text-30 e =
      let size : 2 ≤ f.size - 1 = leb-true 2 (f.size - 1) (left _ _ (rw e at fits)) in
      rw (e, length_more) (omega arith)

  text-40 : type_of f ≡ 0x40 → Short
  unfolding Short least_text add fits_table ids_of
  text-40 e =
      let size : 5 ≤ f.size - 1 = leb-true 5 (f.size - 1) (left _ _ (rw e at fits)) in
      rw (e, length_more, ids_more P.entries (entry_from f), append-nil (all_ids P.entries)) (omega arith)

  -- The last entry has k ids more.
  last_text : (g : Entry → Entry) (k : ℕ) → add P f ≡ with_entries P (on_last g P.entries) → ((e : Entry) → length (ids_of (g e)) ≤ length (ids_of e) + k)
      → 11 * k ≤ 2 * f.size + 1 → Short
  unfolding Short least_text
  last_text g k e more size = rw (e, changed-length) (omega (arith, ids-on_last g k more P.entries))

  text-41 : type_of f ≡ 0x41 → Short
  unfolding add ids_of
  text-41 e = last_text (add_object (object_from f)) 0 (rw e) (λ d. omega arith) (omega arith)

  text-42 : type_of f ≡ 0x42 → Short
  unfolding add fits_table ids_of
  text-42 e =
      let size : 4 ≤ f.size - 1 = leb-true 4 (f.size - 1) (left _ _ (rw e at fits)) in
      last_text (add_uid (id_from f)) 1 (rw e) (λ d. simp length-append (omega arith)) (omega arith)

  text-43 : type_of f ≡ 0x43 → Short
  unfolding add fits_table ids_of
  text-43 e =
      let size : 4 ≤ f.size - 1 = leb-true 4 (f.size - 1) (left _ _ (rw e at fits)) in
      last_text (add_gid (id_from f)) 1 (rw e) (λ d. simp length-append (omega arith)) (omega arith)

  text_other : Other (type_of f) → Short
  unfolding Short
  text_other o = rw (add_other P f o) (le-add_right (least_text P) (2 * f.size + 1))

  pub text-add : least_text (add P f) ≤ least_text P + (2 * f.size + 1)
  unfolding Short
  text-add = by_type (type_of f) text-10 text-20 text-30 text-40 text-41 text-42 text-43 text_other

pub text_line : (s : Load) (line : List ℕ) → refusal_of s line ≡ 0 → least_text (after s (decoded line)).policy ≤ least_text s.policy + length line
unfolding after
text_line s line e = let t = taken s line e in omega (arith, t.long, text-add s.policy (decoded line) t.passed.fits)
