-- Rows in bytes, and what a search of them says of the elements that they stand for.
-- Assumes nothing.
use mathlib.Core.Path.{◌≡◌, ◌∙◌, refl, ap, sym}
use mathlib.Core.Bool.{Bool, true, false, ◌&&◌, So, and-true}
use mathlib.Core.List.{List, [], ◌∷◌, ◌++◌, map, append_assoc}
use Prim.Native.Nat.{ℕ, ◌+◌, ◌-◌, ◌*◌, ◌/◌, ◌%◌, ◌≤◌, ◌<◌}
use native.Mathlib.Omega.{arith}
use lib.Dec.{eqb}
use borrow.Author.Tests.{eq-eqb}
use lib.ListN.{length, take, drop, length-map}
use lib.Seq.{drop_at, take-append-add, drop-drop}
use Rattle.paths.specs.Path.{same}
use Rattle.paths.proofs.Bools.{iff-≡, left, right, eqb_of, eqb-to, to-false}
use Rattle.paths.proofs.Paths.{same→≡}
use Rattle.lines.specs.Line.{zeros}
use Rattle.rows.specs.Rows.{joined, rows_of, begins_with, has_row}
use Rattle.rows.proofs.Tables.{joined_length, rows_read, wide-map}
use Rattle.gran.specs.Lists.{any, member}
use Rattle.gran.specs.Policy.{Role, Move, Object, Entry}
use Rattle.gran.specs.Match.{object_path, is_entry}
use Rattle.gran.specs.Role.{is_role, is_move}
use Rattle.store.specs.Layout.{four, ids_of, role_row, move_row, object_row, entry_row, entry_rows}
use Rattle.store.proofs.Reading.{four_number}

-- ---- rows in bytes

pub joined-map : {A : Type 0} (row : A → List ℕ) (xs ys : List A) → joined (map row (xs ++ ys)) ≡ joined (map row xs) ++ joined (map row ys)
unfolding joined
joined-map row [] ys = refl
joined-map row (x ∷ xs) ys = rw (joined-map row xs ys) (sym (append_assoc (row x) (joined (map row xs)) (joined (map row ys))))

-- The bytes begin with these.
abbrev pub Starts : List ℕ → List ℕ → Type 0
Starts bytes p = (rest : List ℕ) × (bytes ≡ p ++ rest)

pub starts_front : (bytes p q : List ℕ) → Starts bytes (p ++ q) → Starts bytes p
starts_front bytes p q s = (q ++ s.0, s.1 ∙ append_assoc p q s.0)

pub starts_skip : (bytes : List ℕ) (a n : ℕ) (p q : List ℕ) → Starts (drop a bytes) (p ++ q) → length p ≡ n → Starts (drop (a + n) bytes) q
starts_skip bytes a n p q s l = (s.0, rw (← drop-drop n a bytes, s.1, append_assoc p q s.0) (drop_at p (q ++ s.0) n l))

pub starts-taken : (bytes p : List ℕ) (k : ℕ) → Starts bytes p → length p ≤ k → Starts (take k bytes) p
starts-taken bytes p k (rest, e) h =
    let long : length p + (k - length p) ≡ k = omega arith in
    (take (k - length p) rest, ap (λ (n : ℕ). take n bytes) (sym long) ∙ rw e (take-append-add p rest (k - length p)))

-- the rows that bytes begin with
pub rows-length : {A : Type 0} (width : ℕ) (row : A → List ℕ) → ((x : A) → length (row x) ≡ width) → (xs : List A) → length (joined (map row xs)) ≡ length xs * width
rows-length width row wide xs = joined_length width (map row xs) (wide-map width row wide xs) ∙ rw (length-map xs row)

pub starts_read : {A : Type 0} (width : ℕ) (row : A → List ℕ) → ((x : A) → length (row x) ≡ width) → (xs : List A) (bytes : List ℕ) (n : ℕ) → Starts bytes (joined (map row xs)) → n ≡ length xs → rows_of width n bytes ≡ map row xs
starts_read width row wide xs bytes n (rest, e) c = rw (e, c, ← length-map xs row) (rows_read width (map row xs) rest (wide-map width row wide xs))

-- ---- a search of rows is a test of elements

pub found_entries : (key : List ℕ) (test : Entry → Bool) → ((object id : ℕ) (e : Entry) → begins_with key (entry_row object id e) ≡ test e) → (object id : ℕ) (es : List Entry) →
    has_row key (entry_rows object id es) ≡ any test es
unfolding has_row entry_rows
found_entries key test f object id [] = refl
found_entries key test f object id (e ∷ es) = rw (f object id e, found_entries key test f (object + length e.objects) (id + 4 * length (ids_of e)) es)

-- ---- keys

pub eqb-sym : (m n : ℕ) → eqb m n ≡ eqb n m
eqb-sym m n = iff-≡ _ _ (λ t. eqb_of (sym (eqb-to m n t))) (λ t. eqb_of (sym (eqb-to n m t)))

begins_self : (xs ys : List ℕ) → So (begins_with xs (xs ++ ys))
unfolding begins_with
begins_self [] ys = refl
begins_self (x ∷ xs) ys = rw (eq-eqb x x refl) (begins_self xs ys)

four_parts : (a b c d : Bool) → So (a && (b && (c && (d && true)))) → So a × So b × So c × So d
four_parts a b c d t =
    let u = right a (b && (c && (d && true))) t in
    let v = right b (c && (d && true)) u in
    let w = right c (d && true) v in
    (left a (b && (c && (d && true))) t, left b (c && (d && true)) u, left c (d && true) v, left d true w)

-- the bytes of a number begin those of another where the numbers are the same
module _ (n m : ℕ) (h : n < 4294967296) (l : m < 4294967296) where
  four_same : (rest : List ℕ) → So (begins_with (four n) (four m ++ rest)) → n ≡ m
  unfolding four begins_with
  four_same rest t =
      let p = four_parts (eqb (n / 16777216 % 256) (m / 16777216 % 256)) (eqb (n / 65536 % 256) (m / 65536 % 256)) (eqb (n / 256 % 256) (m / 256 % 256)) (eqb (n % 256) (m % 256)) t in
      let a : n / 16777216 % 256 ≡ m / 16777216 % 256 = eqb-to _ _ p.0 in
      let b : n / 65536 % 256 ≡ m / 65536 % 256 = eqb-to _ _ p.1 in
      let c : n / 256 % 256 ≡ m / 256 % 256 = eqb-to _ _ p.2 in
      let d : n % 256 ≡ m % 256 = eqb-to _ _ p.3 in
      sym (four_number n h) ∙ rw (a, b, c, d) (four_number m l)

  pub four-begins : (rest : List ℕ) → begins_with (four n) (four m ++ rest) ≡ eqb n m
  four-begins rest = iff-≡ _ _ (λ t. eqb_of (four_same rest t)) (λ t. rw (eqb-to n m t) (begins_self (four m) rest))

pub role-begins : (kind n : ℕ) (r : Role) → n < 4294967296 → r.id < 4294967296 → begins_with (kind ∷ four n) (role_row r) ≡ is_role kind n r
unfolding role_row begins_with
role-begins kind n r h l = rw (four-begins n r.id h l (zeros 17), eqb-sym kind r.kind, eqb-sym n r.id)

pub move-begins : (r s : ℕ) (m : Move) → begins_with (r ∷ s ∷ []) (move_row m) ≡ is_move r s m
unfolding move_row begins_with
move-begins r s m = rw (eqb-sym r m.role, eqb-sym s m.special, and-true (eqb m.special s))

pub entry-begins : (s r : ℕ) (object id : ℕ) (e : Entry) → begins_with (s ∷ r ∷ []) (entry_row object id e) ≡ is_entry r s e
unfolding entry_row begins_with
entry-begins s r object id e = rw (eqb-sym r e.role) (swap (eqb s e.subject) (eqb e.role r))
  where
    swap : (a b : Bool) → (a && (b && true)) ≡ (b && a)
    swap true true = refl
    swap true false = refl
    swap false true = refl
    swap false false = refl

pub found_objects : (p : ℕ) (os : List Object) → has_row (p ∷ []) (map object_row os) ≡ member p (map object_path os)
unfolding has_row begins_with object_row
found_objects p [] = refl
found_objects p (o ∷ os) = rw (found_objects p os, and-true (eqb p o.path))

-- ---- paths

pub begins-same : (p q : List ℕ) → length p ≡ length q → begins_with p q ≡ same p q
unfolding begins_with
begins-same [] [] e = refl
begins-same [] (c ∷ q) e = absurd (omega arith)
begins-same (b ∷ p) [] e = absurd (omega arith)
begins-same (b ∷ p) (c ∷ q) e = rw (begins-same p q (omega arith))

pub same_long : (p q : List ℕ) → (length p ≡ length q → ⊥) → same p q ≡ false
same_long p q n = to-false _ (λ t. n (ap length (same→≡ p q t)))
