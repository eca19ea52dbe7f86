-- Those of a range that pass a test, listed: what one more adds to them, and that to visit what each of the list gives is to visit what each of
-- the range that passes gives. So for the subjects of an image, and for the groups and the users that can follow.
-- Assumes nothing.
use mathlib.Core.Path.{◌≡◌, refl, sym, ap, subst, ◌∙◌}
use mathlib.Core.Logic.{⊎_elim}
use mathlib.Core.Bool.{Bool, So, true, false, not, cond, and-eq-true_iff}
use mathlib.Core.List.{List, [], ◌∷◌, ◌++◌, append_assoc, append-nil, Memᴰ}
use Prim.Native.Nat.{ℕ, zero, suc, ◌+◌, ◌*◌, ◌≤◌, ◌<◌}
use native.Mathlib.Omega.{arith}
use native.Mathlib.Numerals.{add-one}
use lib.Dec.{eqb}
use lib.ListN.{length, get_or, take, length-append}
use lib.Seq.{length-take-le, get_or-take, get_or-append_seam}
use Rattle.gran.specs.Lists.{All, only, numbers}
use Rattle.gran.proofs.Members.{all-mem, at_mem, only_of, only_append, numbers_of}
use Rattle.runs.specs.Steps.{each}
use Rattle.tables.specs.Tables.{is_set, user_reach_cell}
use Rattle.numbered.specs.Number.{number_of}
use Rattle.numbered.specs.Candidates.{Step, offered, flat, with_user, with_subject, in_image, subject_step, by_subject, other_group, by_group, other_user, by_user}
use Rattle.numbered.specs.declared.Sizes.{Sizes}
use Rattle.numbered.specs.declared.Digits.{Digits}
use Rattle.walk.specs.Image.{image_of, is_another, followers_of, users_after, groups_after, Below, to_group}

-- ---- those of a range that pass, after what stands in front

numbers_snoc : (k n : ℕ) → numbers k (suc n) ≡ numbers k n ++ (k + n) ∷ []
numbers_snoc k zero = let e : k ≡ k + 0 = omega arith in ap (λ (m : ℕ). m ∷ []) e
numbers_snoc k (suc n) =
    let e : suc k + n ≡ k + suc n = omega arith in
    ap (λ (ms : List ℕ). k ∷ ms) (numbers_snoc (suc k) n ∙ ap (λ (m : ℕ). numbers (suc k) n ++ m ∷ []) e)

module _ (front : List ℕ) (test : ℕ → Bool) where
  abbrev pub listed : ℕ → List ℕ
  listed n = front ++ only test (numbers 0 n)

  listed_more : (k : ℕ) (b : Bool) → test k ≡ b → listed (k + 1) ≡ listed k ++ cond b (k ∷ []) []
  listed_more k b h =
      let z : 0 + k ≡ k = omega arith in
      ap listed (add-one k)
      ∙ ap (λ (ms : List ℕ). front ++ only test ms) (numbers_snoc 0 k)
      ∙ ap (λ (ms : List ℕ). front ++ ms) (only_append test (numbers 0 k) ((0 + k) ∷ []))
      ∙ rw (z, h) (sym (append_assoc front (only test (numbers 0 k)) (cond b (k ∷ []) [])))

  pub listed_hit : (k : ℕ) → test k ≡ true → listed (k + 1) ≡ listed k ++ k ∷ []
  listed_hit k = listed_more k true

  pub listed_miss : (k : ℕ) → test k ≡ false → listed (k + 1) ≡ listed k
  listed_miss k h = listed_more k false h ∙ append-nil (listed k)

  pub listed_lt : (n : ℕ) {xs : List ℕ} → xs ≡ listed n → All (λ (x : ℕ). x < n) front → (j : ℕ) → j < length xs → get_or xs j 0 < n
  listed_lt n {xs} is below j h =
      let m : Memᴰ (get_or xs j 0) (listed n) = subst (Memᴰ (get_or xs j 0)) is (at_mem 0 xs j h) in
      ⊎_elim
      (λ m. all-mem (λ (x : ℕ). x < n) front below m)
      (λ m. omega (arith, numbers_of 0 n (only_of test (numbers 0 n) m).0))
      (mathlib.Core.List.Memᴰ.append_cases front m)

-- ---- to visit what each of a list gives

-- What the number at place k of a list gives.
abbrev pub at : (ℕ → List Step) → List ℕ → ℕ → List Step
at g xs k = g (get_or xs k 0)

flat-each : (g : ℕ → List Step) (xs ys : List ℕ) → flat (at g (xs ++ ys)) (length xs) (length ys) ≡ each ys g
unfolding flat
flat-each g xs [] = refl
flat-each g xs (y ∷ ys) =
    let rest : flat (at g (xs ++ y ∷ ys)) (length xs + 1) (length ys) ≡ each ys g =
    rw (append_assoc xs (y ∷ []) ys, length-append xs (y ∷ [])) at (flat-each g (xs ++ y ∷ []) ys) in
    rw (get_or-append_seam xs y ys 0, rest)

pub list_steps : (g : ℕ → List Step) (xs : List ℕ) → flat (at g xs) 0 (length xs) ≡ each xs g
list_steps g xs = flat-each g [] xs

-- Number j gives `g j` if it passes, and nothing else.
module _ (f g : ℕ → List Step) (test : ℕ → Bool) (gives : (j : ℕ) → f j ≡ cond (test j) (g j) []) where
  each_passing : (k n : ℕ) → each (only test (numbers k n)) g ≡ flat f k n
  unfolding flat
  each_passing k zero = refl
  each_passing k (suc n) = rw (gives k) (go (test k) (each_passing (suc k) n ∙ ap (λ (m : ℕ). flat f m n) (sym (add-one k))))
    where
      rest : List ℕ
      rest = only test (numbers (suc k) n)

      go : (b : Bool) → each rest g ≡ flat f (k + 1) n → each (cond b (k ∷ rest) rest) g ≡ cond b (g k) [] ++ flat f (k + 1) n
      go true h = rw h
      go false h = h

  -- All that pass, and no other.
  pub passing-steps : (n : ℕ) (xs : List ℕ) → xs ≡ only test (numbers 0 n) → flat (at g xs) 0 (length xs) ≡ flat f 0 n
  passing-steps n xs is = flat-each g [] xs ∙ rw is (each_passing 0 n)

  -- The same after one in front.
  kept-steps : (kept n : ℕ) (xs : List ℕ) → xs ≡ kept ∷ only test (numbers 0 n) → each xs g ≡ g kept ++ flat f 0 n
  kept-steps kept n xs is = rw is (ap (λ (l : List Step). g kept ++ l) (each_passing 0 n))

-- ---- by subject, by group, by user

abbrev pub to_subject : ℕ → ℕ → ℕ → List Step
to_subject label base k = record { label = label; target = base + k } ∷ []

-- The lists that the loops go through give the steps of the object at place i of entry e, whose path is c.
module _ (t : List ℕ) (z : Sizes) (d : Digits) (e i c : ℕ) where
  abbrev pub to_user : ℕ → List Step
  to_user j = by_group t z (with_user d j) e i c

  pub image-steps : (base : ℕ) → ((k : ℕ) → base + k ≡ number_of z (with_subject d k)) → (image : List ℕ) → image ≡ image_of t e i c z.subjects
      → flat (at (to_subject i base) image) 0 (length image) ≡ by_subject t z d e i c
  unfolding image_of by_subject subject_step
  image-steps base row image is = passing-steps (subject_step t z d e i c) (to_subject i base) (in_image t e i c) (λ k. go k (in_image t e i c k)) z.subjects image is
    where
      go : (k : ℕ) (b : Bool) → offered b i (number_of z (with_subject d k)) ≡ cond b (to_subject i base k) []
      go k true = rw (row k)
      go k false = refl

  pub group-steps : (groups : List ℕ) → groups ≡ groups_after t z d e → each groups (to_group t z d e i c) ≡ by_group t z d e i c
  unfolding followers_of is_another by_group other_group
  group-steps groups is = kept-steps (other_group t z d e i c) (to_group t z d e i c) (is_another t (512 + 8 * e) d.group) gives d.group z.groups groups is
    where
      gives : (j : ℕ) → other_group t z d e i c j ≡ cond (is_another t (512 + 8 * e) d.group j) (to_group t z d e i c j) []
      gives j = let same : 512 + (8 * e + j) ≡ 512 + 8 * e + j = omega arith in rw same

  pub user-steps : (users : List ℕ) → users ≡ users_after t z d e → flat (at to_user users) 0 (length users) ≡ by_user t z d e i c
  unfolding followers_of is_another by_user other_user
  user-steps users is = list_steps to_user users ∙ kept-steps (other_user t z d e i c) to_user (is_another t (1024 + 16 * e) d.user) gives d.user z.users users is
    where
      gives : (j : ℕ) → other_user t z d e i c j ≡ cond (is_another t (1024 + 16 * e) d.user j) (to_user j) []
      gives j = let same : 1024 + (16 * e + j) ≡ 1024 + 16 * e + j = omega arith in rw same

-- Where the numbers of a list are below n, so are those of its front.
pub below_front : (n : ℕ) (xs : List ℕ) → Below n xs → (k : ℕ) → k ≤ length xs → Below n (take k xs)
below_front n xs below k few j h =
    let lt : j < k = omega (arith, h, length-take-le k xs few) in
    rw (get_or-take k xs j 0 lt) (below j (omega arith))

-- ---- who follows when entry e is in force

module _ (t : List ℕ) (z : Sizes) (d : Digits) (e : ℕ) where
  pub groups_below : {groups : List ℕ} → groups ≡ groups_after t z d e → d.group < z.groups → Below z.groups groups
  unfolding followers_of
  groups_below is lt = listed_lt (d.group ∷ []) (is_another t (512 + 8 * e) d.group) z.groups is (lt, tt)

  pub groups_fit : (alone : Bool) {groups : List ℕ} → groups ≡ groups_after t z d e → {n : ℕ} → n ≡ cond alone 1 (length groups) → n ≤ length groups
  unfolding followers_of
  groups_fit true is few = omega (arith, ap length is)
  groups_fit false is few = omega arith

  pub first_group : {groups : List ℕ} → groups ≡ groups_after t z d e → take 1 groups ≡ d.group ∷ []
  unfolding followers_of
  first_group is = rw is

  pub users_below : {users : List ℕ} → users ≡ users_after t z d e → d.user < z.users → Below z.users users
  unfolding followers_of
  users_below is lt = listed_lt (d.user ∷ []) (is_another t (1024 + 16 * e) d.user) z.users is (lt, tt)

  -- A user behind the first is allowed.
  pub user_allowed : {users : List ℕ} → users ≡ users_after t z d e → (j : ℕ) → 0 < j → j < length users → So (is_set t (user_reach_cell e (get_or users j 0)))
  unfolding followers_of is_another
  user_allowed is zero pos h = absurd (omega arith)
  user_allowed {users} is (suc j) pos h =
      let allowed : List ℕ = only (is_another t (1024 + 16 * e) d.user) (numbers 0 z.users) in
      let u : ℕ = get_or users (suc j) 0 in
      let m : Memᴰ u allowed = rw is (at_mem 0 allowed j (omega (arith, h, ap length is))) in
      let same : 1024 + (16 * e + u) ≡ 1024 + 16 * e + u = omega arith in
      rw same ((and-eq-true_iff (not (eqb u d.user)) (is_set t (1024 + 16 * e + u))).0 (only_of (is_another t (1024 + 16 * e) d.user) (numbers 0 z.users) m).1).1
