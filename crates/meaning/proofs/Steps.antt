-- A step's line is read back as the record that it was written for, where each field has room in its bytes.
-- Assumes nothing.
use mathlib.Core.Path.{◌≡◌, refl, sym, ap, ◌∙◌}
use mathlib.Core.Logic.{◌⊎◌, inl, inr}
use mathlib.Core.Bool.{false, So, false≢true}
use mathlib.Core.List.{List, [], ◌∷◌, ◌++◌}
use Prim.Native.Nat.{ℕ, zero, suc, ◌+◌, ◌*◌, ◌<◌}
use native.Mathlib.Omega.{arith}
use lib.Dec.{eqb}
use lib.ListN.{get_or}
use Rattle.paths.proofs.Bools.{decide, parts₄, eqb-to}
use Rattle.gran.specs.Lists.{All}
use Rattle.lines.specs.Line.{frame_of, Bytes}
use Rattle.store.specs.Layout.{four}
use Rattle.store.proofs.Reading.{four_number}
use Rattle.policy.specs.Frames.{number4}
use Rattle.records.specs.declared.Step.{Step}
use Rattle.records.specs.Record.{step_bytes}
use Rattle.records.proofs.Bytes.{special_bytes, user_bytes, group_bytes, exec_bytes}
use Rattle.replay.specs.Replay.{step_of, plainly}
use Rattle.meaning.specs.Read.{step_said}

-- ---- a record, kind by kind

-- The kind is a step line's, the fields that its line does not carry are 0, and the others have room in their bytes.
pub record Narrow (r : Step) : Type 0 where
  pub plain : So (plainly r)
  pub role : r.role < 256
  pub uid : r.uid < 4294967296
  pub gid : r.gid < 4294967296
  pub object : r.object < 256
  pub file : r.file < 256

pub data Plain (r : Step) : Type 0 where
  special : r.kind ≡ 0x81 → r.uid ≡ 0 → r.gid ≡ 0 → r.object ≡ 0 → r.file ≡ 0 → Plain r
  user : r.kind ≡ 0x82 → r.role ≡ 0 → r.gid ≡ 0 → r.object ≡ 0 → r.file ≡ 0 → Plain r
  group : r.kind ≡ 0x83 → r.role ≡ 0 → r.uid ≡ 0 → r.object ≡ 0 → r.file ≡ 0 → Plain r
  exec : r.kind ≡ 0x84 → r.role ≡ 0 → Plain r

pub plain_kinds : (r : Step) → So (plainly r) → Plain r
unfolding plainly
plain_kinds r t = go (decide (eqb r.kind 0x81)) (decide (eqb r.kind 0x82)) (decide (eqb r.kind 0x83)) (decide (eqb r.kind 0x84))
  where
    go : So (eqb r.kind 0x81) ⊎ (eqb r.kind 0x81 ≡ false) → So (eqb r.kind 0x82) ⊎ (eqb r.kind 0x82 ≡ false)
        → So (eqb r.kind 0x83) ⊎ (eqb r.kind 0x83 ≡ false) → So (eqb r.kind 0x84) ⊎ (eqb r.kind 0x84 ≡ false) → Plain r
    go (inl a) b c d =
        let p = parts₄ (eqb r.uid 0) (eqb r.gid 0) (eqb r.object 0) (eqb r.file 0) (rw a at t) in
        special (eqb-to _ _ a) (eqb-to _ _ p.0) (eqb-to _ _ p.1) (eqb-to _ _ p.2) (eqb-to _ _ p.3)
    go (inr a) (inl b) c d =
        let p = parts₄ (eqb r.role 0) (eqb r.gid 0) (eqb r.object 0) (eqb r.file 0) (rw (a, b) at t) in
        user (eqb-to _ _ b) (eqb-to _ _ p.0) (eqb-to _ _ p.1) (eqb-to _ _ p.2) (eqb-to _ _ p.3)
    go (inr a) (inr b) (inl c) d =
        let p = parts₄ (eqb r.role 0) (eqb r.uid 0) (eqb r.object 0) (eqb r.file 0) (rw (a, b, c) at t) in
        group (eqb-to _ _ c) (eqb-to _ _ p.0) (eqb-to _ _ p.1) (eqb-to _ _ p.2) (eqb-to _ _ p.3)
    go (inr a) (inr b) (inr c) (inl d) = exec (eqb-to _ _ d) (eqb-to _ _ (rw (a, b, c, d) at t))
    go (inr a) (inr b) (inr c) (inr d) = absurd (false≢true (rw (a, b, c, d) at t))

-- ---- its bytes

pub bytes_all : (xs : List ℕ) → All (λ (b : ℕ). b < 256) xs → (i : ℕ) → get_or xs i 0 < 256
bytes_all [] all i = omega arith
bytes_all (x ∷ xs) (h, all) zero = h
bytes_all (x ∷ xs) (h, all) (suc i) = bytes_all xs all i

pub step-bytes : (r : Step) → Narrow r → Bytes (step_bytes r)
unfolding four
step-bytes r n = go (plain_kinds r n.plain)
  where
    go : Plain r → Bytes (step_bytes r)
    go (special k u g o f) = rw (special_bytes r k) (bytes_all (r.kind ∷ r.role ∷ []) (omega arith, (n.role, tt)))
    go (user k s g o f) = rw (user_bytes r k) (bytes_all (r.kind ∷ four r.uid) (omega arith, (omega arith, (omega arith, (omega arith, (omega arith, tt))))))
    go (group k s u o f) = rw (group_bytes r k) (bytes_all (r.kind ∷ four r.gid) (omega arith, (omega arith, (omega arith, (omega arith, (omega arith, tt))))))
    go (exec k s) =
        rw (exec_bytes r (λ e. omega (arith, k, e)) (λ e. omega (arith, k, e)) (λ e. omega (arith, k, e)))
        (bytes_all (r.kind ∷ r.object ∷ r.file ∷ (four r.uid ++ four r.gid))
        (omega arith, (n.object, (n.file, (omega arith, (omega arith, (omega arith, (omega arith, (omega arith, (omega arith, (omega arith, (omega arith, tt))))))))))))

-- ---- the record again

-- a record is its fields
step_is : (r : Step) {kind role uid gid object file : ℕ} → kind ≡ r.kind → role ≡ r.role → uid ≡ r.uid → gid ≡ r.gid → object ≡ r.object → file ≡ r.file
    → step_of kind role uid gid object file ≡ r
step_is r a b c d e f = rw (a, b, c, d, e, f)

-- the number in four bytes
four-again : (n : ℕ) → n < 4294967296 → ((get_or (four n) 0 0 * 256 + get_or (four n) 1 0) * 256 + get_or (four n) 2 0) * 256 + get_or (four n) 3 0 ≡ n
four-again n h = go _ _ _ _ (four_number n h)
  where
    go : (a b c d : ℕ) → a * 16777216 + b * 65536 + c * 256 + d ≡ n → ((a * 256 + b) * 256 + c) * 256 + d ≡ n
    go a b c d e = omega (arith, e)

module _ (r : Step) (n : Narrow r) where
  special-again : r.kind ≡ 0x81 → step_said (frame_of (step_bytes r)) ≡ step_of 0x81 r.role 0 0 0 0
  unfolding step_said frame_of
  special-again k = rw (special_bytes r k, k)

  user-again : r.kind ≡ 0x82 → step_said (frame_of (step_bytes r)) ≡ step_of 0x82 0 r.uid 0 0 0
  unfolding step_said frame_of number4 four
  user-again k = rw (user_bytes r k, k) (ap (λ (u : ℕ). step_of 0x82 0 u 0 0 0) (four-again r.uid n.uid))

  group-again : r.kind ≡ 0x83 → step_said (frame_of (step_bytes r)) ≡ step_of 0x83 0 0 r.gid 0 0
  unfolding step_said frame_of number4 four
  group-again k = rw (group_bytes r k, k) (ap (λ (g : ℕ). step_of 0x83 0 0 g 0 0) (four-again r.gid n.gid))

  exec-again : r.kind ≡ 0x84 → step_said (frame_of (step_bytes r)) ≡ step_of 0x84 0 r.uid r.gid r.object r.file
  unfolding step_said frame_of number4 four
  exec-again k =
      rw (exec_bytes r (λ e. omega (arith, k, e)) (λ e. omega (arith, k, e)) (λ e. omega (arith, k, e)), k)
      (go (four-again r.uid n.uid) (four-again r.gid n.gid))
    where
      go : {u g : ℕ} → u ≡ r.uid → g ≡ r.gid → step_of 0x84 0 u g r.object r.file ≡ step_of 0x84 0 r.uid r.gid r.object r.file
      go d e = rw (d, e)

  pub step-again : step_said (frame_of (step_bytes r)) ≡ r
  step-again = go (plain_kinds r n.plain)
    where
      go : Plain r → step_said (frame_of (step_bytes r)) ≡ r
      go (special k u g o f) = special-again k ∙ step_is r (sym k) refl (sym u) (sym g) (sym o) (sym f)
      go (user k s g o f) = user-again k ∙ step_is r (sym k) (sym s) refl (sym g) (sym o) (sym f)
      go (group k s u o f) = group-again k ∙ step_is r (sym k) (sym s) (sym u) refl (sym o) (sym f)
      go (exec k s) = exec-again k ∙ step_is r (sym k) (sym s) refl refl refl refl
