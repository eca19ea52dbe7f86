use Prim.Native.Nat.{ℕ, ◌+◌, ◌≤◌}
use mathlib.Core.Path.{◌≡◌, sym, ap, ◌∙◌, subst}
use mathlib.Core.List.{List, ◌++◌}
use borrow.Author.Rules.{rules}
use borrow.Rule.Slice.PartMut.{put_mid, post_of}
use lib.ListN.{length, take}
use lib.Seq.{take-append-add, take-append-le}
use Rattle.std.proofs.Common.{length-take-le}
use Rattle.std.specs.Io.KnownBytes.{Consumes}
use Rattle.std.proofs.KnownBytes.{Consumes-trans}
use Rattle.input.proofs.fill.Goals as goal

-- n bytes more behind the first a
front-put_mid : (a k n : ℕ) (xs ys : List ℕ) → a ≤ length xs → n ≤ length ys → take a xs ++ take n ys ≡ take (a + n) (put_mid a k xs ys)
front-put_mid a k n xs ys within fits =
    ap (λ (l : List ℕ). take a xs ++ l) (sym (take-append-le n ys (post_of a k xs) fits))
    ∙ sym (take-append-add (take a xs) (ys ++ post_of a k xs) n)
    ∙ ap (λ (m : ℕ). take (m + n) (put_mid a k xs ys)) (length-take-le a xs within)

pub loop-done-preserved : goal.loop-done-preserved
loop-done-preserved g c =
    let l = c.loop-done in (
      search rules,
      subst (Consumes _ _) (front-put_mid l.done _ c.in_ok-n.n l.area c.read.new.buf l.invariant.0 c.in_ok-n.ensures.bound.0)
          (Consumes-trans _ _ _ _ _ l.invariant.1 c.in_ok-n.ensures.bytes.0),
    )
