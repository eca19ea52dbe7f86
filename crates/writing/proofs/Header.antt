-- The header over the first 16 bytes: with it they are the layout.
-- Assumes nothing.
use mathlib.Core.Path.{◌≡◌, ◌∙◌, refl, sym}
use mathlib.Core.List.{List, ◌++◌, append_assoc}
use Prim.Native.Nat.{ℕ}
use native.Mathlib.Omega.{arith}
use lib.ListN.{length, take, drop}
use lib.Seq.{paste}
use Rattle.lines.specs.Line.{zeros}
use Rattle.rows.specs.Rows.{replaced, written}
use Rattle.gran.specs.Policy.{Policy}
use Rattle.gran.specs.Match.{paths_of_s}
use Rattle.store.specs.Layout.{two, moves_at, body, root_of, header, layout}
use Rattle.store.specs.Held.{Bounded, Holds}
use Rattle.store.specs.declared.Tally.{Tally}
use Rattle.store.proofs.Regions.{regions-whole}
use Rattle.store.proofs.Holding.{pool-end, held-written}
use Rattle.writing.specs.Added.{header_of, Finished}

header_over : (P : Policy) → paste (zeros 16) 0 (header P) (length (header P)) ≡ header P
unfolding header two zeros
header_over P = refl

module _ (P : Policy) (rest : List ℕ) (t : Tally) (bytes : List ℕ) (h : Holds P rest t bytes) (b : Bounded t) (root subjects : ℕ) (r : root ≡ root_of P) (s : subjects ≡ length (paths_of_s P)) where
  header-by_tallies : header_of t root subjects ≡ header P
  unfolding header_of header moves_at
  header-by_tallies = rw (h.roles, pool-end P rest t bytes h, h.users, h.groups, h.specials, h.paths, h.path_bytes, h.moves, h.entries, h.objects, r, s)

  header_stored : written 0 16 0 (header_of t root subjects) bytes ≡ layout P ++ rest
  unfolding layout
  header_stored =
      rw header-by_tallies (held-written P rest t bytes h (omega arith) 0 (omega arith) 0 (header P) ∙ rw (header_over P) (sym (append_assoc (header P) (body P) rest ∙ regions-whole (header P) P rest)))

pub finished : (t : Tally) (root subjects : ℕ) (before : List ℕ) {row part : List ℕ} → Bounded t → row ≡ header_of t root subjects → part ≡ paste (take 16 (drop 0 before)) 0 row (length row) →
    let after = replaced 0 16 part before in length after ≡ length before → Finished t root subjects before after
finished t root subjects before b e w kept = record { kept = kept; stored = λ P rest h r s. rw (w, e) (header_stored P rest t before h b root subjects r s) }
