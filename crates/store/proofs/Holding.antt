-- What tallies and bytes that hold a policy tell of it: the policy fits, and a row that is written goes to its region. Zeros hold no policy yet.
-- Assumes nothing.
use mathlib.Core.Path.{◌≡◌, ◌∙◌, refl}
use mathlib.Core.List.{List, [], ◌++◌, map, append_assoc}
use Prim.Native.Nat.{ℕ, ◌+◌, ◌*◌, ◌≤◌, ◌<◌}
use native.Mathlib.Omega.{arith}
use lib.ListN.{length, get_or, set, length-set}
use lib.Seq.{paste, length-paste}
use Rattle.lines.specs.Line.{zeros}
use Rattle.lines.proofs.Rooms.{length-zeros, zeros-add}
use Rattle.rows.specs.Rows.{joined, written, padded}
use Rattle.rows.proofs.Tables.{padded_append}
use Rattle.rows.proofs.Parts.{begin, part_lies, part-written, part_sizes}
use Rattle.gran.specs.Policy.{Policy}
use Rattle.store.specs.Layout.{place_rows, entry_rows, all_objects, all_ids, body, ids_at, moves_at, pool}
use Rattle.store.specs.Grow.{no_policy}
use Rattle.store.specs.Held.{last_entry, no_tally, Bounded, Fits, Holds}
use Rattle.store.specs.declared.Tally.{Tally}
use Rattle.store.proofs.Regions.{regions, region_sizes, regions-whole, sizes}
use Rattle.store.proofs.Reading.{pool_used}

-- The regions have room for what the tallies count.
pub record Room (t : Tally) : Type 0 where
  pub roles : t.users + t.groups + t.specials + t.defaults ≤ 30
  pub paths : t.paths ≤ 96
  pub entries : t.entries ≤ 64
  pub objects : t.objects ≤ 512
  pub pool : t.bytes + 2 * t.moves + 4 * t.ids ≤ 13436

module _ (P : Policy) (rest : List ℕ) (t : Tally) (bytes : List ℕ) (h : Holds P rest t bytes) where
  -- how much of the pool is used, before the ids and in all
  pub ids_begin : t.bytes + 2 * t.moves ≡ ids_at P
  unfolding ids_at
  ids_begin = omega (arith, h.path_bytes, h.moves)

  pub pool-end : t.bytes + 2 * t.moves + 4 * t.ids ≡ length (pool P)
  pool-end = omega (arith, ids_begin, h.ids, pool_used P)

  module _ (room : Room t) where
    fits : Fits P
    fits = record {
      roles = omega (arith, h.roles, room.roles);
      paths = omega (arith, h.paths, room.paths);
      entries = omega (arith, h.entries, room.entries);
      objects = omega (arith, h.objects, room.objects);
      pool = omega (arith, pool-end, room.pool);
    }

    held_sizes : map length (regions (zeros 16) P rest) ≡ region_sizes rest
    held_sizes = sizes P fits (zeros 16) rest (length-zeros 16)

    -- a row that is written over a region's bytes
    pub held-written : (n : ℕ) → n < 8 → (at : ℕ) (row : List ℕ) →
        written (begin (region_sizes rest) n) (get_or (region_sizes rest) n 0) at row bytes ≡ joined (set (regions (zeros 16) P rest) n (paste (get_or (regions (zeros 16) P rest) n []) at row (length row)))
    held-written n l at row = rw (h.stored, regions-whole (zeros 16) P rest) (part-written (regions (zeros 16) P rest) (region_sizes rest) held_sizes n l at row)

    -- a row that is written over another region's bytes after it
    pub held_twice : (m n : ℕ) → m < 8 → n < 8 → (at : ℕ) (row new : List ℕ) → paste (get_or (regions (zeros 16) P rest) m []) at row (length row) ≡ new → at + length row ≤ get_or (region_sizes rest) m 0 →
        (at₂ : ℕ) (row₂ : List ℕ) →
        written (begin (region_sizes rest) n) (get_or (region_sizes rest) n 0) at₂ row₂ (written (begin (region_sizes rest) m) (get_or (region_sizes rest) m 0) at row bytes) ≡
        joined (set (set (regions (zeros 16) P rest) m new) n (paste (get_or (set (regions (zeros 16) P rest) m new) n []) at₂ row₂ (length row₂)))
    held_twice m n l k at row new e room at₂ row₂ =
        let long = (part_lies (regions (zeros 16) P rest) (region_sizes rest) held_sizes m l).long in
        let f : length new ≡ get_or (region_sizes rest) m 0 = rw (← e) (length-paste (get_or (regions (zeros 16) P rest) m []) at row (length row) (omega arith) (omega arith) ∙ long) in
        rw (held-written m l at row, e)
        (part-written (set (regions (zeros 16) P rest) m new) (region_sizes rest) (part_sizes (regions (zeros 16) P rest) (region_sizes rest) held_sizes m l new f) n (rw (length-set (regions (zeros 16) P rest) m new) k) at₂ row₂)

  pub holds_fits : Bounded t → Fits P
  holds_fits b = fits (omega arith)

  -- bytes that are written behind those of the pool
  pub pool_more : (more pool' : List ℕ) (at : ℕ) → at ≡ length (pool P) → pool' ≡ pool P ++ more → paste (padded 13436 (pool P)) at more (length more) ≡ padded 13436 pool'
  pool_more more pool' at e f = rw (e, f) (padded_append 13436 (pool P) more)

-- ---- the start of a load

empty-body : body no_policy ≡ zeros 16368
unfolding joined padded place_rows entry_rows all_objects all_ids pool body
empty-body = rw (zeros-add 1024 13436, zeros-add 768 14460, zeros-add 192 15228, zeros-add 288 15420, zeros-add 660 15708)

pub zeros_hold : (rest : List ℕ) → Holds no_policy rest no_tally (zeros 16384 ++ rest)
unfolding last_entry moves_at joined all_objects all_ids
zeros_hold rest = record {
  users = refl;
  groups = refl;
  specials = refl;
  defaults = refl;
  roles = refl;
  paths = refl;
  path_bytes = refl;
  moves = refl;
  entries = refl;
  objects = refl;
  ids = refl;
  last_objects = refl;
  last_uids = refl;
  last_gids = refl;
  last_users = refl;
  last_groups = refl;
  stored = rw (empty-body, ← zeros-add 16 16368) (append_assoc (zeros 16) (zeros 16368) rest);
}
