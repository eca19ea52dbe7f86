-- The modes at the place of a file's object decide the access.
-- Assumes nothing.
use mathlib.Core.Path.{◌≡◌, ap}
use mathlib.Core.List.{List}
use Prim.Native.Nat.{ℕ, ◌<◌}
use lib.ListN.{length}
use Rattle.gran.specs.Policy.{Policy}
use Rattle.gran.specs.Access.{grant, grants}
use Rattle.store.specs.Held.{Loaded}
use Rattle.fields.specs.Fields.{object_modes_at}
use Rattle.lookup.specs.Lookup.{entry_at, Placed}
use Rattle.lookup.proofs.Found.{object_modes_is}

module _ {P : Policy} {rest s f : List ℕ} (L : Loaded P rest s) (kind e i : ℕ) (h : e < length P.entries) where
  pub granted : Placed P e f i → grant kind (object_modes_at s e i) ≡ grants P kind (entry_at P e) f
  unfolding grants
  granted p = ap (grant kind) (object_modes_is L h p)
