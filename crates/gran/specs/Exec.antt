-- The exec rule, for a UID and for a GID (document 01, "Real steps": capabilities are not asked).
-- Assumes nothing.
use Rattle.std.specs.Prelude.{Bool, ◌||◌}

-- An id after an exec: it stays, or becomes any allowed one.
unfoldable pub exec_may : Bool → Bool → Bool
exec_may kept allowed = kept || allowed
