-- The types of frames by their codes (document 01, "The policy as hexadecimal lines").
-- Assumes nothing.
use Rattle.std.specs.Prelude.{◌≢◌, ◌≡◌, ℕ, Result, MatchResult}
use Rattle.policy.specs.declared.frame.FrameType.{FrameType}
use Rattle.policy.specs.declared.frame.FrameType.TheVariants.{Version, Role, Path, Move, Entry, Object, Uid, Gid, End}
use Rattle.policy.specs.declared.refusal.Refusal.{Refusal}
use Rattle.policy.specs.declared.refusal.Refusal.TheVariants.{BadFrame}

-- The first byte of a frame of this type.
abbrev pub type_code : FrameType → ℕ
type_code Version = 0x01
type_code Role = 0x10
type_code Path = 0x20
type_code Move = 0x30
type_code Entry = 0x40
type_code Object = 0x41
type_code Uid = 0x42
type_code Gid = 0x43
type_code End = 0x7f

-- No type has this code.
abbrev pub NoType : ℕ → Type 0
NoType code = (code ≢ 0x01) × (code ≢ 0x10) × (code ≢ 0x20) × (code ≢ 0x30) × (code ≢ 0x40) × (code ≢ 0x41) × (code ≢ 0x42) × (code ≢ 0x43) × (code ≢ 0x7f)

-- The type that has this code, or the refusal where none has it.
abbrev pub Typed : ℕ → Result FrameType Refusal → Type 0
Typed code r = MatchResult r (λ type. type_code type ≡ code) (λ e. (e ≡ BadFrame) × NoType code)
