-- `load::add` meets its contract: at each arm the type picks the writer.
use native.Mathlib.Omega.{arith}
use mathlib.Core.Path.{◌≡◌, ◌∙◌, sym, ap}
use mathlib.Core.Logic.{◌⊎◌, inl, inr}
use Rattle.policy.proofs.Types.{Other}
use Prim.Native.Nat.{ℕ}
use Rattle.policy.specs.Frames.{frame_in, type_of}
use Rattle.policy.specs.Types.{type_code, NoType}
use Rattle.policy.specs.declared.frame.FrameType.{FrameType}
use Rattle.load.proofs.Framing.{role_room, path_room, move_room, entry_room, object_room, uid_room, gid_room, role_added, path_added, move_added, entry_added, object_added, uid_added, gid_added, none_added}
use Rattle.load.proofs.add.Goals as goal

-- the frame is of the type that was picked
is : {kind type : FrameType} {code n : ℕ} → code ≡ n → type_code kind ≡ code → kind ≡ type → n ≡ type_code type
is e h k = sym e ∙ sym h ∙ ap type_code k

pub add_role-requires : goal.add_role-requires
add_role-requires c = record { bounded = role_room c.args.t (frame_in c.args.size c.args.bytes.now) c.requires.ready (is c.byte.ensures c.in-Ok.ensures c.in-Role.is) c.byte-in-Role.ensures; in_bounds = c.requires.in_bounds }

pub add_path-requires : goal.add_path-requires
add_path-requires c = record { bounded = path_room c.args.t (frame_in c.args.size c.args.bytes.now) c.requires.ready (is c.byte.ensures c.in-Ok.ensures c.in-Path.is); in_bounds = c.requires.in_bounds }

pub add_move-requires : goal.add_move-requires
add_move-requires c = record { bounded = move_room c.args.t (frame_in c.args.size c.args.bytes.now) c.requires.ready (is c.byte.ensures c.in-Ok.ensures c.in-Move.is); in_bounds = c.requires.in_bounds }

pub add_entry-requires : goal.add_entry-requires
add_entry-requires c = record {
  bounded = entry_room c.args.t (frame_in c.args.size c.args.bytes.now) c.requires.ready
      (is c.byte.ensures c.in-Ok.ensures c.in-Entry.is) c.byte-users.ensures
      c.byte-groups.ensures;
  in_bounds = c.requires.in_bounds;
}

pub add_object-requires : goal.add_object-requires
add_object-requires c =
    let r = object_room c.args.t (frame_in c.args.size c.args.bytes.now) c.requires.ready (is c.byte.ensures c.in-Ok.ensures c.in-Object.is) in
    record { bounded = r.0; entries_nonzero = (r.1, c.requires.in_bounds) }

pub add_uid-requires : goal.add_uid-requires
add_uid-requires c =
    let r = uid_room c.args.t (frame_in c.args.size c.args.bytes.now) c.requires.ready (is c.byte.ensures c.in-Ok.ensures c.in-Uid.is) in
    record { bounded = r.0; entries_nonzero = (r.1, c.requires.in_bounds) }

pub add_gid-requires : goal.add_gid-requires
add_gid-requires c =
    let r = gid_room c.args.t (frame_in c.args.size c.args.bytes.now) c.requires.ready (is c.byte.ensures c.in-Ok.ensures c.in-Gid.is) in
    record { bounded = r.0; entries_nonzero = (r.1, c.requires.in_bounds) }

pub returns-in-Role : goal.returns-in-Role
returns-in-Role c =
    role_added (frame_in c.args.size c.args.bytes.now) c.args.t c.args.store.now _ _
    (is c.byte.ensures c.in-Ok.ensures c.in-Role.is)
    c.byte-in-Role.ensures (c.number4.ensures _) c.add_role.ensures

pub returns-in-Path : goal.returns-in-Path
returns-in-Path c =
    path_added (frame_in c.args.size c.args.bytes.now) c.args.t c.args.store.now _ _
    (is c.byte.ensures c.in-Ok.ensures c.in-Path.is)
    c.add_path.ensures

pub returns-in-Move : goal.returns-in-Move
returns-in-Move c =
    move_added (frame_in c.args.size c.args.bytes.now) c.args.t c.args.store.now _ _
    (is c.byte.ensures c.in-Ok.ensures c.in-Move.is)
    c.byte-in-Move.ensures c.byte-in-Move-2.ensures c.add_move.ensures

pub returns-in-Entry : goal.returns-in-Entry
returns-in-Entry c =
    entry_added (frame_in c.args.size c.args.bytes.now) c.args.t c.args.store.now _ _
    (is c.byte.ensures c.in-Ok.ensures c.in-Entry.is)
    c.byte-role.ensures c.byte-subject.ensures
    c.byte-caps.ensures c.byte-users.ensures c.byte-groups.ensures
    c.add_entry.ensures

pub returns-in-Object : goal.returns-in-Object
returns-in-Object c =
    object_added (frame_in c.args.size c.args.bytes.now) c.args.t c.args.store.now _ _
    (is c.byte.ensures c.in-Ok.ensures c.in-Object.is)
    c.byte-in-Object.ensures c.byte-in-Object-2.ensures c.add_object.ensures

pub returns-in-Uid : goal.returns-in-Uid
returns-in-Uid c =
    uid_added (frame_in c.args.size c.args.bytes.now) c.args.t c.args.store.now _ _
    (is c.byte.ensures c.in-Ok.ensures c.in-Uid.is) (c.number4-in-Uid.ensures _)
    c.add_uid.ensures

pub returns-in-Gid : goal.returns-in-Gid
returns-in-Gid c =
    gid_added (frame_in c.args.size c.args.bytes.now) c.args.t c.args.store.now _ _
    (is c.byte.ensures c.in-Ok.ensures c.in-Gid.is) (c.number4-in-Gid.ensures _)
    c.add_gid.ensures

-- the other types, and what is no type
ends : {n : ℕ} → (n ≡ 0x01) ⊎ (n ≡ 0x7f) → Other n
ends (inl e) = record { not_10 = λ x. omega arith; not_20 = λ x. omega arith; not_30 = λ x. omega arith; not_40 = λ x. omega arith; not_41 = λ x. omega arith; not_42 = λ x. omega arith; not_43 = λ x. omega arith }
ends (inr e) = record { not_10 = λ x. omega arith; not_20 = λ x. omega arith; not_30 = λ x. omega arith; not_40 = λ x. omega arith; not_41 = λ x. omega arith; not_42 = λ x. omega arith; not_43 = λ x. omega arith }

unknown : {code n : ℕ} → code ≡ n → NoType code → Other n
unknown e h = record { not_10 = λ x. omega arith; not_20 = λ x. omega arith; not_30 = λ x. omega arith; not_40 = λ x. omega arith; not_41 = λ x. omega arith; not_42 = λ x. omega arith; not_43 = λ x. omega arith }

pub returns-in-Version : goal.returns-in-Version
returns-in-Version c =
    let f = frame_in c.args.size c.args.bytes.now in
    none_added f c.args.t c.args.store.now (ends (elim c.in-Version.is as (λ _. (type_of f ≡ 0x01) ⊎ (type_of f ≡ 0x7f)) [ inl k ↦ inl (is c.byte.ensures c.in-Ok.ensures k) | inr k ↦ inr (is c.byte.ensures c.in-Ok.ensures k) ]))

pub returns-in_default : goal.returns-in_default
returns-in_default c = none_added (frame_in c.args.size c.args.bytes.now) c.args.t c.args.store.now (unknown c.byte.ensures c.in_default.ensures.1)
