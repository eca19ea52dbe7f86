-- `load::load` meets its contract: each refusal in its order, and the store cleared after it.
use mathlib.Core.Path.{◌∙◌, sym}
use borrow.Author.Rules.{rules}
use Rattle.load.proofs.Outcomes.{too_long, too_small, cleared_is, cleared-length, room_kept, filled_room, filled-refused, filled-whole}
use Rattle.load.proofs.load.Goals as goal

pub returns-then-text-gt32768 : goal.returns-then-text-gt32768
returns-then-text-gt32768 c = rw c.into.ensures (too_long c.args.text.now c.args.store.now c.if-text-gt32768.true)

pub returns-then-store-lt16384 : goal.returns-then-store-lt16384
returns-then-store-lt16384 c = rw c.into-then-store-lt16384.ensures (too_small c.args.text.now c.args.store.now c.if-text-gt32768.false c.if-store-lt16384.true)

pub fill-loaded-requires : goal.fill-loaded-requires
fill-loaded-requires c =
    let room = c.if-store-lt16384.false in
    record { cleared = cleared_is _ c.args.store.now room c.clear.ensures; text_len_bound = (c.if-text-gt32768.false, room_kept (cleared-length _ c.args.store.now room c.clear.ensures) room) }

pub slice_bounds-clear-end-then-is_err-2 : goal.slice_bounds-clear-end-then-is_err-2
slice_bounds-clear-end-then-is_err-2 c =
    let room = filled_room c.args.text.now c.args.store.now c.if-text-gt32768.false c.if-store-lt16384.false _ _ c.clear.ensures _ c.fill-loaded.ensures in search rules

pub returns-then-is_err : goal.returns-then-is_err
returns-then-is_err c =
    filled-refused c.args.text.now c.args.store.now c.if-text-gt32768.false c.if-store-lt16384.false _ _ c.clear.ensures _ c.fill-loaded.ensures (sym c.is_err.ensures.value ∙ c.if-is_err.true) _ c.clear-then-is_err.ensures

pub returns-else-is_err : goal.returns-else-is_err
returns-else-is_err c =
    filled-whole c.args.text.now c.args.store.now c.if-text-gt32768.false c.if-store-lt16384.false _ _ c.clear.ensures _ c.fill-loaded.ensures (sym c.is_err.ensures.value ∙ c.if-is_err.false)
