use Rattle.std.proofs.Common.{◌≡◌, ℕ, ◌<◌, ◌+◌, ◌∷◌, drop, sym, ap, ◌∙◌, arith, rules}
use Rattle.std.proofs.lemmas.List.{at_drop_more}
use Rattle.limbo_types.specs.View.{view_ty}
use Rattle.limbo_layout.specs.Adts.{types_of}
use Rattle.limbo_layout.specs.Layout.{Room, all_behind, limit}
use Rattle.limbo_layout.specs.Laying.{room, rooms_of}
use Rattle.limbo_layout.specs.View.{view_fields}
use Rattle.limbo_layout.specs.declared.def.LayoutFault.TheVariants.{TooLarge}
use Rattle.limbo_layout.proofs.Rooms.{outgrows}
use Rattle.limbo_layout.proofs.laying.put_fields.Goals as goal

pub returns-in_err-put_type-clause-too_large : goal.returns-in_err-put_type-clause-too_large
returns-in_err-put_type-clause-too_large c =
    let rooms = c.args.rooms.now in
    let rest = drop (c.loop-field.field-index + 1) c.args.fields.now in
    let whole : Room = all_behind c.args.whole.now (rooms_of rooms (types_of (view_fields c.args.fields.now))) in
    let left : all_behind c.loop-field.whole (room rooms (view_ty c.field-item.result.ty) ∷ rooms_of rooms (types_of (view_fields rest))) ≡ whole =
    ap (λ f. all_behind c.loop-field.whole (room rooms (view_ty f.ty) ∷ rooms_of rooms (types_of (view_fields rest)))) c.field-item.is
    ∙ sym (at_drop_more (λ fs. all_behind c.loop-field.whole (rooms_of rooms (types_of (view_fields fs)))) c.args.fields.now c.loop-field.field-index c.field-item.result (omega arith))
    ∙ c.loop-field.invariant in
    let k : c.in_err-put_type.field-0.0 ≡ TooLarge → limit < whole.size =
    λ e. outgrows c.loop-field.whole (room rooms (view_ty c.field-item.result.ty)) (rooms_of rooms (types_of (view_fields rest))) whole left (c.in_err-put_type.ensures.too_large e) in
    search rules
