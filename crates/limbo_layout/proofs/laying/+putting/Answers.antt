use Rattle.std.proofs.Common.{◌≡◌, ℕ, ◌<◌, ◌+◌, ◌∷◌, drop, sym, ap, ◌∙◌, arith, rules}
use Rattle.std.proofs.lemmas.List.{at_drop_more}
use Rattle.limbo_types.specs.Types.{Tuple}
use Rattle.limbo_types.specs.View.{view_ty, view_tys}
use Rattle.limbo_layout.specs.Layout.{Room, behind, all_behind, nothing, rounded, limit}
use Rattle.limbo_layout.specs.Laying.{room, all_rooms}
use Rattle.limbo_layout.specs.declared.def.LayoutFault.TheVariants.{TooLarge}
use Rattle.limbo_layout.proofs.Rooms.{outgrows, rounded_grows}
use Rattle.limbo_layout.proofs.laying.+putting.Goals as goal

pub tuple_room-returns-in_err-put_type-clause-too_large : goal.tuple_room-returns-in_err-put_type-clause-too_large
tuple_room-returns-in_err-put_type-clause-too_large t c =
    let rooms = c.args.rooms.now in
    let rest = drop (c.loop-t.t-index + 1) c.args.parts.now in
    let whole : Room = all_behind nothing (all_rooms rooms (view_tys c.args.parts.now)) in
    let left : all_behind c.loop-t.whole (room rooms (view_ty c.t-item.result) ∷ all_rooms rooms (view_tys rest)) ≡ whole =
    ap (λ x. all_behind c.loop-t.whole (room rooms (view_ty x) ∷ all_rooms rooms (view_tys rest))) c.t-item.is
    ∙ sym (at_drop_more (λ ts. all_behind c.loop-t.whole (all_rooms rooms (view_tys ts))) c.args.parts.now c.loop-t.t-index c.t-item.result (omega arith))
    ∙ c.loop-t.invariant in
    let k : c.in_err-put_type.field-0.0 ≡ TooLarge → limit < (rounded whole).size =
    λ e. let g = rounded_grows whole in let o = outgrows c.loop-t.whole (room rooms (view_ty c.t-item.result)) (all_rooms rooms (view_tys rest)) whole left (c.in_err-put_type.ensures.too_large e) in omega arith in
    search rules
