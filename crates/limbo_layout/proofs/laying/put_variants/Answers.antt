use Rattle.std.proofs.Common.{◌≡◌, ℕ, ◌<◌, ◌≤◌, ◌+◌, ◌++◌, List, length, get_or, map, drop, sym, ap, ◌∙◌, arith, rules}
use Rattle.std.proofs.lemmas.List.{at_drop_more}
use Rattle.limbo_types.specs.Types.{Ty}
use Rattle.limbo_layout.specs.Adts.{types_of, variant_types}
use Rattle.limbo_layout.specs.Layout.{Room, all_behind, limit}
use Rattle.limbo_layout.specs.Laying.{rooms_of}
use Rattle.limbo_layout.specs.View.{view_fields, view_variant}
use Rattle.limbo_layout.specs.declared.def.Variant as code_variant
use Rattle.limbo_layout.specs.declared.def.LayoutFault.TheVariants.{TooLarge}
use Rattle.limbo_layout.proofs.Rooms.{outgrow, behind-types}
use Rattle.limbo_layout.proofs.laying.put_variants.Goals as goal

-- the fields of the next variant, and then the rest
next_variant : (rooms : List Room) (w whole : Room) (picks : List code_variant.Variant) (i : ℕ) (v : code_variant.Variant) → i + 1 ≤ length picks → v ≡ get_or picks i v
    → all_behind w (rooms_of rooms (variant_types (map view_variant (drop i picks)))) ≡ whole
    → all_behind (all_behind w (rooms_of rooms (types_of (view_fields v.fields.items)))) (rooms_of rooms (variant_types (map view_variant (drop (i + 1) picks)))) ≡ whole
next_variant rooms w whole picks i v l e k =
    sym (behind-types rooms w (types_of (view_fields v.fields.items)) (variant_types (map view_variant (drop (i + 1) picks))))
    ∙ ap (λ x. all_behind w (rooms_of rooms (types_of (view_fields x.fields.items) ++ variant_types (map view_variant (drop (i + 1) picks))))) e
    ∙ sym (at_drop_more (λ vs. all_behind w (rooms_of rooms (variant_types (map view_variant vs)))) picks i v (omega arith))
    ∙ k

pub returns-in_err-put_fields-clause-too_large : goal.returns-in_err-put_fields-clause-too_large
returns-in_err-put_fields-clause-too_large c =
    let rooms = c.args.rooms.now in
    let whole : Room = all_behind c.args.whole.now (rooms_of rooms (variant_types (map view_variant c.args.picks.now))) in
    let left = next_variant rooms c.loop-variant.whole whole c.args.picks.now c.loop-variant.variant-index c.variant-item.result (omega arith) c.variant-item.is c.loop-variant.invariant in
    let own : all_behind c.loop-variant.whole (rooms_of rooms (types_of (view_fields c.deref.result.now))) ≡ all_behind c.loop-variant.whole (rooms_of rooms (types_of (view_fields c.variant-item.result.fields.items))) = ap (λ fs. all_behind c.loop-variant.whole (rooms_of rooms (types_of (view_fields fs)))) c.deref.ensures.value in
    let k : c.in_err-put_fields.field-0.0 ≡ TooLarge → limit < whole.size =
    λ e. outgrow (all_behind c.loop-variant.whole (rooms_of rooms (types_of (view_fields c.variant-item.result.fields.items)))) (rooms_of rooms (variant_types (map view_variant (drop (c.loop-variant.variant-index + 1) c.args.picks.now)))) whole left (rw (← own) (c.in_err-put_fields.ensures.too_large e)) in
    search rules

pub loop-variant-preserved : goal.loop-variant-preserved
loop-variant-preserved c =
    let rooms = c.args.rooms.now in
    let whole : Room = all_behind c.args.whole.now (rooms_of rooms (variant_types (map view_variant c.args.picks.now))) in
    let rest = drop (c.loop-variant.variant-index + 1) c.args.picks.now in
    ap (λ w. all_behind w (rooms_of rooms (variant_types (map view_variant rest)))) (c.in_ok-put_fields.ensures.ok ∙ ap (λ fs. all_behind c.loop-variant.whole (rooms_of rooms (types_of (view_fields fs)))) c.deref.ensures.value)
    ∙ next_variant rooms c.loop-variant.whole whole c.args.picks.now c.loop-variant.variant-index c.variant-item.result (omega arith) c.variant-item.is c.loop-variant.invariant
