use Rattle.std.proofs.Common.{◌≡◌, ◌<◌, List, map, sym, ap, ◌∙◌, arith, rules}
use Rattle.limbo_layout.specs.Adts.{Def, types_of, variant_types, tag, parts}
use Rattle.limbo_layout.specs.Layout.{Room, all_behind, rounded, nothing, limit}
use Rattle.limbo_layout.specs.Laying.{rooms_of}
use Rattle.limbo_layout.specs.View.{view_def, view_fields, view_variant}
use Rattle.limbo_layout.specs.declared.def.LayoutFault.TheVariants.{TooLarge}
use Rattle.limbo_layout.proofs.Rooms.{outgrow, parts_behind, rounded_grows}
use Rattle.limbo_layout.proofs.laying.adt_room.Goals as goal

-- what is too large before all parts stand is too large in the end
early : (rooms : List Room) (d : Def) (w : Room) → w ≡ all_behind nothing (rooms_of rooms (tag d.picks)) → limit < (all_behind w (rooms_of rooms (types_of d.fields))).size
    → limit < (rounded (all_behind nothing (rooms_of rooms (parts d)))).size
early rooms d w e h =
    let whole = all_behind nothing (rooms_of rooms (parts d)) in
    let f = ap (λ x. all_behind (all_behind x (rooms_of rooms (types_of d.fields))) (rooms_of rooms (variant_types d.picks))) e ∙ sym (parts_behind rooms d) in
    let o = outgrow (all_behind w (rooms_of rooms (types_of d.fields))) (rooms_of rooms (variant_types d.picks)) whole f h in
    let g = rounded_grows whole in
    omega arith

late : (rooms : List Room) (d : Def) (w : Room) → w ≡ all_behind (all_behind nothing (rooms_of rooms (tag d.picks))) (rooms_of rooms (types_of d.fields)) → limit < (all_behind w (rooms_of rooms (variant_types d.picks))).size
    → limit < (rounded (all_behind nothing (rooms_of rooms (parts d)))).size
late rooms d w e h =
    let whole = all_behind nothing (rooms_of rooms (parts d)) in
    let f : all_behind w (rooms_of rooms (variant_types d.picks)) ≡ whole = ap (λ x. all_behind x (rooms_of rooms (variant_types d.picks))) e ∙ sym (parts_behind rooms d) in
    let s : (all_behind w (rooms_of rooms (variant_types d.picks))).size ≡ whole.size = ap (λ (r : Room). r.size) f in
    let g = rounded_grows whole in
    omega arith

pub returns-in_err-put_fields-clause-too_large : goal.returns-in_err-put_fields-clause-too_large
returns-in_err-put_fields-clause-too_large c =
    let rooms = c.args.rooms.now in
    let d : Def = view_def c.args.def.now in
    let w : c.in_ok-whole.whole ≡ all_behind nothing (rooms_of rooms (tag d.picks)) = c.in_ok-whole.ensures.ok rooms ∙ ap (λ vs. all_behind nothing (rooms_of rooms (tag (map view_variant vs)))) c.deref.ensures.value in
    let f : all_behind c.in_ok-whole.whole (rooms_of rooms (types_of (view_fields c.deref-2.result.now))) ≡ all_behind c.in_ok-whole.whole (rooms_of rooms (types_of d.fields)) = ap (λ fs. all_behind c.in_ok-whole.whole (rooms_of rooms (types_of (view_fields fs)))) c.deref-2.ensures.value in
    let k : c.in_err-put_fields.field-0.0 ≡ TooLarge → limit < (rounded (all_behind nothing (rooms_of rooms (parts d)))).size = λ e. early rooms d c.in_ok-whole.whole w (rw (← f) (c.in_err-put_fields.ensures.too_large e)) in
    search rules

pub returns-in_err-put_variants-clause-too_large : goal.returns-in_err-put_variants-clause-too_large
returns-in_err-put_variants-clause-too_large c =
    let rooms = c.args.rooms.now in
    let d : Def = view_def c.args.def.now in
    let w : c.in_ok-whole.whole ≡ all_behind nothing (rooms_of rooms (tag d.picks)) = c.in_ok-whole.ensures.ok rooms ∙ ap (λ vs. all_behind nothing (rooms_of rooms (tag (map view_variant vs)))) c.deref.ensures.value in
    let f : all_behind c.in_ok-whole.whole (rooms_of rooms (types_of (view_fields c.deref-2.result.now))) ≡ all_behind c.in_ok-whole.whole (rooms_of rooms (types_of d.fields)) = ap (λ fs. all_behind c.in_ok-whole.whole (rooms_of rooms (types_of (view_fields fs)))) c.deref-2.ensures.value in
    let x : c.put_fields.new.whole ≡ all_behind (all_behind nothing (rooms_of rooms (tag d.picks))) (rooms_of rooms (types_of d.fields)) = c.in_ok-put_fields.ensures.ok ∙ f ∙ ap (λ z. all_behind z (rooms_of rooms (types_of d.fields))) w in
    let g : all_behind c.put_fields.new.whole (rooms_of rooms (variant_types (map view_variant c.deref-3.result.now))) ≡ all_behind c.put_fields.new.whole (rooms_of rooms (variant_types d.picks)) = ap (λ vs. all_behind c.put_fields.new.whole (rooms_of rooms (variant_types (map view_variant vs)))) c.deref-3.ensures.value in
    let k : c.in_err-put_variants.field-0.0 ≡ TooLarge → limit < (rounded (all_behind nothing (rooms_of rooms (parts d)))).size = λ e. late rooms d c.put_fields.new.whole x (rw (← g) (c.in_err-put_variants.ensures.too_large e)) in
    search rules

pub returns-clause-ok : goal.returns-clause-ok
returns-clause-ok c =
    let rooms = c.args.rooms.now in
    let d : Def = view_def c.args.def.now in
    let w : c.in_ok-whole.whole ≡ all_behind nothing (rooms_of rooms (tag d.picks)) = c.in_ok-whole.ensures.ok rooms ∙ ap (λ vs. all_behind nothing (rooms_of rooms (tag (map view_variant vs)))) c.deref.ensures.value in
    let f : all_behind c.in_ok-whole.whole (rooms_of rooms (types_of (view_fields c.deref-2.result.now))) ≡ all_behind c.in_ok-whole.whole (rooms_of rooms (types_of d.fields)) = ap (λ fs. all_behind c.in_ok-whole.whole (rooms_of rooms (types_of (view_fields fs)))) c.deref-2.ensures.value in
    let x : c.put_fields.new.whole ≡ all_behind (all_behind nothing (rooms_of rooms (tag d.picks))) (rooms_of rooms (types_of d.fields)) = c.in_ok-put_fields.ensures.ok ∙ f ∙ ap (λ z. all_behind z (rooms_of rooms (types_of d.fields))) w in
    let g : all_behind c.put_fields.new.whole (rooms_of rooms (variant_types (map view_variant c.deref-3.result.now))) ≡ all_behind c.put_fields.new.whole (rooms_of rooms (variant_types d.picks)) = ap (λ vs. all_behind c.put_fields.new.whole (rooms_of rooms (variant_types (map view_variant vs)))) c.deref-3.ensures.value in
    let v : c.put_variants.new.whole ≡ all_behind nothing (rooms_of rooms (parts d)) = c.in_ok-put_variants.ensures.ok ∙ g ∙ ap (λ z. all_behind z (rooms_of rooms (variant_types d.picks))) x ∙ sym (parts_behind rooms d) in
    c.round.ensures.whole ∙ ap rounded v
