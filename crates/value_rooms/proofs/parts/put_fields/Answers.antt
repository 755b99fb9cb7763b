use Rattle.std.proofs.Common.{◌++◌, ◌∷◌, [], List, map, take, ap, ◌∙◌, append_assoc, arith}
use Rattle.std.proofs.lemmas.List.{map-append}
use Rattle.limbo_types.specs.Types.{Ty}
use Rattle.limbo_types.specs.View.{view_ty}
use Rattle.limbo_types.specs.declared.ty.Ty as code_ty
use Rattle.limbo_layout.specs.Adts.{types_of}
use Rattle.limbo_layout.specs.View.{view_fields}
use Rattle.value_rooms.proofs.Listed.{types-more}
use Rattle.value_rooms.proofs.parts.put_fields.Goals as goal

pub loop-field-preserved : goal.loop-field-preserved
loop-field-preserved c =
    let f = c.field-item.result in
    let copied = c.in_ok-copy.field-0 in
    let before = c.loop-field.types.items in
    let own = map view_ty c.args.types.now.items in
    let i = c.loop-field.field-index in
    let fs = c.args.fields.now in
    ap (λ (ts : List code_ty.Ty). map view_ty ts) c.in_ok-push.ensures.items
    ∙ map-append view_ty before (copied ∷ [])
    ∙ ap (λ (t : Ty). map view_ty before ++ (t ∷ [])) c.in_ok-copy.ensures
    ∙ ap (λ (ts : List Ty). ts ++ (view_ty f.ty ∷ [])) c.loop-field.invariant
    ∙ append_assoc own (types_of (view_fields (take i fs))) (view_ty f.ty ∷ [])
    ∙ ap (λ (ts : List Ty). own ++ ts) (types-more fs i f (omega arith) c.field-item.is)
