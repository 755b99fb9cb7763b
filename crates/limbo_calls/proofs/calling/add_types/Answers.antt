use Rattle.std.proofs.Common.{◌++◌, ◌∙◌, List, map, sym, ap, arith}
use Rattle.std.proofs.lemmas.List.{take_all}
use Rattle.limbo_types.specs.View.{view_ty}
use Rattle.limbo_layout.specs.declared.def.Field as code_field
use Rattle.limbo_calls.proofs.Calls.{field_type, field_types_are}
use Rattle.limbo_calls.proofs.calling.add_types.Goals as goal

pub returns : goal.returns
returns c =
    let old = map view_ty c.args.types.now.items in
    c.loop-field.invariant
    ∙ ap (λ (fs : List code_field.Field). old ++ map field_type fs) (take_all c.loop-field.field-index c.args.fields.now (omega arith))
    ∙ ap (λ ts. old ++ ts) (sym (field_types_are c.args.fields.now))
