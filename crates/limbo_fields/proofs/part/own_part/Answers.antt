use Rattle.std.proofs.Common.{sym, ap}
use Rattle.std.proofs.lemmas.Option.{get_or_from_slice_get}
use Rattle.limbo_types.specs.View.{view_ty}
use Rattle.limbo_layout.specs.View.{view_def, view_fields}
use Rattle.limbo_layout.specs.declared.def.Field as code_field
use Rattle.limbo_fields.proofs.Named.{own_is}
use Rattle.limbo_fields.proofs.part.own_part.Goals as goal

pub returns-in-Some-checked_add-clause-found : goal.returns-in-Some-checked_add-clause-found
returns-in-Some-checked_add-clause-found c =
    let found = (c.in-Some.ensures {u = tt}).found in
    let own = c.own_fields-own.result.now in
    own_is (view_def c.args.def.now) c.args.variant c.in-Some-variant.variant c.args.name.now (view_fields own) c.in-Some.place c.in-Some-checked_add.number
    c.in_ok-before.before (view_ty found.0.ty) _ c.in-Some-variant.is c.own_fields-own.ensures found.2
    (sym (ap (λ (z : code_field.Field). view_ty z.ty) (get_or_from_slice_get own c.in-Some.place found.0 c.index-own-place.result found.1)))
    (c.in_ok-before.ensures {u = tt}) (c.in-Some-checked_add.ensures {u = tt}).1
