use Rattle.std.proofs.Common.{◌≡◌, true, false, refl, arith}
use Rattle.std.proofs.lemmas.Result.{err_from_is_err_and}
use Rattle.limbo_tree.specs.View.{view_field}
use Rattle.limbo_reading.specs.Reading.{kinds}
use Rattle.limbo_reading.proofs.Loops.{going_more, going_end, going_fails}
use Rattle.limbo_decl_parser.specs.Decls.{field_at, fields_end, begins_field}
use Rattle.limbo_decl_parser.proofs.Places.{field_shorter}
use Rattle.limbo_decl_parser.proofs.members.fields_at.Goals as goal

pub returns-in_err-field : goal.returns-in_err-field
returns-in_err-field c =
    let p = err_from_is_err_and c.from_residual.result c.from_residual.ensures.1 in
    let on : begins_field (kinds c.fields.rest.now) ≡ true = cc in
    rw (p.1, p.2) (going_fails c.in_err-field.field-0.0 view_field (field_at c.args.budget) fields_end _ c.fields.fields.items (kinds c.fields.rest.now) (rw on refl) c.in_err-field.ensures c.fields.invariant)

pub fields-smaller : goal.fields-smaller
fields-smaller c = omega (arith, field_shorter c.args.budget (kinds c.fields.rest.now) (view_field c.in_ok-field.field) (kinds c.in_ok-field.after.now) c.in_ok-field.ensures)

pub fields-preserved : goal.fields-preserved
fields-preserved c =
    let on : begins_field (kinds c.fields.rest.now) ≡ true = cc in
    rw c.in_ok-push.ensures.items (going_more view_field (field_at c.args.budget) fields_end _ c.fields.fields.items (kinds c.fields.rest.now) (kinds c.in_ok-field.after.now) c.in_ok-field.field (rw on refl) c.in_ok-field.ensures (field_shorter c.args.budget (kinds c.fields.rest.now) (view_field c.in_ok-field.field) (kinds c.in_ok-field.after.now) c.in_ok-field.ensures) c.fields.invariant)

pub returns : goal.returns
returns c =
    let off : begins_field (kinds c.fields.rest.now) ≡ false = cc in
    going_end view_field (field_at c.args.budget) fields_end _ c.fields.fields.items (kinds c.fields.rest.now) (rw off refl) c.fields.invariant
