use Rattle.std.proofs.Common.{ap, [], ◌∙◌}
use Rattle.limbo_tree.specs.View as source
use Rattle.limbo_tree.specs.View.{names_of}
use Rattle.limbo_types.specs.View.{view_ty}
use Rattle.limbo_context.specs.View.{view_context, view_body}
use Rattle.limbo_locals.specs.limbo_local.Members.{Inside, fields}
use Rattle.limbo_members.specs.Adding.{view_given}
use Rattle.limbo_members.proofs.Added.{fields_add, fields_fail}
use Rattle.limbo_members.proofs.adding.add_fields.Goals as goal

pub returns-in-Err-clause-refused : goal.returns-in-Err-clause-refused
returns-in-Err-clause-refused c =
    fields_fail (view_context c.args.context.now) (view_body c.args.body.now) (names_of c.args.names.now) (source.view_type c.args.of.now)
    c.in-Err.fault.cause c.in-Err.ensures.refused

pub returns-in_ok-fields_given-in-Ok-clause-adds : goal.returns-in_ok-fields_given-in-Ok-clause-adds
returns-in_ok-fields_given-in-Ok-clause-adds c =
    fields_add (view_context c.args.context.now) (view_body c.args.body.now) (names_of c.args.names.now) (source.view_type c.args.of.now)
    (view_ty c.in-Ok.t.value) (view_given c.in_ok-fields_given-in-Ok.field-0) c.in-Ok.ensures.means
    (c.in_ok-fields_given-in-Ok.ensures
    ∙ ap (λ t. let z : Inside = record { fields = fields (names_of c.args.names.now) (view_ty t); adts = [] } in z) c.deref.ensures)
