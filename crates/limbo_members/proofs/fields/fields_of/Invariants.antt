use Rattle.std.proofs.Common.{map, take}
use Rattle.limbo_tree.specs.View as source
use Rattle.limbo_layout.specs.View.{view_fields}
use Rattle.limbo_context.specs.View.{view_context, view_body}
use Rattle.limbo_locals.specs.limbo_local.Members.{AreFields}
use Rattle.limbo_members.proofs.fields.fields_of.Given as goal

abbrev pub invariant-loop-f : goal.invariant-loop-f
invariant-loop-f l =
    AreFields (view_context l.context) (view_body l.body) (map source.view_field (take l.f-index l.all)) (view_fields l.fields.items)
