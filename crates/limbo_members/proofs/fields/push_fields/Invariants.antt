use Rattle.std.proofs.Common.{◌≡◌, ◌++◌}
use Rattle.limbo_types.specs.View.{view_ty}
use Rattle.limbo_layout.specs.View.{view_fields}
use Rattle.limbo_locals.specs.limbo_local.Members as members
use Rattle.limbo_locals.proofs.Pushed.{first}
use Rattle.limbo_members.proofs.fields.push_fields.Given as goal

abbrev pub invariant-loop-name : goal.invariant-loop-name
invariant-loop-name l =
    view_fields l.fields.items ≡ view_fields l.initial.fields.items ++ members.fields (first l.name-index l.names) (view_ty l.t)
