use Rattle.std.proofs.Common.{◌≡◌, ◌++◌, map}
use Rattle.limbo_layout.specs.View.{view_fields, view_variant}
use Rattle.limbo_locals.specs.limbo_local.Members.{named_variants}
use Rattle.limbo_locals.proofs.Pushed.{first}
use Rattle.limbo_members.proofs.fields.push_variants.Given as goal

abbrev pub invariant-loop-name : goal.invariant-loop-name
invariant-loop-name l =
    map view_variant l.variants.items
    ≡ map view_variant l.initial.variants.items ++ named_variants (first l.name-index l.names) (view_fields l.fields)
