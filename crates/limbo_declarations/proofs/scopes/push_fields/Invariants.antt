use Rattle.std.proofs.Common.{◌≡◌, ◌++◌, map, drop}
use Rattle.limbo_tree.specs.View.{view_field}
use Rattle.limbo_declarations.specs.Scopes.{field_names}
use Rattle.limbo_declarations.specs.View.{texts_of}
use Rattle.limbo_declarations.proofs.scopes.push_fields.Given as goal

abbrev pub invariant-loop-f : goal.invariant-loop-f
invariant-loop-f l = texts_of l.all.items ++ field_names (map view_field (drop l.f-index l.fields)) ≡ texts_of l.fn.all.items ++ field_names (map view_field l.fields)
