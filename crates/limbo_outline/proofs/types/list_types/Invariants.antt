use Rattle.std.proofs.Common.{map}
use Rattle.limbo_type_names.specs.Working.{entries_in}
use Rattle.limbo_types.specs.View.{view_ty}
use Rattle.limbo_outline.specs.Outline.{TypesTo}
use Rattle.limbo_outline.proofs.types.list_types.Given as goal

abbrev pub invariant-loop-number : goal.invariant-loop-number
invariant-loop-number l = TypesTo (entries_in l.names.naming.now) l.names.naming.now.implemented l.number (map view_ty l.types.items)
