use Rattle.std.proofs.Common.{length}
use Rattle.limbo_tree.specs.View.{view_field}
use Rattle.limbo_reading.specs.Reading.{kinds}
use Rattle.limbo_reading.proofs.Loops.{Going}
use Rattle.limbo_decl_parser.specs.Decls.{field_at, fields_end, fields_at}
use Rattle.limbo_decl_parser.proofs.members.fields_at.Given as goal

-- the list so far, and what is left
abbrev pub invariant-fields : goal.invariant-fields
invariant-fields l = Going view_field (field_at l.fn.budget) fields_end (fields_at l.fn.budget (kinds l.fn.tokens)) l.fields.items (kinds l.rest)

abbrev pub decreases-fields : goal.decreases-fields
decreases-fields l = length (kinds l.rest)
