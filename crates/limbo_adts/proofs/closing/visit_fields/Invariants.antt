use Rattle.std.proofs.Common.{take}
use Rattle.limbo_layout.specs.Adts.{types_of}
use Rattle.limbo_layout.specs.View.{view_fields}
use Rattle.limbo_adts.specs.Closed.{named_in, Visited}
use Rattle.limbo_adts.proofs.closing.visit_fields.Given as goal

abbrev pub invariant-loop-field : goal.invariant-loop-field
invariant-loop-field l = Visited (named_in (types_of (view_fields (take l.field-index l.fields)))) l.fn.search.marks.items l.fn.search.found.items l.search.marks.items l.search.found.items
