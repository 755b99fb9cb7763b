use Rattle.std.proofs.Common.{length}
use Rattle.limbo_tree.specs.View.{view_variant}
use Rattle.limbo_reading.specs.Reading.{kinds}
use Rattle.limbo_reading.proofs.Loops.{Going}
use Rattle.limbo_decl_parser.specs.Decls.{variant_at, variants_end, variants_at}
use Rattle.limbo_decl_parser.proofs.members.variants_at.Given as goal

-- the list so far, and what is left
abbrev pub invariant-variants : goal.invariant-variants
invariant-variants l = Going view_variant (variant_at l.fn.budget) variants_end (variants_at l.fn.budget (kinds l.fn.tokens)) l.variants.items (kinds l.rest)

abbrev pub decreases-variants : goal.decreases-variants
decreases-variants l = length (kinds l.rest)
