use Rattle.std.proofs.Common.{map, take}
use Rattle.limbo_layout.specs.Adts.{variant_types}
use Rattle.limbo_layout.specs.View.{view_variant}
use Rattle.limbo_adts.specs.Closed.{named_in, Visited}
use Rattle.limbo_adts.proofs.closing.visit_variants.Given as goal

abbrev pub invariant-loop-variant : goal.invariant-loop-variant
invariant-loop-variant l = Visited (named_in (variant_types (map view_variant (take l.variant-index l.picks)))) l.fn.search.marks.items l.fn.search.found.items l.search.marks.items l.search.found.items
