use Rattle.std.proofs.Common.{take, map}
use Rattle.limbo_layout.specs.Adts.{variant_types}
use Rattle.limbo_layout.specs.View.{view_variant, view_defs}
use Rattle.limbo_members.specs.Tables.{AllNameIn}
use Rattle.limbo_members.proofs.naming.variants_name.Given as goal

abbrev pub invariant-loop-variant : goal.invariant-loop-variant
invariant-loop-variant l =
    AllNameIn (view_defs l.defs) l.modules (variant_types (map view_variant (take l.variant-index l.variants)))
