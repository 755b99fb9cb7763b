use Rattle.std.proofs.Common.{take, map}
use Rattle.limbo_types.specs.View.{tys_of}
use Rattle.limbo_layout.specs.Adts.{AllName, variant_types}
use Rattle.limbo_layout.specs.View.{view_defs, view_variant}
use Rattle.link_sign_rows.proofs.naming.variants_name.Given as goal

abbrev pub invariant-loop-variant : goal.invariant-loop-variant
invariant-loop-variant l = AllName (view_defs l.defs) l.modules (tys_of (variant_types (map view_variant (take l.variant-index l.variants))))
