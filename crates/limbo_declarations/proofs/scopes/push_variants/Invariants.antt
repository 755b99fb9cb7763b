use Rattle.std.proofs.Common.{◌≡◌, ◌++◌, map, drop}
use Rattle.limbo_tree.specs.View.{view_variant}
use Rattle.limbo_declarations.specs.Scopes.{variant_names}
use Rattle.limbo_declarations.specs.View.{texts_of}
use Rattle.limbo_declarations.proofs.scopes.push_variants.Given as goal

abbrev pub invariant-loop-v : goal.invariant-loop-v
invariant-loop-v l = texts_of l.all.items ++ variant_names (map view_variant (drop l.v-index l.variants)) ≡ texts_of l.fn.all.items ++ variant_names (map view_variant l.variants)
