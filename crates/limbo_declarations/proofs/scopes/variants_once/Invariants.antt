use Rattle.std.proofs.Common.{◌≡◌, ◌++◌, ◌<◌, ℕ, List, map, drop}
use Rattle.limbo_tree.specs.View.{view_variant}
use Rattle.limbo_declarations.specs.Names.{IsIndex}
use Rattle.limbo_declarations.specs.Scopes.{FieldsAreOnce}
use Rattle.limbo_declarations.proofs.scopes.variants_once.Given as goal

abbrev pub invariant-loop-v : goal.invariant-loop-v
invariant-loop-v l = record {
  up : (ns : List (List ℕ)) → IsIndex l.members ns → FieldsAreOnce ns (map view_variant (drop l.v-index l.variants)) → FieldsAreOnce ns (map view_variant l.variants);
  down : (ns : List (List ℕ)) → FieldsAreOnce ns (map view_variant l.variants) → FieldsAreOnce ns (map view_variant (drop l.v-index l.variants));
}
