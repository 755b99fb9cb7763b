use Rattle.std.proofs.Common.{◌⊎◌, ℕ, true, drop}
use Rattle.limbo_layout.specs.Adts.{Has, held_in, types_of}
use Rattle.limbo_layout.specs.Paths.{IsAt}
use Rattle.limbo_layout.specs.View.{view_fields}
use Rattle.limbo_layout.proofs.order.unlaid_in_fields.Given as goal

abbrev pub invariant-loop-field : goal.invariant-loop-field
invariant-loop-field l = record {
  all : (n : ℕ) → Has (held_in (types_of (view_fields l.fields))) n → IsAt l.laid n true ⊎ Has (held_in (types_of (view_fields (drop l.field-index l.fields)))) n;
  only : (n : ℕ) → Has (held_in (types_of (view_fields (drop l.field-index l.fields)))) n → Has (held_in (types_of (view_fields l.fields))) n;
}
