use Rattle.std.proofs.Common.{◌≡◌, drop}
use Rattle.limbo_types.specs.View.{view_ty}
use Rattle.limbo_layout.specs.Adts.{types_of}
use Rattle.limbo_layout.specs.View.{view_fields}
use Rattle.limbo_adts.specs.Reading.{any_touch}
use Rattle.limbo_adts.proofs.reaching.fields_touch.Given as goal

abbrev pub invariant-loop-field : goal.invariant-loop-field
invariant-loop-field l = any_touch (types_of (view_fields (drop l.field-index l.fields))) (view_ty l.u) ≡ any_touch (types_of (view_fields l.fields)) (view_ty l.u)
