use Rattle.std.proofs.Common.{◌≡◌, take}
use Rattle.limbo_layout.specs.View.{view_fields}
use Rattle.limbo_members.proofs.copying.copy_fields.Given as goal

abbrev pub invariant-loop-field : goal.invariant-loop-field
invariant-loop-field l = view_fields l.copies.items ≡ view_fields (take l.field-index l.fields)
