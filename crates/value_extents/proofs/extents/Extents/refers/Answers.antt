use Rattle.std.proofs.Common.{ap, ◌∙◌}
use Rattle.std.specs.Prelude.{nat_lt}
use Rattle.limbo_types.specs.View.{view_ty}
use Rattle.limbo_layout.specs.View.{view_defs}
use Rattle.limbo_meaning.specs.Values.{references, zero_of}
use Rattle.value_extents.specs.Extent.{Extent}
use Rattle.value_extents.proofs.Rounds.{any}
use Rattle.value_extents.proofs.extents.Extents.refers.Goals as goal

pub returns : goal.returns
returns c =
    ap (nat_lt 0) (c.count.ensures.count ∙ ap (λ (e : Extent). e.count) c.extent.ensures)
    ∙ any (references (zero_of (view_defs c.args.self.now) (view_ty c.args.t.now)))
