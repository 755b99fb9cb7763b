use Rattle.std.proofs.Common.{List, ap, ◌∙◌}
use Rattle.limbo_types.specs.View.{view_ty}
use Rattle.limbo_layout.specs.View.{view_defs}
use Rattle.limbo_layout.specs.Laying.{room}
use Rattle.limbo_layout.specs.declared.def.AdtDef.{AdtDef}
use Rattle.core_code.specs.Rooms.{rooms_in}
use Rattle.core_code.specs.Terms.{count_of}
use Rattle.value_extents.specs.Extent.{Extent, extent, told}
use Rattle.value_extents.proofs.Rounds.{told_type}
use Rattle.value_extents.proofs.extents.Extents.extent.Goals as goal

pub returns : goal.returns
returns c =
    let t = view_ty c.args.t.now in
    c.extent_of.ensures
    ∙ ap (λ (table : List Extent). extent table t) (c.deref.ensures.value ∙ c.self.invariant.table)
    ∙ told_type (view_defs c.self.inside.defs.now) t
    ∙ ap (λ (ds : List AdtDef). told (room (rooms_in (view_defs ds)) t) (count_of (view_defs ds) t)) c.self.view_is
