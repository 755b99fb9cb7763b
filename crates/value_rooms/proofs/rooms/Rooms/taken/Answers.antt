use Rattle.std.proofs.Common.{List, ap, ◌∙◌}
use Rattle.limbo_types.specs.View.{view_ty}
use Rattle.limbo_layout.specs.Layout.{Room, nothing}
use Rattle.limbo_layout.specs.View.{view_defs}
use Rattle.limbo_layout.specs.declared.def.AdtDef.{AdtDef}
use Rattle.value_frames.specs.Frames.{room_for}
use Rattle.value_rooms.specs.Cut.{behind, cut, taken}
use Rattle.value_rooms.proofs.Rounds.{alone}
use Rattle.value_rooms.proofs.rooms.Rooms.taken.Goals as goal

pub returns : goal.returns
returns c =
    let t = view_ty c.args.t.now in
    c.in_ok-put_type.ensures
    ∙ ap (λ (w : Room). behind w (taken c.deref.result.now t)) c.new-whole.ensures
    ∙ ap (λ (table : List Room). behind nothing (taken table t)) (c.deref.ensures.value ∙ c.self.invariant.table)
    ∙ alone (view_defs c.self.inside.defs.now) t
    ∙ ap (λ (ds : List AdtDef). cut (room_for (view_defs ds) t)) c.self.view_is
