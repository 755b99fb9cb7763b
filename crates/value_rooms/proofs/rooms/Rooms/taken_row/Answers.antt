use Rattle.std.proofs.Common.{List, map, ap, ◌∙◌}
use Rattle.limbo_types.specs.View.{view_ty, view_tys}
use Rattle.limbo_layout.specs.Layout.{Room, nothing}
use Rattle.limbo_layout.specs.View.{view_defs}
use Rattle.limbo_layout.specs.declared.def.AdtDef.{AdtDef}
use Rattle.value_frames.specs.Frames.{row_of}
use Rattle.value_rooms.specs.Cut.{all_behind, all_taken, cut}
use Rattle.value_rooms.proofs.Rounds.{cut_row}
use Rattle.value_rooms.proofs.rooms.Rooms.taken_row.Goals as goal

pub returns : goal.returns
returns c =
    let ts = map view_ty c.args.types.now in
    c.in_ok-put_types.ensures
    ∙ ap (λ (w : Room). all_behind w (all_taken c.deref.result.now (view_tys c.args.types.now))) c.new-whole.ensures
    ∙ ap (λ (table : List Room). all_behind nothing (all_taken table (view_tys c.args.types.now)))
    (c.deref.ensures.value ∙ c.self.invariant.table)
    ∙ cut_row (view_defs c.self.inside.defs.now) ts
    ∙ ap (λ (ds : List AdtDef). cut (row_of (view_defs ds) ts)) c.self.view_is
