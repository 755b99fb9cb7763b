use Rattle.std.proofs.Common.{◌++◌, List, ℕ, map, ap, ◌∙◌}
use Rattle.limbo_types.specs.View.{view_ty}
use Rattle.limbo_layout.specs.Adts.{parts}
use Rattle.limbo_layout.specs.Layout.{Room}
use Rattle.limbo_layout.specs.View.{view_defs}
use Rattle.limbo_layout.specs.declared.def.AdtDef.{AdtDef}
use Rattle.value_frames.specs.Frames.{names_at}
use Rattle.value_rooms.specs.Names.{moved, named, view_names}
use Rattle.value_rooms.specs.Tables.{table_of}
use Rattle.value_rooms.proofs.Naming.{told_names}
use Rattle.value_rooms.proofs.rooms.Rooms.told_names.Goals as goal

pub returns : goal.returns
returns c =
    let t = view_ty c.args.t.now in
    let defs = view_defs c.self.inside.defs.now in
    c.in_ok-put_names.ensures
    ∙ ap (λ (ns : List ℕ). ns ++ named c.deref.result.now (view_names c.deref-2.result.now) 0 t) c.new-names.ensures.items
    ∙ ap (λ (table : List Room). named table (view_names c.deref-2.result.now) 0 t) (c.deref.ensures.value ∙ c.self.invariant.table)
    ∙ ap (λ (adts : List (List ℕ)). named (table_of (map parts defs)) adts 0 t)
    (ap view_names c.deref-2.ensures.value ∙ c.self.invariant.names)
    ∙ told_names defs t
    ∙ ap (λ (ds : List AdtDef). moved 0 (names_at (view_defs ds) t)) c.self.view_is
