use Rattle.std.proofs.Common.{List, map, min, ap, sym, ◌∙◌}
use Rattle.limbo_types.specs.View.{view_ty, view_tys}
use Rattle.limbo_layout.specs.View.{view_defs}
use Rattle.limbo_layout.specs.declared.def.AdtDef.{AdtDef}
use Rattle.core_code.specs.Terms.{count_all}
use Rattle.value_extents.specs.Extent.{Extent, all_behind, all_extents, empty, most, table_of}
use Rattle.value_extents.proofs.Rounds.{extents-row, told_row}
use Rattle.value_extents.proofs.extents.Extents.row_count.Goals as goal

pub returns : goal.returns
returns c =
    let ts = map view_ty c.args.types.now in
    let defs = view_defs c.self.inside.defs.now in
    c.count.ensures.count
    ∙ ap (λ (e : Extent). e.count)
    (c.types_behind.ensures
    ∙ ap (λ (w : Extent). all_behind w (all_extents c.deref.result.now (view_tys c.args.types.now))) c.empty.ensures
    ∙ ap (λ (table : List Extent). all_behind empty (all_extents table (view_tys c.args.types.now)))
    (c.deref.ensures.value ∙ c.self.invariant.table)
    ∙ ap (λ (es : List Extent). all_behind empty es) (sym (extents-row (table_of defs) ts))
    ∙ told_row defs ts)
    ∙ ap (λ (ds : List AdtDef). min (count_all (view_defs ds) ts) most) c.self.view_is
