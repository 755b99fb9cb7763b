use Rattle.std.proofs.Common.{List, min, take, ap, ◌∙◌}
use Rattle.limbo_types.specs.View.{view_ty}
use Rattle.limbo_layout.specs.View.{view_defs}
use Rattle.limbo_layout.specs.declared.def.AdtDef.{AdtDef}
use Rattle.core_code.specs.Terms.{count_all, part_types}
use Rattle.value_extents.specs.Extent.{Extent, all_behind, empty, extents_of, most}
use Rattle.value_extents.proofs.Rounds.{told_row}
use Rattle.value_extents.proofs.extents.Extents.first_count.Goals as goal

pub returns : goal.returns
returns c =
    let t = view_ty c.args.t.now in
    let defs = view_defs c.self.inside.defs.now in
    let ts = take c.args.parts (part_types defs t) in
    c.count.ensures.count
    ∙ ap (λ (e : Extent). e.count)
    (c.first_parts.ensures
    ∙ ap (λ (table : List Extent). all_behind empty (extents_of table ts)) (c.deref.ensures.value ∙ c.self.invariant.table)
    ∙ told_row defs ts)
    ∙ ap (λ (ds : List AdtDef). min (count_all (view_defs ds) (take c.args.parts (part_types (view_defs ds) t))) most) c.self.view_is
