use Rattle.std.proofs.Common.{List, subst}
use Rattle.std.proofs.lemmas.Result.{IfOk-weaker}
use Rattle.std.proofs.lemmas.Option.{same_Some}
use Rattle.limbo_layout.specs.declared.def.AdtDef as code_def
use Rattle.limbo_layout.specs.View.{view_defs}
use Rattle.limbo_typed.specs.View.{view_expr}
use Rattle.limbo_context.specs.View.{view_context}
use Rattle.limbo_places.specs.Targets.{Selects}
use Rattle.limbo_things.specs.Things.{AValue, PartOfValue, a_part}
use Rattle.limbo_things.proofs.Found.{found_as}
use Rattle.limbo_things.proofs.parts.selected.Goals as goal
use Rattle.std.proofs.Common.{sym}

pub returns-in-Ok-clause-part : goal.returns-in-Ok-clause-part
returns-in-Ok-clause-part c =
    let e = view_expr c.args.e.value in
    let part = view_expr c.in-Ok.part.value in
    let ctx = view_context c.args.context.now in
    let chosen : Selects ctx.adts c.args.name.now e part =
    subst (λ (z : List code_def.AdtDef). Selects (view_defs z) c.args.name.now e part) c.defs.ensures c.in-Ok.ensures.typed in
    IfOk-weaker c.some.result _ _
    (λ o h. found_as o _ (PartOfValue ctx c.args.name.now e) h (λ t q. a_part part chosen (sym (same_Some (AValue part) t q))))
    c.some.ensures
