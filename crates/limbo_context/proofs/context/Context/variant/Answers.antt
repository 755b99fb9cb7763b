use Rattle.std.proofs.Common.{List, subst}
use Rattle.limbo_layout.specs.declared.def.AdtDef as code_def
use Rattle.limbo_layout.specs.View.{view_defs}
use Rattle.limbo_refusals.specs.Refusals.{NoneIs}
use Rattle.limbo_context.specs.Context.{HasVariantAt}
use Rattle.limbo_context.proofs.context.Context.variant.Goals as goal

pub returns-in-None-clause-none : goal.returns-in-None-clause-none
returns-in-None-clause-none c =
    subst (λ (z : List code_def.AdtDef). NoneIs (HasVariantAt (view_defs z) c.args.adt c.args.name.now)) c.defs.ensures c.in-None.ensures.none
