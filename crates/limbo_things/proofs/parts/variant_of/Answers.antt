use Rattle.std.proofs.Common.{rules}
use Rattle.limbo_context.specs.View.{view_context}
use Rattle.limbo_context.specs.Context.{HasVariantNamed}
use Rattle.limbo_refusals.specs.Refusals.{NoneIs}
use Rattle.limbo_things.proofs.parts.variant_of.Goals as goal

pub returns-in-None-clause-none : goal.returns-in-None-clause-none
returns-in-None-clause-none c = λ x h.
    let none : NoneIs (HasVariantNamed (view_context c.args.context.now) c.args.adt c.args.name.now) = search rules in
    none h.0 h.1
