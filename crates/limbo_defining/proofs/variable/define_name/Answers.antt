use Rattle.limbo_types.specs.View.{view_ty}
use Rattle.limbo_typed.specs.View.{view_pattern}
use Rattle.limbo_context.specs.View.{view_body}
use Rattle.limbo_defining.proofs.Names.{name_defined}
use Rattle.limbo_defining.proofs.variable.define_name.Goals as goal

pub returns-clause-defined : goal.returns-clause-defined
returns-clause-defined c =
    name_defined c.args.body.now c.args.name.now (view_ty c.args.t.now) c.in_ok-number.number (view_pattern c.in_ok-to_variable.field-0.value)
    (view_body c.declare_as.new.body)
    c.in_ok-number.ensures.numbered
    c.in_ok-number.ensures.free
    c.in_ok-to_variable.ensures
    c.in_ok-number.ensures.declared
