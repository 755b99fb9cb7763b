use Rattle.limbo_typed.specs.View.{view_expr}
use Rattle.limbo_value_forms.proofs.Given.{not_sent, updated, not_updated}
use Rattle.limbo_value_forms.proofs.giving.give.Goals as goal

pub returns-in-Send-clause-refused : goal.returns-in-Send-clause-refused
returns-in-Send-clause-refused c = not_sent c.send.result c.args.op c.args.left.value c.args.right.value c.in-Send.is c.send.ensures.refused

pub returns-in_default-clause-typed : goal.returns-in_default-clause-typed
returns-in_default-clause-typed c =
    updated c.update.result c.args.op c.in_default.not-Send (view_expr c.args.left.value) (view_expr c.args.right.value) c.update.ensures.typed

pub returns-in_default-clause-refused : goal.returns-in_default-clause-refused
returns-in_default-clause-refused c =
    not_updated c.update.result c.args.op c.in_default.not-Send (view_expr c.args.left.value) (view_expr c.args.right.value)
    c.update.ensures.refused
