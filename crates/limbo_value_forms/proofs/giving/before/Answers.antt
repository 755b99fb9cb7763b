use Rattle.std.proofs.Common.{ap}
use Rattle.limbo_layout.specs.View.{view_defs}
use Rattle.limbo_tree.specs.declared.operators.UnaryOp.TheVariants as op
use Rattle.limbo_typed.specs.View.{view_expr}
use Rattle.limbo_refusals.specs.Refusals.{NoneIs}
use Rattle.limbo_context.specs.View.{view_context}
use Rattle.limbo_places.specs.Targets.{Dereferences, Refers}
use Rattle.limbo_channels.specs.Channels.{Receives}
use Rattle.limbo_value_forms.proofs.Given.{as_refused, itself_refused, operated, not_operated}
use Rattle.limbo_value_forms.proofs.giving.before.Goals as goal

pub returns-in-Deref-clause-refused : goal.returns-in-Deref-clause-refused
returns-in-Deref-clause-refused c =
    as_refused c.dereference.result (view_context c.args.context.now) c.args.op op.Deref (view_expr c.args.operand.value) c.in-Deref.is
    (itself_refused c.dereference.result c.args.operand.value (NoneIs (Dereferences (view_expr c.args.operand.value)))
    c.dereference.ensures.refused)

pub returns-in-Ref-clause-refused : goal.returns-in-Ref-clause-refused
returns-in-Ref-clause-refused c =
    as_refused c.refer.result (view_context c.args.context.now) c.args.op op.Ref (view_expr c.args.operand.value) c.in-Ref.is
    (itself_refused c.refer.result c.args.operand.value (NoneIs (Refers (view_expr c.args.operand.value))) c.refer.ensures.refused)

pub returns-in-Receive-clause-refused : goal.returns-in-Receive-clause-refused
returns-in-Receive-clause-refused c =
    as_refused c.receive.result (view_context c.args.context.now) c.args.op op.Receive (view_expr c.args.operand.value) c.in-Receive.is
    (itself_refused c.receive.result c.args.operand.value (NoneIs (Receives (view_expr c.args.operand.value))) c.receive.ensures.refused)

pub returns-in_default-clause-typed : goal.returns-in_default-clause-typed
returns-in_default-clause-typed c =
    operated (view_context c.args.context.now) c.operate.result c.args.op
    (record {
      no_target = c.in_default.not-Deref;
      no_reference = c.in_default.not-Ref;
      no_receive = c.in_default.not-Receive;
      no_increment = c.in_default.not-Increment;
      no_decrement = c.in_default.not-Decrement;
    })
    (view_expr c.args.operand.value) (view_defs c.defs.result.now) (ap view_defs c.defs.ensures) c.operate.ensures.typed

pub returns-in_default-clause-refused : goal.returns-in_default-clause-refused
returns-in_default-clause-refused c =
    not_operated (view_context c.args.context.now) c.operate.result c.args.op
    (record {
      no_target = c.in_default.not-Deref;
      no_reference = c.in_default.not-Ref;
      no_receive = c.in_default.not-Receive;
      no_increment = c.in_default.not-Increment;
      no_decrement = c.in_default.not-Decrement;
    })
    (view_expr c.args.operand.value) (view_defs c.defs.result.now) (ap view_defs c.defs.ensures) c.operate.ensures.refused
