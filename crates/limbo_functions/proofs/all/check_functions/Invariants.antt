use Rattle.std.proofs.Common.{◌≡◌, map, take}
use Rattle.limbo_typed.specs.View.{view_function}
use Rattle.limbo_context.specs.View.{view_context, view_callee}
use Rattle.limbo_stmt_values.specs.limbo_stating.Functions.{AreFunctions}
use Rattle.limbo_stmts.specs.View.{view_point}
use Rattle.limbo_functions.specs.View.{definitions_of}
use Rattle.limbo_functions.specs.Outside.{StandsOutside}
use Rattle.limbo_functions.proofs.all.check_functions.Given as goal

abbrev pub invariant-loop-number : goal.invariant-loop-number
invariant-loop-number l = record {
  outside : StandsOutside (view_point l.point);
  same_scopes : l.point.body.scopes ≡ l.fn.point.body.scopes;
  are : AreFunctions l.module_name l.fn.point.body.scopes (map view_callee (take l.number l.callees))
      (definitions_of (take l.number l.definitions)) (view_context l.fn.point.context) (map view_function l.functions.items)
      (view_context l.point.context);
}
