use Rattle.std.proofs.Common.{map, drop}
use Rattle.limbo_types.specs.View.{view_ty}
use Rattle.limbo_calls.specs.Calls.{PassesNone}
use Rattle.limbo_calls.proofs.calling.passes_none.Given as goal

-- what is left decides
abbrev pub invariant-loop-param : goal.invariant-loop-param
invariant-loop-param l = record {
  all : PassesNone l.system (map view_ty (drop l.param-index l.params)) → PassesNone l.system (map view_ty l.params);
  left : PassesNone l.system (map view_ty l.params) → PassesNone l.system (map view_ty (drop l.param-index l.params));
}
