use Rattle.std.proofs.Common.{drop}
use Rattle.limbo_constants.specs.View.{view_parts}
use Rattle.limbo_unknown.specs.Written.{in_parts}
use Rattle.limbo_unknown.proofs.Gaps.{Alike}
use Rattle.limbo_unknown.proofs.exprs.missing_in_parts.Given as goal

abbrev pub invariant-loop-part : goal.invariant-loop-part
invariant-loop-part l =
    Alike l.naming l.scope (in_parts l.in_constant (view_parts (drop l.part-index l.parts))) (in_parts l.in_constant (view_parts l.parts))
