use Rattle.std.proofs.Common.{◌≡◌, ◌+◌, ◌++◌, map, drop, ap, arith}
use Rattle.limbo_tree.specs.View.{view_type, view_param}
use Rattle.limbo_declarations.proofs.Apart.{drop_more}
use Rattle.limbo_unknown.specs.Written.{in_type, in_params}
use Rattle.limbo_unknown.specs.Lacking.{LacksOneOf}
use Rattle.limbo_unknown.proofs.Gaps.{on}
use Rattle.limbo_unknown.proofs.types.missing_in_params.Goals as goal

pub loop-param-preserved : goal.loop-param-preserved
loop-param-preserved c =
    let k = c.loop-param.param-index in
    let ps = c.args.params.now in
    let xs = in_type (view_type c.param-item.result.of.value) in
    let more = in_params (map view_param (drop (k + 1) ps)) in
    let apart : in_params (map view_param (drop k ps)) ≡ xs ++ more =
    ap in_params (drop_more view_param k ps c.param-item.result (omega arith) c.param-item.is) in
    let never : LacksOneOf c.args.naming.now c.args.scope xs → ⊥ = rw c.deref.ensures at c.in_default.ensures in
    on c.args.naming.now c.args.scope (in_params (map view_param ps)) _ xs more apart never c.loop-param.invariant
