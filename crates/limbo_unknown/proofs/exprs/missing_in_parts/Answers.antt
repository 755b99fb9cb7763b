use Rattle.std.proofs.Common.{◌≡◌, ◌+◌, ◌++◌, drop, ap, arith}
use Rattle.limbo_tree.specs.View.{view_expr}
use Rattle.limbo_constants.specs.View.{view_parts}
use Rattle.limbo_declarations.proofs.Apart.{drop_more}
use Rattle.limbo_unknown.specs.Written.{first, in_parts}
use Rattle.limbo_unknown.proofs.Gaps.{on}
use Rattle.limbo_unknown.proofs.exprs.missing_in_parts.Goals as goal

pub loop-part-preserved : goal.loop-part-preserved
loop-part-preserved c =
    let k = c.loop-part.part-index in
    let ps = c.args.parts.now in
    let d = c.args.in_constant in
    let xs = first d (view_expr c.part-item.result.now) in
    let more = in_parts d (view_parts (drop (k + 1) ps)) in
    let apart : in_parts d (view_parts (drop k ps)) ≡ xs ++ more =
    ap (in_parts d) (drop_more (λ p. view_expr p.now) k ps c.part-item.result (omega arith) c.part-item.is) in
    on c.args.naming.now c.args.scope (in_parts d (view_parts ps)) _ xs more apart c.in_default.ensures c.loop-part.invariant
