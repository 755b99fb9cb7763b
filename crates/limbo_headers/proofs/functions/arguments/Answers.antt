use Rattle.std.proofs.Common.{refl, sym, subst, arith}
use Rattle.limbo_tree.specs.declared.types.TypeTree as code_type
use Rattle.limbo_types.specs.View.{view_ty}
use Rattle.limbo_type_names.specs.Means.{no_more}
use Rattle.limbo_type_names.specs.Writes.{Fails}
use Rattle.limbo_type_names.specs.Working.{entries_in}
use Rattle.limbo_headers.specs.Refusals.{IsParamType}
use Rattle.limbo_headers.proofs.Listing.{arguments_more}
use Rattle.limbo_headers.proofs.Telling.{one_fails}
use Rattle.limbo_headers.proofs.functions.arguments.Goals as goal

pub loop-param-init : goal.loop-param-init
loop-param-init c = rw c.new-types.ensures.items (no_more c.args.scope)

pub returns-in-Err-clause-fails : goal.returns-in-Err-clause-fails
returns-in-Err-clause-fails c =
    let n = c.args.names.now.naming.now in
    let p = c.param-item.result in
    one_fails (entries_in n) n.implemented c.args.scope (IsParamType c.args.params.now) p.of.value (p, (c.loop-param.param-index, omega arith, sym c.param-item.is), refl)
    c.in-Err.fault
    (subst (λ (z : code_type.TypeTree). Fails (entries_in n) n.implemented c.args.scope z c.in-Err.fault) c.deref.ensures c.in-Err.ensures.fails)

pub loop-param-preserved : goal.loop-param-preserved
loop-param-preserved c =
    let n = c.args.names.now.naming.now in
    arguments_more (entries_in n) n.implemented c.args.scope c.args.params.now c.loop-param.param-index c.param-item.result c.loop-param.types.items _ (view_ty c.in-Ok.ty)
    (omega arith) c.param-item.is c.loop-param.invariant (rw c.deref.ensures at c.in-Ok.ensures.means)
    (rw c.deref-in-Ok.ensures.value at c.in_ok-push_each-in-Ok.ensures)
