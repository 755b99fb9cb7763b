use Rattle.std.proofs.Common.{◌≤◌, ◌*◌, map, sym, ap, subst}
use Rattle.limbo_layout.specs.View.{view_defs}
use Rattle.limbo_typed.specs.View.{view_module, view_function}
use Rattle.core_code.specs.Code.{Program}
use Rattle.core_code.specs.Sizes.{module_nodes, instructions}
use Rattle.core_code.proofs.Typed.{eight_a_node}
use Rattle.limbo_lower.proofs.Functions.{all_fit, all_made}
use Rattle.limbo_lower.proofs.lowering.lower.Goals as goal

pub lower_functions-requires : goal.lower_functions-requires
lower_functions-requires c =
    all_fit (view_module c.args.module.now) _ c.deref.result.now (c.in_ok-extents.ensures {u = tt}).fits
    (ap view_defs (c.in_ok-extents.ensures {u = tt}).extents) (ap (map view_function) c.deref.ensures.value)

pub returns-clause-code : goal.returns-clause-code
returns-clause-code c =
    let m = view_module c.args.module.now in
    all_made m _ c.deref.result.now c.in_ok-functions.functions.items (ap view_defs (c.in_ok-extents.ensures {u = tt}).extents)
    (ap (map view_function) c.deref.ensures.value) (c.in_ok-functions.ensures {u = tt})

pub returns-clause-few : goal.returns-clause-few
returns-clause-few c =
    let m = view_module c.args.module.now in
    let is = all_made m _ c.deref.result.now c.in_ok-functions.functions.items (ap view_defs (c.in_ok-extents.ensures {u = tt}).extents)
    (ap (map view_function) c.deref.ensures.value) (c.in_ok-functions.ensures {u = tt}) in
    subst (λ (p : Program). instructions p.functions ≤ 8 * module_nodes m) (sym is) (eight_a_node.modules m)
