use Rattle.std.proofs.Common.{arith, map, List, ap, ◌∙◌}
use Rattle.std.proofs.lemmas.Grind.{common_steps}
use Rattle.limbo_types.specs.View.{view_ty}
use Rattle.limbo_layout.specs.View.{view_defs}
use Rattle.limbo_typed.specs.declared.expr.Item as code_item
use Rattle.limbo_typed.specs.declared.expr.TExpr as code_expr
use Rattle.limbo_typed.specs.View.{view_expr, view_item, view_node, items_of}
use Rattle.limbo_typed.proofs.View.{view_node-Filled}
use Rattle.limbo_typed.proofs.View.{view_expr-out, view_node-Apply, view_node-Assign, view_node-Call, view_node-Copy}
use Rattle.limbo_typed.proofs.View.{view_node-Lazy, view_node-Load, view_node-Part, view_node-Print, view_node-Read}
use Rattle.limbo_typed.proofs.View.{view_node-Step, view_node-Update, view_optional-None, view_optional-Some, view_pattern-Nothing}
use Rattle.limbo_typed.proofs.View.{view_pattern-Place, view_pattern-Tuple}
use Rattle.limbo_typed.proofs.View.{view_place-out, view_place_node-Character, view_place_node-Element}
use Rattle.limbo_typed.proofs.View.{view_place_node-Field, view_place_node-Global, view_place_node-Local, view_place_node-Target}
use Rattle.core_frames.specs.Sizes.{expr_size, greatest, held_size, inner_size}
use Rattle.core_sizing.specs.Sizes.{parts_size}
use Rattle.core_sizing.proofs.Others.{no_parts, other_size}
use Rattle.core_sizing.proofs.Elements.{held-next, greatest-next}
use Rattle.core_sizing.proofs.sizes.+sizes.Goals as goal

pub inner_leaves-returns-in_err-elements-in-Filled : goal.inner_leaves-returns-in_err-elements-in-Filled
inner_leaves-returns-in_err-elements-in-Filled t c =
    let defs = view_defs c.args.extents.now in
    let at = c.in-Filled in
    let size = ap (inner_size defs (view_ty c.args.ty.now)) (ap view_node at.is ∙ view_node-Filled at.length at.items at.rest) in
    let held = ap (λ (is : List code_item.Item). held_size defs (items_of (map view_item is))) c.deref-in-Filled.ensures.value in
    let great = ap (λ (is : List code_item.Item). greatest defs (items_of (map view_item is))) c.deref-in-Filled.ensures.value in
    grind (arith, common_steps)

pub inner_leaves-returns-in_err-elements-in-Filled-2 : goal.inner_leaves-returns-in_err-elements-in-Filled-2
inner_leaves-returns-in_err-elements-in-Filled-2 t c =
    let defs = view_defs c.args.extents.now in
    let at = c.in-Filled in
    let size = ap (inner_size defs (view_ty c.args.ty.now)) (ap view_node at.is ∙ view_node-Filled at.length at.items at.rest) in
    let held = ap (λ (is : List code_item.Item). held_size defs (items_of (map view_item is))) c.deref-in-Filled.ensures.value in
    let great = ap (λ (is : List code_item.Item). greatest defs (items_of (map view_item is))) c.deref-in-Filled.ensures.value in
    grind (arith, common_steps)

pub inner_leaves-returns-in_ok-elements-in-Filled-2 : goal.inner_leaves-returns-in_ok-elements-in-Filled-2
inner_leaves-returns-in_ok-elements-in-Filled-2 t c =
    let defs = view_defs c.args.extents.now in
    let at = c.in-Filled in
    let size = ap (inner_size defs (view_ty c.args.ty.now)) (ap view_node at.is ∙ view_node-Filled at.length at.items at.rest) in
    let held = ap (λ (is : List code_item.Item). held_size defs (items_of (map view_item is))) c.deref-in-Filled.ensures.value in
    let great = ap (λ (is : List code_item.Item). greatest defs (items_of (map view_item is))) c.deref-in-Filled.ensures.value in
    grind (arith, common_steps)

pub inner_leaves-returns-in_ok-rest-in_default : goal.inner_leaves-returns-in_ok-rest-in_default
inner_leaves-returns-in_ok-rest-in_default t c =
    let d = c.in_default in
    let size = other_size (view_defs c.args.extents.now) (view_ty c.args.ty.now) c.args.node.now d.not-Read d.not-Update d.not-Step
    d.not-Filled in
    grind (arith, common_steps)

pub inner_leaves-returns-in_err-rest-in_default : goal.inner_leaves-returns-in_err-rest-in_default
inner_leaves-returns-in_err-rest-in_default t c =
    let d = c.in_default in
    let size = other_size (view_defs c.args.extents.now) (view_ty c.args.ty.now) c.args.node.now d.not-Read d.not-Update d.not-Step
    d.not-Filled in
    grind (arith, common_steps)

pub parts_leave-returns-in_default : goal.parts_leave-returns-in_default
parts_leave-returns-in_default t c =
    let d = c.in_default in
    let none = no_parts (view_defs c.args.extents.now) c.args.node.now d.not-Part d.not-Apply d.not-Lazy d.not-Assign d.not-Copy d.not-Call
    d.not-Print d.not-Load in
    omega (arith, none)

pub items_leave-returns-in_err-elements : goal.items_leave-returns-in_err-elements
items_leave-returns-in_err-elements t c =
    let defs = view_defs c.args.extents.now in
    let held = held-next defs c.args.items.now c.loop-item.item-index c.item-item.result (omega arith) c.item-item.is in
    let great = greatest-next defs c.args.items.now c.loop-item.item-index c.item-item.result (omega arith) c.item-item.is in
    grind (arith, common_steps)

pub items_leave-loop-item-preserved : goal.items_leave-loop-item-preserved
items_leave-loop-item-preserved t c =
    let defs = view_defs c.args.extents.now in
    let held = held-next defs c.args.items.now c.loop-item.item-index c.item-item.result (omega arith) c.item-item.is in
    let great = greatest-next defs c.args.items.now c.loop-item.item-index c.item-item.result (omega arith) c.item-item.is in
    record { fits = omega arith; held = omega arith; greatest = omega arith }

pub expr_leaves-returns : goal.expr_leaves-returns
expr_leaves-returns t c = grind (arith, common_steps, view_expr-out)

pub inner_leaves-returns-in-Read : goal.inner_leaves-returns-in-Read
inner_leaves-returns-in-Read t c = grind (arith, common_steps, view_node-Read)

pub inner_leaves-returns-in_err-left-in-Filled : goal.inner_leaves-returns-in_err-left-in-Filled
inner_leaves-returns-in_err-left-in-Filled t c = grind (arith, common_steps, view_node-Filled)

pub inner_leaves-returns-in_err-left-in-Filled-2 : goal.inner_leaves-returns-in_err-left-in-Filled-2
inner_leaves-returns-in_err-left-in-Filled-2 t c = grind (arith, common_steps, view_node-Filled)

pub inner_leaves-returns-in_err-rest-in-Step : goal.inner_leaves-returns-in_err-rest-in-Step
inner_leaves-returns-in_err-rest-in-Step t c = grind (arith, common_steps, view_node-Step, view_place-out)

pub inner_leaves-returns-in_err-rest-in-Update : goal.inner_leaves-returns-in_err-rest-in-Update
inner_leaves-returns-in_err-rest-in-Update t c = grind (arith, common_steps, view_node-Update, view_place-out)

pub inner_leaves-returns-in_err-rest-in-Update-2 : goal.inner_leaves-returns-in_err-rest-in-Update-2
inner_leaves-returns-in_err-rest-in-Update-2 t c = grind (arith, common_steps, view_node-Update, view_place-out)

pub inner_leaves-returns-in_ok-rest-in-Step : goal.inner_leaves-returns-in_ok-rest-in-Step
inner_leaves-returns-in_ok-rest-in-Step t c = grind (arith, common_steps, view_node-Step, view_place-out)

pub inner_leaves-returns-in_ok-rest-in-Update-2 : goal.inner_leaves-returns-in_ok-rest-in-Update-2
inner_leaves-returns-in_ok-rest-in-Update-2 t c = grind (arith, common_steps, view_node-Update, view_place-out)

pub optional_leaves-returns-in-None : goal.optional_leaves-returns-in-None
optional_leaves-returns-in-None t c = grind (arith, common_steps, view_optional-None)

pub optional_leaves-returns-in-Some : goal.optional_leaves-returns-in-Some
optional_leaves-returns-in-Some t c = grind (arith, common_steps, view_optional-Some)

pub other_leaves-returns-in-None : goal.other_leaves-returns-in-None
other_leaves-returns-in-None t c = grind (arith, common_steps, view_optional-None)

pub other_leaves-returns-in-Some : goal.other_leaves-returns-in-Some
other_leaves-returns-in-Some t c = grind (arith, common_steps, view_optional-Some)

pub parts_leave-returns-in-Apply : goal.parts_leave-returns-in-Apply
parts_leave-returns-in-Apply t c = grind (arith, common_steps, view_node-Apply)

pub parts_leave-returns-in-Call : goal.parts_leave-returns-in-Call
parts_leave-returns-in-Call t c = grind (arith, common_steps, view_node-Call)

pub parts_leave-returns-in-Load : goal.parts_leave-returns-in-Load
parts_leave-returns-in-Load t c = grind (arith, common_steps, view_node-Load)

pub parts_leave-returns-in-Part : goal.parts_leave-returns-in-Part
parts_leave-returns-in-Part t c = grind (arith, common_steps, view_node-Part)

pub parts_leave-returns-in_err-rest-in-Assign : goal.parts_leave-returns-in_err-rest-in-Assign
parts_leave-returns-in_err-rest-in-Assign t c = grind (arith, common_steps, view_node-Assign)

pub parts_leave-returns-in_err-rest-in-Print : goal.parts_leave-returns-in_err-rest-in-Print
parts_leave-returns-in_err-rest-in-Print t c = grind (arith, common_steps, view_node-Print)

pub parts_leave-returns-in_ok-rest-in-Assign : goal.parts_leave-returns-in_ok-rest-in-Assign
parts_leave-returns-in_ok-rest-in-Assign t c = grind (arith, common_steps, view_node-Assign)

pub parts_leave-returns-in_ok-rest-in-Print : goal.parts_leave-returns-in_ok-rest-in-Print
parts_leave-returns-in_ok-rest-in-Print t c = grind (arith, common_steps, view_node-Print)

pub pattern_leaves-returns-in-Nothing : goal.pattern_leaves-returns-in-Nothing
pattern_leaves-returns-in-Nothing t c = grind (arith, common_steps, view_pattern-Nothing)

pub pattern_leaves-returns-in-Place : goal.pattern_leaves-returns-in-Place
pattern_leaves-returns-in-Place t c = grind (arith, common_steps, view_pattern-Place)

pub pattern_leaves-returns-in-Tuple : goal.pattern_leaves-returns-in-Tuple
pattern_leaves-returns-in-Tuple t c = grind (arith, common_steps, view_pattern-Tuple)

pub place_leaves-returns : goal.place_leaves-returns
place_leaves-returns t c = grind (arith, common_steps, view_place-out)

pub place_leaves-returns-in_err-rest : goal.place_leaves-returns-in_err-rest
place_leaves-returns-in_err-rest t c = grind (arith, common_steps, view_place-out)

pub way_leaves-returns-in-Field : goal.way_leaves-returns-in-Field
way_leaves-returns-in-Field t c = grind (arith, common_steps, view_place_node-Field)

pub way_leaves-returns-in-Global : goal.way_leaves-returns-in-Global
way_leaves-returns-in-Global t c = grind (arith, common_steps, view_place_node-Global)

pub way_leaves-returns-in-Local : goal.way_leaves-returns-in-Local
way_leaves-returns-in-Local t c = grind (arith, common_steps, view_place_node-Local)

pub way_leaves-returns-in-Target : goal.way_leaves-returns-in-Target
way_leaves-returns-in-Target t c = grind (arith, common_steps, view_place_node-Target)

pub way_leaves-returns-in_err-rest-in-Character : goal.way_leaves-returns-in_err-rest-in-Character
way_leaves-returns-in_err-rest-in-Character t c = grind (arith, common_steps, view_place_node-Character)

pub way_leaves-returns-in_ok-rest-in-Character : goal.way_leaves-returns-in_ok-rest-in-Character
way_leaves-returns-in_ok-rest-in-Character t c = grind (arith, common_steps, view_place_node-Character)

pub parts_leave-returns-in_err-rest-in-Copy : goal.parts_leave-returns-in_err-rest-in-Copy
parts_leave-returns-in_err-rest-in-Copy t c = grind (arith, common_steps, view_node-Copy)

pub parts_leave-returns-in_ok-rest-in-Copy : goal.parts_leave-returns-in_ok-rest-in-Copy
parts_leave-returns-in_ok-rest-in-Copy t c =
    let defs = view_defs c.args.extents.now in
    let at = c.in-Copy in
    let size = ap (parts_size defs) (ap view_node at.is ∙ view_node-Copy at.array at.from at.value) in
    let array = ap (λ (e : code_expr.TExpr). expr_size defs (view_expr e)) c.deref-in-Copy.ensures in
    let from = ap (λ (e : code_expr.TExpr). expr_size defs (view_expr e)) c.deref-in-Copy-2.ensures in
    let value = ap (λ (e : code_expr.TExpr). expr_size defs (view_expr e)) c.deref-in-Copy-3.ensures in
    grind (arith, common_steps)

pub parts_leave-returns-in-Lazy : goal.parts_leave-returns-in-Lazy
parts_leave-returns-in-Lazy t c = grind (arith, common_steps, view_node-Lazy)

pub way_leaves-returns-in-Element : goal.way_leaves-returns-in-Element
way_leaves-returns-in-Element t c = grind (arith, common_steps, view_place_node-Element)
