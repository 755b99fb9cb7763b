use Rattle.std.proofs.Common.{arith, ◌≡◌, Bool, true, false, ◌&&◌, ◌||◌, List, ap, sym, ◌∙◌}
use Rattle.limbo_typed.specs.declared.expr.TExpr as code_expr
use Rattle.limbo_typed.specs.View.{view_expr, view_exprs, view_node, view_optional}
use Rattle.limbo_typed.proofs.View.{view_node-Print}
use Rattle.limbo_typed.proofs.View.{view_expr-out, view_node-Apply, view_node-Assign, view_node-Call, view_node-Channel, view_node-Copy}
use Rattle.limbo_typed.proofs.View.{view_node-Filled, view_node-Lazy, view_node-Part, view_node-Read, view_node-Step, view_node-Update}
use Rattle.limbo_typed.proofs.View.{view_pattern-Nothing, view_pattern-Place, view_pattern-Tuple}
use Rattle.limbo_typed.proofs.View.{view_place-out, view_place_node-Character, view_place_node-Element}
use Rattle.limbo_typed.proofs.View.{view_place_node-Field, view_place_node-Global, view_place_node-Local, view_place_node-Target}
use Rattle.core_sizing.specs.Holding.{expr_holds, exprs_hold, is_print, node_holds}
use Rattle.core_sizing.proofs.Others.{holds_not}
use Rattle.limbo_types.specs.View.{view_ty}
use Rattle.limbo_layout.specs.View.{view_defs}
use Rattle.core_sizing.proofs.holding.+holding.Goals as goal

pub node_holds-returns-in_default : goal.node_holds-returns-in_default
node_holds-returns-in_default t c =
    let d = c.in_default in
    holds_not (view_defs c.args.extents.now) (view_ty c.args.ty.now) c.args.node.now (record {
      read = d.not-Read;
      part = d.not-Part;
      apply = d.not-Apply;
      lazy = d.not-Lazy;
      assign = d.not-Assign;
      update = d.not-Update;
      step = d.not-Step;
      copy = d.not-Copy;
      filled = d.not-Filled;
      call = d.not-Call;
      print = d.not-Print;
    }) d.not-Channel

pub node_holds-returns-then-is_print : goal.node_holds-returns-then-is_print
node_holds-returns-then-is_print t c =
    let defs = view_defs c.args.extents.now in
    let at = c.in-Print in
    let printed : is_print at.printed (view_optional at.file) ≡ true = sym c.is_print.ensures ∙ c.if-is_print.true in
    c.exprs_hold-then-is_print.ensures
    ∙ ap (λ (es : List code_expr.TExpr). exprs_hold defs (view_exprs es)) c.deref-then-is_print.ensures.value
    ∙ sym (ap (λ (b : Bool). b && exprs_hold defs (view_exprs at.args.items)) printed)
    ∙ sym (ap (node_holds defs (view_ty c.args.ty.now)) (ap view_node at.is
    ∙ view_node-Print at.printed at.module at.file at.format at.args))

pub expr_holds-returns : goal.expr_holds-returns
expr_holds-returns t c = grind (arith, view_expr-out)

pub node_holds-returns-else-expr_holds : goal.node_holds-returns-else-expr_holds
node_holds-returns-else-expr_holds t c =
    let defs = view_defs c.args.extents.now in
    let at = c.in-Copy in
    let holds = λ (e : code_expr.TExpr). expr_holds defs (view_expr e) in
    let first : holds at.array.value ≡ false = ap holds (sym c.deref-in-Copy.ensures) ∙ sym c.if-expr_holds.ensures in
    c.one_holds-else-expr_holds.ensures
    ∙ ap (λ (e : code_expr.TExpr). holds e || holds c.deref-else-expr_holds-2.result.now) c.deref-else-expr_holds.ensures
    ∙ ap (λ (e : code_expr.TExpr). holds at.from.value || holds e) c.deref-else-expr_holds-2.ensures
    ∙ sym (ap (λ (b : Bool). b || (holds at.from.value || holds at.value.value)) first)
    ∙ sym (ap (node_holds defs (view_ty c.args.ty.now)) (ap view_node at.is ∙ view_node-Copy at.array at.from at.value))

pub node_holds-returns-else-operation_holds : goal.node_holds-returns-else-operation_holds
node_holds-returns-else-operation_holds t c = grind (arith, view_node-Apply)

pub node_holds-returns-else-pattern_holds : goal.node_holds-returns-else-pattern_holds
node_holds-returns-else-pattern_holds t c = grind (arith, view_node-Assign)

pub node_holds-returns-else-place_holds : goal.node_holds-returns-else-place_holds
node_holds-returns-else-place_holds t c = grind (arith, view_node-Update)

pub node_holds-returns-else-refers : goal.node_holds-returns-else-refers
node_holds-returns-else-refers t c = grind (arith, view_node-Call)

pub node_holds-returns-in-Channel : goal.node_holds-returns-in-Channel
node_holds-returns-in-Channel t c = grind (arith, view_node-Channel)

pub node_holds-returns-in-Filled : goal.node_holds-returns-in-Filled
node_holds-returns-in-Filled t c = grind (arith, view_node-Filled)

pub node_holds-returns-in-Lazy : goal.node_holds-returns-in-Lazy
node_holds-returns-in-Lazy t c = grind (arith, view_node-Lazy)

pub node_holds-returns-in-Part : goal.node_holds-returns-in-Part
node_holds-returns-in-Part t c = grind (arith, view_node-Part)

pub node_holds-returns-in-Read : goal.node_holds-returns-in-Read
node_holds-returns-in-Read t c = grind (arith, view_node-Read)

pub node_holds-returns-in-Step : goal.node_holds-returns-in-Step
node_holds-returns-in-Step t c = grind (arith, view_node-Step)

pub node_holds-returns-then-expr_holds : goal.node_holds-returns-then-expr_holds
node_holds-returns-then-expr_holds t c = grind (arith, view_node-Copy)

pub node_holds-returns-then-operation_holds : goal.node_holds-returns-then-operation_holds
node_holds-returns-then-operation_holds t c = grind (arith, view_node-Apply)

pub node_holds-returns-then-pattern_holds : goal.node_holds-returns-then-pattern_holds
node_holds-returns-then-pattern_holds t c = grind (arith, view_node-Assign)

pub node_holds-returns-then-place_holds : goal.node_holds-returns-then-place_holds
node_holds-returns-then-place_holds t c = grind (arith, view_node-Update)

pub node_holds-returns-then-refers : goal.node_holds-returns-then-refers
node_holds-returns-then-refers t c = grind (arith, view_node-Call)

pub pattern_holds-returns-in-Nothing : goal.pattern_holds-returns-in-Nothing
pattern_holds-returns-in-Nothing t c = grind (arith, view_pattern-Nothing)

pub pattern_holds-returns-in-Place : goal.pattern_holds-returns-in-Place
pattern_holds-returns-in-Place t c = grind (arith, view_pattern-Place, view_place-out)

pub pattern_holds-returns-in-Tuple : goal.pattern_holds-returns-in-Tuple
pattern_holds-returns-in-Tuple t c = grind (arith, view_pattern-Tuple)

pub place_holds-returns-else-refers : goal.place_holds-returns-else-refers
place_holds-returns-else-refers t c = grind (arith, view_place-out)

pub place_holds-returns-then-refers : goal.place_holds-returns-then-refers
place_holds-returns-then-refers t c = grind (arith, view_place-out)

pub way_holds-returns-else-way_holds : goal.way_holds-returns-else-way_holds
way_holds-returns-else-way_holds t c = grind (arith, view_place_node-Character, view_place-out)

pub way_holds-returns-in-Element : goal.way_holds-returns-in-Element
way_holds-returns-in-Element t c = grind (arith, view_place_node-Element)

pub way_holds-returns-in-Field : goal.way_holds-returns-in-Field
way_holds-returns-in-Field t c = grind (arith, view_place_node-Field, view_place-out)

pub way_holds-returns-in-Global : goal.way_holds-returns-in-Global
way_holds-returns-in-Global t c = grind (arith, view_place_node-Global)

pub way_holds-returns-in-Local : goal.way_holds-returns-in-Local
way_holds-returns-in-Local t c = grind (arith, view_place_node-Local)

pub way_holds-returns-in-Target : goal.way_holds-returns-in-Target
way_holds-returns-in-Target t c = grind (arith, view_place_node-Target)

pub way_holds-returns-then-way_holds : goal.way_holds-returns-then-way_holds
way_holds-returns-then-way_holds t c = grind (arith, view_place_node-Character, view_place-out)

pub node_holds-returns-else-is_print : goal.node_holds-returns-else-is_print
node_holds-returns-else-is_print t c =
    let defs = view_defs c.args.extents.now in
    let at = c.in-Print in
    let printed : is_print at.printed (view_optional at.file) ≡ false = sym c.is_print.ensures ∙ c.if-is_print.false in
    c.if-is_print.false
    ∙ sym (ap (λ (b : Bool). b && exprs_hold defs (view_exprs at.args.items)) printed)
    ∙ sym (ap (node_holds defs (view_ty c.args.ty.now)) (ap view_node at.is
    ∙ view_node-Print at.printed at.module at.file at.format at.args))
