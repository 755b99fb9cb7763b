use Rattle.std.proofs.Common.{arith}
use Rattle.std.proofs.Common.{rules, ◌≡◌, ◌≢◌, ◌+◌, ◌+ℤ◌, to_z, of_z, w64, ◌++◌, ◌∷◌, [], pos, map, List, Some, refl}
use Rattle.std.proofs.Common.{sym, ap, subst, ◌∙◌}
use Rattle.std.specs.Prelude.{IfOk, IfErr}
use Rattle.std.proofs.lemmas.Bool.{false≢true}
use Rattle.limbo_types.specs.Types as types
use Rattle.limbo_types.specs.Types.{Int}
use Rattle.limbo_types.specs.View.{view_ty}
use Rattle.limbo_tree.specs.declared.expr.Expr as code_expr
use Rattle.limbo_tree.specs.declared.expr.Init as code_init
use Rattle.limbo_tree.specs.declared.operators.AssignOp.TheVariants as assign
use Rattle.limbo_tree.specs.Exprs as tree
use Rattle.limbo_tree.specs.View as source
use Rattle.limbo_tree.proofs.Exprs.{view_expr-Number, view_expr-Chars, view_expr-Nil, view_expr-Name, view_expr-Arrow, view_expr-Dot}
use Rattle.limbo_tree.proofs.Exprs.{view_expr-Assign, view_expr-Load, view_expr-Binary, view_expr-Unary, view_expr-Bytes, view_expr-Filled}
use Rattle.limbo_tree.proofs.Exprs.{view_expr-Sized, view_expr-Channel, view_expr-Listed, view_expr-Call, view_expr-Index, view_expr-Slice}
use Rattle.limbo_tree.proofs.Exprs.{view_expr-Postfix, view_expr-Group}
use Rattle.limbo_tree.proofs.Exprs.{view_init-Next, view_init-At, view_init-Rest}
use Rattle.limbo_typed.specs.declared.expr.TExpr as code_typed
use Rattle.limbo_typed.specs.declared.expr.Pattern as code_pattern
use Rattle.limbo_typed.specs.declared.print.Printed.TheVariants as printed
use Rattle.limbo_typed.specs.declared.stmt.Constant.TheVariants as constant
use Rattle.limbo_typed.specs.Typed as typed
use Rattle.limbo_typed.specs.Typed.{Of, MoreExprs, ToNothing}
use Rattle.limbo_typed.specs.Sound.{type_of, IsSettled}
use Rattle.limbo_typed.specs.View.{view_expr, view_exprs, view_optional, view_item, view_pattern, items_of, patterns_of}
use Rattle.limbo_typed.proofs.View.{view_optional-Some, view_pattern-Nothing, view_pattern-Tuple}
use Rattle.limbo_causes.specs.Causes.{FailsBy, Refused, Twice}
use Rattle.limbo_context.specs.View.{view_context, view_body}
use Rattle.limbo_folding.specs.Folding.{value_of}
use Rattle.limbo_operands.specs.Operands as operands
use Rattle.limbo_calls.specs.Prints as output
use Rattle.limbo_calls.specs.OutputView.{view_output}
use Rattle.limbo_things.specs.Things.{Thing}
use Rattle.limbo_things.specs.ThingView.{view_thing}
use Rattle.limbo_defining.specs.Defining.{Defines, FailsDefine}
use Rattle.limbo_typing.specs.limbo_value_forms.Forms.{one, two, three, itself}
use Rattle.limbo_typing.specs.Typing as typing
use Rattle.limbo_typing.specs.Typing.{literal_first, behind_file, Denotes, HasValue, IsPattern}
use Rattle.limbo_typing.specs.Failing as failing
use Rattle.limbo_typing.specs.Failing.{IsNoPrint, FailsThing, FailsValue, FailsForm, FailsFill, FailsPattern}
use Rattle.limbo_exprs.specs.Parts.{with_one, with_two, number_value, view_filling, IsIndex, FailsIndex, FailsAsIndex, FillsOne, FailsOne}
use Rattle.limbo_exprs.proofs.Loops.{Valued, Patterned, valued_more, valued_end, valued_fails}
use Rattle.limbo_exprs.proofs.Loops.{patterned_more, patterned_end, patterned_fails, filled_end, filled_fails}
use Rattle.limbo_exprs.proofs.Outcomes.{row, none_in_row, one_in_row, values_made, values_refused, slice_made, slice_refused, sized_made}
use Rattle.limbo_exprs.proofs.Outcomes.{sized_refused}
use Rattle.limbo_exprs.proofs.Outcomes.{filled_made, filled_refused, load_made, load_refused, load_told, applied_made, applied_refused}
use Rattle.limbo_exprs.proofs.Outcomes.{printed_made, printed_refused}
use Rattle.limbo_exprs.proofs.Outcomes.{assign_made, assign_refused, retyped, refailed, refailed_by, path_typed, named_thing, re_denoted}
use Rattle.limbo_exprs.proofs.Outcomes.{member_thing, part_thing, enclosed_target, enclosed_target_fails}
use Rattle.limbo_exprs.proofs.Outcomes.{leaf_typed, call_applied, call_printed, print_called, other_called, no_literal, no_literal_behind}
use Rattle.limbo_exprs.proofs.Outcomes.{no_format_fails}
use Rattle.limbo_exprs.proofs.Outcomes.{format_value_fails, first_of, empty_row, index_typed, index_fails_as, place_typed, one_pattern}
use Rattle.limbo_exprs.proofs.Outcomes.{nil_pattern, several_patterns}
use Rattle.limbo_exprs.proofs.Outcomes.{several_patterns_fail, tuple_typed, tuple_fails, one_typed, defined_typed, define_told}
use Rattle.limbo_exprs.proofs.Outcomes.{to_nil_fails, thing_typed}
use Rattle.limbo_exprs.proofs.Outcomes.{no_part_typed, part_typed, part_fails_of, argument_fails, operands_three, values_three}
use Rattle.limbo_exprs.proofs.Outcomes.{fails_from_none, fills_from_none}
use Rattle.limbo_exprs.proofs.Rules.{one_in, values_one, values_two, name_fails, base_of_member_fails, member_fails, base_of_part_fails}
use Rattle.limbo_exprs.proofs.Rules.{part_fails, thing_fails}
use Rattle.limbo_exprs.proofs.Rules.{value_fails, answer_fails, form_fails, permit_fails, values_fail, first_fails, later_fails}
use Rattle.limbo_exprs.proofs.Rules.{first_part_fails, later_part_fails, unnamed_place_fails, named_place_fails, no_named_place}
use Rattle.limbo_exprs.proofs.Rules.{named_value_fails, path_value}
use Rattle.limbo_exprs.proofs.Rules.{inside_fails, path_fails}
use Rattle.limbo_exprs.proofs.Rules.{path_value_fails, slice_base_fails, slice_from_fails, slice_to_fails, length_fails, item_type_fails}
use Rattle.limbo_exprs.proofs.Rules.{array_length_fails}
use Rattle.limbo_exprs.proofs.Rules.{an_item_fails, module_fails, load_path_fails, function_fails, apply_fails, print_fails, left_fails}
use Rattle.limbo_exprs.proofs.Rules.{right_fails}
use Rattle.limbo_exprs.proofs.Rules.{value_defined_fails, unsettled_fails, in_one_fails, no_left_fails, no_place_fails}
use Rattle.limbo_exprs.proofs.Steps.{by_rule, on_all, answered_typed, permitted_typed, next_fills, at_fills, rest_fills, next_one_fails}
use Rattle.limbo_exprs.proofs.Steps.{index_fails}
use Rattle.limbo_exprs.proofs.Steps.{indexed_fails, rest_fails, second_rest, no_rest, put_at}
use Rattle.limbo_exprs.proofs.Tested.{nothing_fails, no_path, no_pattern_form, stores}
use Rattle.limbo_exprs.proofs.+exprs.Goals as goal
use Rattle.limbo_exprs.proofs.+exprs.Goals.{assigning::stored-in-Nothing, assigning::stored-in_default}

pub valuing::value-returns-in-Ok-clause-typed : goal.valuing::value-returns-in-Ok-clause-typed
valuing::value-returns-in-Ok-clause-typed t c =
    answered_typed (view_context c.args.context.now) (view_body c.args.body.now) (view_body c.check.new.body) (source.view_expr
    c.args.e.now) c.in-Ok.x c.answered.result c.in-Ok.ensures.typed c.answered.ensures.same c.answered.ensures.answers

pub valuing::value-returns-in-Ok-clause-refused : goal.valuing::value-returns-in-Ok-clause-refused
valuing::value-returns-in-Ok-clause-refused t c =
    by_rule c.answered.result c.answered.ensures.refused (λ f h. answer_fails (view_context c.args.context.now) (view_body
    c.args.body.now) f (source.view_expr c.args.e.now) (view_expr c.in-Ok.x.value) (view_body c.check.new.body) c.in-Ok.ensures.typed h)

pub valuing::value-returns-in-Err-clause-refused : goal.valuing::value-returns-in-Err-clause-refused
valuing::value-returns-in-Err-clause-refused t c =
    value_fails (view_context c.args.context.now) (view_body c.args.body.now) c.in-Err.fault.cause (source.view_expr c.args.e.now)
    c.in-Err.ensures.refused

pub valuing::check-returns-in-Ok-clause-typed : goal.valuing::check-returns-in-Ok-clause-typed
valuing::check-returns-in-Ok-clause-typed t c =
    permitted_typed (view_context c.args.context.now) (view_body c.args.body.now) (view_body c.form.new.body) (source.view_expr
    c.args.e.now) c.in-Ok.x c.permitted.result c.in-Ok.ensures.typed c.permitted.ensures.same c.permitted.ensures.permitted

pub valuing::check-returns-in-Ok-clause-refused : goal.valuing::check-returns-in-Ok-clause-refused
valuing::check-returns-in-Ok-clause-refused t c =
    by_rule c.permitted.result c.permitted.ensures.refused (λ f h. permit_fails (view_context c.args.context.now) (view_body
    c.args.body.now) f (source.view_expr c.args.e.now) (view_expr c.in-Ok.x.value) (view_body c.form.new.body) c.in-Ok.ensures.typed h)

pub valuing::check-returns-in-Err-clause-refused : goal.valuing::check-returns-in-Err-clause-refused
valuing::check-returns-in-Err-clause-refused t c =
    form_fails (view_context c.args.context.now) (view_body c.args.body.now) c.in-Err.fault.cause (source.view_expr c.args.e.now)
    c.in-Err.ensures.refused

pub valuing::maybe-returns-in-None-clause-typed : goal.valuing::maybe-returns-in-None-clause-typed
valuing::maybe-returns-in-None-clause-typed t c =
    no_part_typed (view_context c.args.context.now) (view_body c.args.body.now) c.args.part.now c.in-None.is

pub valuing::maybe-returns-in-Ok-clause-typed : goal.valuing::maybe-returns-in-Ok-clause-typed
valuing::maybe-returns-in-Ok-clause-typed t c =
    part_typed (view_context c.args.context.now) (view_body c.args.body.now) (view_body c.value.new.body) c.args.part.now c.in-Some.e
    c.in-Ok.x c.in-Some.is (subst (λ (e : code_expr.Expr). HasValue (view_context c.args.context.now) (view_body c.args.body.now)
    (source.view_expr e) (view_expr c.in-Ok.x.value) (view_body c.value.new.body)) c.deref.ensures c.in-Ok.ensures.typed)

pub valuing::maybe-returns-in-Err-clause-refused : goal.valuing::maybe-returns-in-Err-clause-refused
valuing::maybe-returns-in-Err-clause-refused t c =
    part_fails_of (view_context c.args.context.now) (view_body c.args.body.now) c.in-Err.fault.cause c.args.part.now c.in-Some.e
    c.in-Some.is (subst (λ (e : code_expr.Expr). FailsBy c.in-Err.fault.cause (FailsValue (view_context c.args.context.now) (view_body
    c.args.body.now) (source.view_expr e))) c.deref.ensures c.in-Err.ensures.refused)

pub valuing::values-returns-in-Err-clause-refused : goal.valuing::values-returns-in-Err-clause-refused
valuing::values-returns-in-Err-clause-refused t c =
    valued_fails (view_context c.args.context.now) (view_body c.args.body.now) (view_body c.loop-e.body) c.args.es.now c.loop-e.e-index
    c.loop-e.xs.items c.e-item.result c.in-Err.fault.cause c.loop-e-test.true (subst (λ (e : code_expr.Expr). FailsBy c.in-Err.fault.cause
    (FailsValue (view_context c.args.context.now) (view_body c.loop-e.body) (source.view_expr e))) c.e-item.is c.in-Err.ensures.refused)
    c.loop-e.invariant

pub valuing::values-loop-e-preserved : goal.valuing::values-loop-e-preserved
valuing::values-loop-e-preserved t c =
    subst (λ (zs : List code_typed.TExpr). Valued (view_context c.args.context.now) (view_body c.args.body.now) (view_body
    c.value.new.body) c.args.es.now (c.loop-e.e-index + 1) zs) (sym (c.in_ok-push-in-Ok.ensures.items ∙ ap (λ (x : code_typed.TExpr).
    c.loop-e.xs.items ++ x ∷ []) c.into_inner.ensures)) (valued_more (view_context c.args.context.now) (view_body c.args.body.now)
    (view_body c.loop-e.body) (view_body c.value.new.body) c.args.es.now c.loop-e.e-index c.loop-e.xs.items c.e-item.result
    c.in-Ok.x.value c.loop-e-test.true (subst (λ (e : code_expr.Expr). HasValue (view_context c.args.context.now) (view_body
    c.loop-e.body) (source.view_expr e) (view_expr c.in-Ok.x.value) (view_body c.value.new.body)) c.e-item.is c.in-Ok.ensures.typed)
    c.loop-e.invariant)

pub valuing::values-returns-clause-typed : goal.valuing::values-returns-clause-typed
valuing::values-returns-clause-typed t c =
    valued_end (view_context c.args.context.now) (view_body c.args.body.now) (view_body c.loop-e.body) c.args.es.now c.loop-e.e-index
    c.loop-e.xs.items c.loop-e-test.false c.loop-e.invariant

pub naming::denote-returns-in-Name-clause-typed : goal.naming::denote-returns-in-Name-clause-typed
naming::denote-returns-in-Name-clause-typed t c =
    re_denoted c.named.result (view_context c.args.context.now) (view_body c.args.body.now) (view_body c.args.body.now) (source.view_expr
    c.args.e.now) (tree.Name c.in-Name.name) (ap source.view_expr c.in-Name.is ∙ view_expr-Name c.in-Name.name c.in-Name.span)
    (named_thing c.named.result (view_context c.args.context.now) (view_body c.args.body.now) c.in-Name.name c.named.ensures.found)

pub naming::denote-returns-in-Name-clause-refused : goal.naming::denote-returns-in-Name-clause-refused
naming::denote-returns-in-Name-clause-refused t c =
    refailed c.named.result (FailsThing (view_context c.args.context.now) (view_body c.args.body.now)) (source.view_expr c.args.e.now)
    (tree.Name c.in-Name.name) (ap source.view_expr c.in-Name.is ∙ view_expr-Name c.in-Name.name c.in-Name.span) (by_rule c.named.result
    c.named.ensures.refused (λ f h. name_fails (view_context c.args.context.now) (view_body c.args.body.now) f c.in-Name.name h))

pub naming::denote-returns-in_ok-new-in-Ok : goal.naming::denote-returns-in_ok-new-in-Ok
naming::denote-returns-in_ok-new-in-Ok t c =
    record {
      typed = thing_typed (view_context c.args.context.now) (view_body c.args.body.now) (view_body c.value.new.body)
          (source.view_expr c.args.e.now) c.in-Ok.x c.in_ok-new-in-Ok.field-0.value (no_path c.args.e.now c.in_default.not-Dot
          c.in_default.not-Arrow c.in_default.not-Name) c.in-Ok.ensures.typed c.in_ok-new-in-Ok.ensures.ok;
      refused = tt;
    }

pub naming::denote-returns-in-Err : goal.naming::denote-returns-in-Err
naming::denote-returns-in-Err t c =
    record {
      typed = tt;
      refused = thing_fails (view_context c.args.context.now) (view_body c.args.body.now) c.in-Err.fault.cause
          (source.view_expr c.args.e.now) (no_path c.args.e.now c.in_default.not-Dot c.in_default.not-Arrow c.in_default.not-Name)
          c.in-Err.ensures.refused;
    }

pub naming::member_of-returns-in-Ok-clause-typed : goal.naming::member_of-returns-in-Ok-clause-typed
naming::member_of-returns-in-Ok-clause-typed t c =
    member_thing c.member_in.result (view_context c.args.context.now) (view_body c.args.body.now) (view_body c.denote.new.body)
    (source.view_expr c.args.base.now) c.args.name.now (view_thing c.in-Ok.thing.value) c.in-Ok.ensures.typed c.member_in.ensures.found

pub naming::member_of-returns-in-Ok-clause-refused : goal.naming::member_of-returns-in-Ok-clause-refused
naming::member_of-returns-in-Ok-clause-refused t c =
    by_rule c.member_in.result c.member_in.ensures.refused (λ f h. member_fails (view_context c.args.context.now) (view_body
    c.args.body.now) f (source.view_expr c.args.base.now) c.args.name.now (view_thing c.in-Ok.thing.value) (view_body c.denote.new.body)
    c.in-Ok.ensures.typed h)

pub naming::member_of-returns-in-Err-clause-refused : goal.naming::member_of-returns-in-Err-clause-refused
naming::member_of-returns-in-Err-clause-refused t c =
    base_of_member_fails (view_context c.args.context.now) (view_body c.args.body.now) c.in-Err.fault.cause (source.view_expr
    c.args.base.now) c.args.name.now c.in-Err.ensures.refused

pub naming::part_of-returns-in-Ok-clause-typed : goal.naming::part_of-returns-in-Ok-clause-typed
naming::part_of-returns-in-Ok-clause-typed t c =
    part_thing c.part_in.result (view_context c.args.context.now) (view_body c.args.body.now) (view_body c.denote.new.body)
    (source.view_expr c.args.base.now) c.args.name.now (view_thing c.in-Ok.thing.value) c.in-Ok.ensures.typed c.part_in.ensures.found

pub naming::part_of-returns-in-Ok-clause-refused : goal.naming::part_of-returns-in-Ok-clause-refused
naming::part_of-returns-in-Ok-clause-refused t c =
    by_rule c.part_in.result c.part_in.ensures.refused (λ f h. part_fails (view_context c.args.context.now) (view_body c.args.body.now) f
    (source.view_expr c.args.base.now) c.args.name.now (view_thing c.in-Ok.thing.value) (view_body c.denote.new.body)
    c.in-Ok.ensures.typed h)

pub naming::part_of-returns-in-Err-clause-refused : goal.naming::part_of-returns-in-Err-clause-refused
naming::part_of-returns-in-Err-clause-refused t c =
    base_of_part_fails (view_context c.args.context.now) (view_body c.args.body.now) c.in-Err.fault.cause (source.view_expr
    c.args.base.now) c.args.name.now c.in-Err.ensures.refused

pub forms::made_of_one-returns-in-Ok-clause-typed : goal.forms::made_of_one-returns-in-Ok-clause-typed
forms::made_of_one-returns-in-Ok-clause-typed t c =
    values_made (view_context c.args.context.now) (view_body c.args.body.now) c.of_one.result c.placed.result c.placed.ensures.typed
    (view_body c.part.new.body) (with_one c.args.form (source.view_expr c.args.e.now)) (one (source.view_expr c.args.e.now))
    (operands.one (view_expr c.in-Ok.x.value)) (one_in c.args.form (source.view_expr c.args.e.now)) (values_one (view_context
    c.args.context.now) (view_body c.args.body.now) (view_body c.part.new.body) (source.view_expr c.args.e.now) (view_expr
    c.in-Ok.x.value) c.in-Ok.ensures.typed) (c.of_one.ensures.typed (source.view_expr c.args.e.now))

pub forms::made_of_one-returns-in-Ok-clause-refused : goal.forms::made_of_one-returns-in-Ok-clause-refused
forms::made_of_one-returns-in-Ok-clause-refused t c =
    values_refused (view_context c.args.context.now) (view_body c.args.body.now) c.of_one.result c.placed.result c.placed.ensures.refused
    (view_body c.part.new.body) (with_one c.args.form (source.view_expr c.args.e.now)) (one (source.view_expr c.args.e.now))
    (operands.one (view_expr c.in-Ok.x.value)) (one_in c.args.form (source.view_expr c.args.e.now)) (values_one (view_context
    c.args.context.now) (view_body c.args.body.now) (view_body c.part.new.body) (source.view_expr c.args.e.now) (view_expr
    c.in-Ok.x.value) c.in-Ok.ensures.typed) (c.of_one.ensures.refused (source.view_expr c.args.e.now))

pub forms::made_of_one-returns-in-Err-clause-refused : goal.forms::made_of_one-returns-in-Err-clause-refused
forms::made_of_one-returns-in-Err-clause-refused t c =
    first_part_fails (view_context c.args.context.now) (view_body c.args.body.now) c.in-Err.fault.cause (with_one c.args.form
    (source.view_expr c.args.e.now)) (source.view_expr c.args.e.now) tree.NoExprs c.changes_one.result (one_in c.args.form
    (source.view_expr c.args.e.now)) (c.changes_one.ensures (source.view_expr c.args.e.now)) c.in-Err.ensures.refused

pub forms::made_of_two-returns-in-Err-clause-refused : goal.forms::made_of_two-returns-in-Err-clause-refused
forms::made_of_two-returns-in-Err-clause-refused t c =
    first_part_fails (view_context c.args.context.now) (view_body c.args.body.now) c.in-Err.fault.cause (with_two c.args.form
    (source.view_expr c.args.left.now) (source.view_expr c.args.right.now)) (source.view_expr c.args.left.now) (one (source.view_expr
    c.args.right.now)) c.changes_first.result (c.requires.values (source.view_expr c.args.left.now) (source.view_expr c.args.right.now))
    (c.changes_first.ensures (source.view_expr c.args.left.now) (source.view_expr c.args.right.now)) c.in-Err.ensures.refused

pub forms::made_of_two-returns-in-Ok-value-clause-typed : goal.forms::made_of_two-returns-in-Ok-value-clause-typed
forms::made_of_two-returns-in-Ok-value-clause-typed t c =
    values_made (view_context c.args.context.now) (view_body c.args.body.now) c.of_two.result c.placed.result c.placed.ensures.typed
    (view_body c.value.new.body) (with_two c.args.form (source.view_expr c.args.left.now) (source.view_expr c.args.right.now)) (two
    (source.view_expr c.args.left.now) (source.view_expr c.args.right.now)) (operands.two (view_expr c.in-Ok.x.value) (view_expr
    c.in-Ok-value.y.value)) (c.requires.values (source.view_expr c.args.left.now) (source.view_expr c.args.right.now)) (values_two
    (view_context c.args.context.now) (view_body c.args.body.now) (view_body c.part.new.body) (view_body c.value.new.body)
    (source.view_expr c.args.left.now) (source.view_expr c.args.right.now) (view_expr c.in-Ok.x.value) (view_expr c.in-Ok-value.y.value)
    c.in-Ok.ensures.typed c.in-Ok-value.ensures.typed) (c.of_two.ensures.typed (source.view_expr c.args.left.now) (source.view_expr
    c.args.right.now))

pub forms::made_of_two-returns-in-Ok-value-clause-refused : goal.forms::made_of_two-returns-in-Ok-value-clause-refused
forms::made_of_two-returns-in-Ok-value-clause-refused t c =
    values_refused (view_context c.args.context.now) (view_body c.args.body.now) c.of_two.result c.placed.result c.placed.ensures.refused
    (view_body c.value.new.body) (with_two c.args.form (source.view_expr c.args.left.now) (source.view_expr c.args.right.now)) (two
    (source.view_expr c.args.left.now) (source.view_expr c.args.right.now)) (operands.two (view_expr c.in-Ok.x.value) (view_expr
    c.in-Ok-value.y.value)) (c.requires.values (source.view_expr c.args.left.now) (source.view_expr c.args.right.now)) (values_two
    (view_context c.args.context.now) (view_body c.args.body.now) (view_body c.part.new.body) (view_body c.value.new.body)
    (source.view_expr c.args.left.now) (source.view_expr c.args.right.now) (view_expr c.in-Ok.x.value) (view_expr c.in-Ok-value.y.value)
    c.in-Ok.ensures.typed c.in-Ok-value.ensures.typed) (c.of_two.ensures.refused (source.view_expr c.args.left.now) (source.view_expr
    c.args.right.now))

pub forms::made_of_two-returns-in-Err-value-clause-refused : goal.forms::made_of_two-returns-in-Err-value-clause-refused
forms::made_of_two-returns-in-Err-value-clause-refused t c =
    later_part_fails (view_context c.args.context.now) (view_body c.args.body.now) c.in-Err-value.fault.cause (with_two c.args.form
    (source.view_expr c.args.left.now) (source.view_expr c.args.right.now)) (source.view_expr c.args.left.now) (one (source.view_expr
    c.args.right.now)) c.changes_first.result (view_expr c.in-Ok.x.value) (view_body c.part.new.body) (c.requires.values (source.view_expr
    c.args.left.now) (source.view_expr c.args.right.now)) (c.changes_first.ensures (source.view_expr c.args.left.now) (source.view_expr
    c.args.right.now)) c.in-Ok.ensures.typed (first_fails (view_context c.args.context.now) (view_body c.part.new.body)
    c.in-Err-value.fault.cause (source.view_expr c.args.right.now) tree.NoExprs c.in-Err-value.ensures.refused)

pub forms::listed-returns-in-Ok-clause-typed : goal.forms::listed-returns-in-Ok-clause-typed
forms::listed-returns-in-Ok-clause-typed t c =
    values_made (view_context c.args.context.now) (view_body c.args.body.now) c.list.result c.placed.result c.placed.ensures.typed
    (view_body c.values.new.body) (tree.Listed (source.exprs_of (map source.view_expr c.args.items.now))) (source.exprs_of (map
    source.view_expr c.args.items.now)) (view_exprs c.in-Ok.xs.items) refl c.in-Ok.ensures.typed c.list.ensures.typed

pub forms::listed-returns-in-Ok-clause-refused : goal.forms::listed-returns-in-Ok-clause-refused
forms::listed-returns-in-Ok-clause-refused t c =
    values_refused (view_context c.args.context.now) (view_body c.args.body.now) c.list.result c.placed.result c.placed.ensures.refused
    (view_body c.values.new.body) (tree.Listed (source.exprs_of (map source.view_expr c.args.items.now))) (source.exprs_of (map
    source.view_expr c.args.items.now)) (view_exprs c.in-Ok.xs.items) refl c.in-Ok.ensures.typed c.list.ensures.refused

pub forms::listed-returns-in-Err-clause-refused : goal.forms::listed-returns-in-Err-clause-refused
forms::listed-returns-in-Err-clause-refused t c =
    values_fail (view_context c.args.context.now) (view_body c.args.body.now) c.in-Err.fault.cause (tree.Listed (source.exprs_of (map
    source.view_expr c.args.items.now))) (source.exprs_of (map source.view_expr c.args.items.now)) refl refl c.in-Err.ensures.refused

pub forms::grouped-returns-in-empty-clause-refused : goal.forms::grouped-returns-in-empty-clause-refused
forms::grouped-returns-in-empty-clause-refused t c =
    subst (λ (es : tree.Exprs). FailsBy c.refused.result.cause (FailsForm (view_context c.args.context.now) (view_body c.args.body.now)
    (tree.Group es))) (sym (none_in_row c.args.items.now c.in-empty.len_below)) (nothing_fails c.clash_of.result c.refused.result.cause
    (FailsForm (view_context c.args.context.now) (view_body c.args.body.now) (tree.Group tree.NoExprs)) c.refused.ensures
    c.clash_of.ensures (failing.empty (view_body c.args.body.now)))

pub forms::grouped-returns-in-len1-clause-typed : goal.forms::grouped-returns-in-len1-clause-typed
forms::grouped-returns-in-len1-clause-typed t c =
    one_typed c.check.result (view_context c.args.context.now) (view_body c.args.body.now) (view_body c.check.new.body) (source.exprs_of
    (map source.view_expr c.args.items.now)) (source.view_expr c.item-item.result) (one_in_row c.args.items.now c.item-item.result
    c.in-len1.len_at_least c.in-len1.len_below c.item-item.is) c.check.ensures.typed

pub forms::grouped-returns-in-len1-clause-refused : goal.forms::grouped-returns-in-len1-clause-refused
forms::grouped-returns-in-len1-clause-refused t c =
    by_rule c.check.result c.check.ensures.refused (λ f h. subst (λ (es : tree.Exprs). FailsBy f (FailsForm (view_context
    c.args.context.now) (view_body c.args.body.now) (tree.Group es))) (sym (one_in_row c.args.items.now c.item-item.result
    c.in-len1.len_at_least c.in-len1.len_below c.item-item.is)) (inside_fails (view_context c.args.context.now) (view_body
    c.args.body.now) f (source.view_expr c.item-item.result) h))

pub forms::grouped-returns-in_ok-tuple-in-Ok-clause-typed : goal.forms::grouped-returns-in_ok-tuple-in-Ok-clause-typed
forms::grouped-returns-in_ok-tuple-in-Ok-clause-typed t c =
    tuple_typed (view_context c.args.context.now) (view_body c.args.body.now) (view_body c.values.new.body) c.args.items.now (view_exprs
    c.in-Ok.xs.items) (view_expr c.in_ok-tuple-in-Ok.field-0.value) c.in_default.len_at_least c.in-Ok.ensures.typed
    c.in_ok-tuple-in-Ok.ensures.typed

pub forms::grouped-returns-in-Err-clause-refused : goal.forms::grouped-returns-in-Err-clause-refused
forms::grouped-returns-in-Err-clause-refused t c =
    tuple_fails (view_context c.args.context.now) (view_body c.args.body.now) c.args.items.now c.in-Err.fault.cause
    c.in_default.len_at_least c.in-Err.ensures.refused

pub forms::sliced-returns-in-Err-clause-refused : goal.forms::sliced-returns-in-Err-clause-refused
forms::sliced-returns-in-Err-clause-refused t c =
    slice_base_fails (view_context c.args.context.now) (view_body c.args.body.now) c.in-Err.fault.cause (source.view_expr c.args.base.now)
    (source.view_part c.args.from.now) (source.view_part c.args.to.now) c.in-Err.ensures.refused

pub forms::sliced-returns-in-Err-maybe-clause-refused : goal.forms::sliced-returns-in-Err-maybe-clause-refused
forms::sliced-returns-in-Err-maybe-clause-refused t c =
    slice_from_fails (view_context c.args.context.now) (view_body c.args.body.now) c.in-Err-maybe.fault.cause (source.view_expr
    c.args.base.now) (source.view_part c.args.from.now) (source.view_part c.args.to.now) (view_expr c.in-Ok.x.value) (view_body
    c.value.new.body) c.in-Ok.ensures.typed c.in-Err-maybe.ensures.refused

pub forms::sliced-returns-in-Err-maybe-2-clause-refused : goal.forms::sliced-returns-in-Err-maybe-2-clause-refused
forms::sliced-returns-in-Err-maybe-2-clause-refused t c =
    slice_to_fails (view_context c.args.context.now) (view_body c.args.body.now) c.in-Err-maybe-2.fault.cause (source.view_expr
    c.args.base.now) (source.view_part c.args.from.now) (source.view_part c.args.to.now) (view_expr c.in-Ok.x.value) (view_optional
    c.in-Ok-maybe.from) (view_body c.value.new.body) (view_body c.maybe.new.body) c.in-Ok.ensures.typed c.in-Ok-maybe.ensures.typed
    c.in-Err-maybe-2.ensures.refused

pub forms::sliced-returns-in-Ok-maybe-2-clause-typed : goal.forms::sliced-returns-in-Ok-maybe-2-clause-typed
forms::sliced-returns-in-Ok-maybe-2-clause-typed t c =
    slice_made (view_context c.args.context.now) (view_body c.args.body.now) c.slice.result c.placed.result c.placed.ensures.typed
    (view_body c.value.new.body) (view_body c.maybe.new.body) (view_body c.maybe-in-Ok-maybe.new.body) (source.view_expr c.args.base.now)
    (source.view_part c.args.from.now) (source.view_part c.args.to.now) (view_expr c.in-Ok.x.value) (view_optional c.in-Ok-maybe.from)
    (view_optional c.in-Ok-maybe-2.to) c.in-Ok.ensures.typed c.in-Ok-maybe.ensures.typed c.in-Ok-maybe-2.ensures.typed
    c.slice.ensures.typed

pub forms::sliced-returns-in-Ok-maybe-2-clause-refused : goal.forms::sliced-returns-in-Ok-maybe-2-clause-refused
forms::sliced-returns-in-Ok-maybe-2-clause-refused t c =
    slice_refused (view_context c.args.context.now) (view_body c.args.body.now) c.slice.result c.placed.result c.placed.ensures.refused
    (view_body c.value.new.body) (view_body c.maybe.new.body) (view_body c.maybe-in-Ok-maybe.new.body) (source.view_expr c.args.base.now)
    (source.view_part c.args.from.now) (source.view_part c.args.to.now) (view_expr c.in-Ok.x.value) (view_optional c.in-Ok-maybe.from)
    (view_optional c.in-Ok-maybe-2.to) c.in-Ok.ensures.typed c.in-Ok-maybe.ensures.typed c.in-Ok-maybe-2.ensures.typed
    c.slice.ensures.refused

pub forms::form-returns-in-Number-clause-typed : goal.forms::form-returns-in-Number-clause-typed
forms::form-returns-in-Number-clause-typed t c =
    let same : to_z w64 (of_z w64 c.in-Number.value) ≡ c.in-Number.value = search rules in retyped c.number.result (view_context
    c.args.context.now) (view_body c.args.body.now) (view_body c.args.body.now) (source.view_expr c.args.e.now) (tree.Number
    c.in-Number.value c.in-Number.wide) (ap source.view_expr c.in-Number.is ∙ view_expr-Number c.in-Number.value c.in-Number.wide
    c.in-Number.span) (leaf_typed c.number.result (view_context c.args.context.now) (view_body c.args.body.now) (tree.Number
    c.in-Number.value c.in-Number.wide) (number_value c.in-Number.value c.in-Number.wide) refl refl (subst (λ n. IfOk c.number.result (λ
    x. view_expr x.value ≡ number_value n c.in-Number.wide)) same c.number.ensures.typed))

pub forms::form-returns-in-Chars-clause-typed : goal.forms::form-returns-in-Chars-clause-typed
forms::form-returns-in-Chars-clause-typed t c =
    retyped c.chars.result (view_context c.args.context.now) (view_body c.args.body.now) (view_body c.args.body.now) (source.view_expr
    c.args.e.now) (tree.Chars c.in-Chars.text) (ap source.view_expr c.in-Chars.is ∙ view_expr-Chars c.in-Chars.text c.in-Chars.span)
    (leaf_typed c.chars.result (view_context c.args.context.now) (view_body c.args.body.now) (tree.Chars c.in-Chars.text) (Of types.Chars
    (typed.Chars c.in-Chars.text)) refl refl c.chars.ensures.typed)

pub forms::form-returns-in-Nil-clause-typed : goal.forms::form-returns-in-Nil-clause-typed
forms::form-returns-in-Nil-clause-typed t c =
    retyped c.nil.result (view_context c.args.context.now) (view_body c.args.body.now) (view_body c.args.body.now) (source.view_expr
    c.args.e.now) tree.Nil (ap source.view_expr c.in-Nil.is ∙ view_expr-Nil c.in-Nil.span) (leaf_typed c.nil.result (view_context
    c.args.context.now) (view_body c.args.body.now) tree.Nil (Of types.Nil typed.OpenNil) refl refl c.nil.ensures.typed)

pub forms::form-returns-in-Ok-clause-typed : goal.forms::form-returns-in-Ok-clause-typed
forms::form-returns-in-Ok-clause-typed t c =
    retyped c.value_of.result (view_context c.args.context.now) (view_body c.args.body.now) (view_body c.args.body.now) (source.view_expr
    c.args.e.now) (tree.Name c.in-Name.name) (ap source.view_expr c.in-Name.is ∙ view_expr-Name c.in-Name.name c.in-Name.span) (path_typed
    c.value_of.result (view_context c.args.context.now) (view_body c.args.body.now) (view_body c.args.body.now) (tree.Name c.in-Name.name)
    (view_thing c.in-Ok.thing.value) refl (typing.by_name (view_body c.args.body.now) c.in-Name.name (view_thing c.in-Ok.thing.value)
    c.in-Ok.ensures.found) c.value_of.ensures.typed)

pub forms::form-returns-in-Ok-clause-refused : goal.forms::form-returns-in-Ok-clause-refused
forms::form-returns-in-Ok-clause-refused t c =
    refailed c.value_of.result (FailsForm (view_context c.args.context.now) (view_body c.args.body.now)) (source.view_expr c.args.e.now)
    (tree.Name c.in-Name.name) (ap source.view_expr c.in-Name.is ∙ view_expr-Name c.in-Name.name c.in-Name.span) (by_rule
    c.value_of.result c.value_of.ensures.refused (λ f h. path_value_fails (view_context c.args.context.now) (view_body c.args.body.now) f
    (tree.Name c.in-Name.name) (view_thing c.in-Ok.thing.value) (view_body c.args.body.now) refl (typing.by_name (view_body
    c.args.body.now) c.in-Name.name (view_thing c.in-Ok.thing.value) c.in-Ok.ensures.found) h))

pub forms::form-returns-in-Err-clause-refused : goal.forms::form-returns-in-Err-clause-refused
forms::form-returns-in-Err-clause-refused t c =
    refailed_by c.in-Err.fault.cause (FailsForm (view_context c.args.context.now) (view_body c.args.body.now)) (source.view_expr
    c.args.e.now) (tree.Name c.in-Name.name) (ap source.view_expr c.in-Name.is ∙ view_expr-Name c.in-Name.name c.in-Name.span) (path_fails
    (view_context c.args.context.now) (view_body c.args.body.now) c.in-Err.fault.cause (tree.Name c.in-Name.name) refl (name_fails
    (view_context c.args.context.now) (view_body c.args.body.now) c.in-Err.fault.cause c.in-Name.name c.in-Err.ensures.refused))

pub forms::form-returns-in-Ok-member_of-clause-typed : goal.forms::form-returns-in-Ok-member_of-clause-typed
forms::form-returns-in-Ok-member_of-clause-typed t c =
    retyped c.value_of-in-Ok-member_of.result (view_context c.args.context.now) (view_body c.args.body.now) (view_body
    c.member_of.new.body) (source.view_expr c.args.e.now) (tree.Arrow (source.view_expr c.deref.result.now) c.in-Arrow.name.text) (ap
    source.view_expr c.in-Arrow.is ∙ view_expr-Arrow c.in-Arrow.base c.in-Arrow.name c.in-Arrow.span ∙ ap (λ (e : code_expr.Expr).
    tree.Arrow (source.view_expr e) c.in-Arrow.name.text) (sym c.deref.ensures)) (path_typed c.value_of-in-Ok-member_of.result
    (view_context c.args.context.now) (view_body c.args.body.now) (view_body c.member_of.new.body) (tree.Arrow (source.view_expr
    c.deref.result.now) c.in-Arrow.name.text) (view_thing c.in-Ok-member_of.thing.value) refl c.in-Ok-member_of.ensures.typed
    c.value_of-in-Ok-member_of.ensures.typed)

pub forms::form-returns-in-Ok-member_of-clause-refused : goal.forms::form-returns-in-Ok-member_of-clause-refused
forms::form-returns-in-Ok-member_of-clause-refused t c =
    refailed c.value_of-in-Ok-member_of.result (FailsForm (view_context c.args.context.now) (view_body c.args.body.now)) (source.view_expr
    c.args.e.now) (tree.Arrow (source.view_expr c.deref.result.now) c.in-Arrow.name.text) (ap source.view_expr c.in-Arrow.is ∙
    view_expr-Arrow c.in-Arrow.base c.in-Arrow.name c.in-Arrow.span ∙ ap (λ (e : code_expr.Expr). tree.Arrow (source.view_expr e)
    c.in-Arrow.name.text) (sym c.deref.ensures)) (by_rule c.value_of-in-Ok-member_of.result c.value_of-in-Ok-member_of.ensures.refused (λ
    f h. path_value_fails (view_context c.args.context.now) (view_body c.args.body.now) f (tree.Arrow (source.view_expr
    c.deref.result.now) c.in-Arrow.name.text) (view_thing c.in-Ok-member_of.thing.value) (view_body c.member_of.new.body) refl
    c.in-Ok-member_of.ensures.typed h))

pub forms::form-returns-in-Err-member_of-clause-refused : goal.forms::form-returns-in-Err-member_of-clause-refused
forms::form-returns-in-Err-member_of-clause-refused t c =
    refailed_by c.in-Err-member_of.fault.cause (FailsForm (view_context c.args.context.now) (view_body c.args.body.now)) (source.view_expr
    c.args.e.now) (tree.Arrow (source.view_expr c.deref.result.now) c.in-Arrow.name.text) (ap source.view_expr c.in-Arrow.is ∙
    view_expr-Arrow c.in-Arrow.base c.in-Arrow.name c.in-Arrow.span ∙ ap (λ (e : code_expr.Expr). tree.Arrow (source.view_expr e)
    c.in-Arrow.name.text) (sym c.deref.ensures)) (path_fails (view_context c.args.context.now) (view_body c.args.body.now)
    c.in-Err-member_of.fault.cause (tree.Arrow (source.view_expr c.deref.result.now) c.in-Arrow.name.text) refl
    c.in-Err-member_of.ensures.refused)

pub forms::form-returns-in-Ok-part_of-clause-typed : goal.forms::form-returns-in-Ok-part_of-clause-typed
forms::form-returns-in-Ok-part_of-clause-typed t c =
    retyped c.value_of-in-Ok-part_of.result (view_context c.args.context.now) (view_body c.args.body.now) (view_body c.part_of.new.body)
    (source.view_expr c.args.e.now) (tree.Dot (source.view_expr c.deref-in-Dot.result.now) c.in-Dot.name.text) (ap source.view_expr
    c.in-Dot.is ∙ view_expr-Dot c.in-Dot.base c.in-Dot.name c.in-Dot.span ∙ ap (λ (e : code_expr.Expr). tree.Dot (source.view_expr e)
    c.in-Dot.name.text) (sym c.deref-in-Dot.ensures)) (path_typed c.value_of-in-Ok-part_of.result (view_context c.args.context.now)
    (view_body c.args.body.now) (view_body c.part_of.new.body) (tree.Dot (source.view_expr c.deref-in-Dot.result.now) c.in-Dot.name.text)
    (view_thing c.in-Ok-part_of.thing.value) refl c.in-Ok-part_of.ensures.typed c.value_of-in-Ok-part_of.ensures.typed)

pub forms::form-returns-in-Ok-part_of-clause-refused : goal.forms::form-returns-in-Ok-part_of-clause-refused
forms::form-returns-in-Ok-part_of-clause-refused t c =
    refailed c.value_of-in-Ok-part_of.result (FailsForm (view_context c.args.context.now) (view_body c.args.body.now)) (source.view_expr
    c.args.e.now) (tree.Dot (source.view_expr c.deref-in-Dot.result.now) c.in-Dot.name.text) (ap source.view_expr c.in-Dot.is ∙
    view_expr-Dot c.in-Dot.base c.in-Dot.name c.in-Dot.span ∙ ap (λ (e : code_expr.Expr). tree.Dot (source.view_expr e)
    c.in-Dot.name.text) (sym c.deref-in-Dot.ensures)) (by_rule c.value_of-in-Ok-part_of.result c.value_of-in-Ok-part_of.ensures.refused (λ
    f h. path_value_fails (view_context c.args.context.now) (view_body c.args.body.now) f (tree.Dot (source.view_expr
    c.deref-in-Dot.result.now) c.in-Dot.name.text) (view_thing c.in-Ok-part_of.thing.value) (view_body c.part_of.new.body) refl
    c.in-Ok-part_of.ensures.typed h))

pub forms::form-returns-in-Err-part_of-clause-refused : goal.forms::form-returns-in-Err-part_of-clause-refused
forms::form-returns-in-Err-part_of-clause-refused t c =
    refailed_by c.in-Err-part_of.fault.cause (FailsForm (view_context c.args.context.now) (view_body c.args.body.now)) (source.view_expr
    c.args.e.now) (tree.Dot (source.view_expr c.deref-in-Dot.result.now) c.in-Dot.name.text) (ap source.view_expr c.in-Dot.is ∙
    view_expr-Dot c.in-Dot.base c.in-Dot.name c.in-Dot.span ∙ ap (λ (e : code_expr.Expr). tree.Dot (source.view_expr e)
    c.in-Dot.name.text) (sym c.deref-in-Dot.ensures)) (path_fails (view_context c.args.context.now) (view_body c.args.body.now)
    c.in-Err-part_of.fault.cause (tree.Dot (source.view_expr c.deref-in-Dot.result.now) c.in-Dot.name.text) refl
    c.in-Err-part_of.ensures.refused)

pub forms::form-returns-in-Call-clause-typed : goal.forms::form-returns-in-Call-clause-typed
forms::form-returns-in-Call-clause-typed t c =
    retyped c.called.result (view_context c.args.context.now) (view_body c.args.body.now) (view_body c.called.new.body) (source.view_expr
    c.args.e.now) (tree.Call (source.view_expr c.deref-in-Call.result.now) (row c.deref-in-Call-2.result.now)) (ap source.view_expr
    c.in-Call.is ∙ view_expr-Call c.in-Call.function c.in-Call.args c.in-Call.span ∙ ap (λ (e : code_expr.Expr). tree.Call
    (source.view_expr e) (row c.in-Call.args.items)) (sym c.deref-in-Call.ensures) ∙ ap (λ (es : List code_expr.Expr). tree.Call
    (source.view_expr c.deref-in-Call.result.now) (row es)) (sym c.deref-in-Call-2.ensures.value)) c.called.ensures.typed

pub forms::form-returns-in-Call-clause-refused : goal.forms::form-returns-in-Call-clause-refused
forms::form-returns-in-Call-clause-refused t c =
    refailed c.called.result (FailsForm (view_context c.args.context.now) (view_body c.args.body.now)) (source.view_expr c.args.e.now)
    (tree.Call (source.view_expr c.deref-in-Call.result.now) (row c.deref-in-Call-2.result.now)) (ap source.view_expr c.in-Call.is ∙
    view_expr-Call c.in-Call.function c.in-Call.args c.in-Call.span ∙ ap (λ (e : code_expr.Expr). tree.Call (source.view_expr e) (row
    c.in-Call.args.items)) (sym c.deref-in-Call.ensures) ∙ ap (λ (es : List code_expr.Expr). tree.Call (source.view_expr
    c.deref-in-Call.result.now) (row es)) (sym c.deref-in-Call-2.ensures.value)) c.called.ensures.refused

pub arrays::sized-returns-in-Err-clause-refused : goal.arrays::sized-returns-in-Err-clause-refused
arrays::sized-returns-in-Err-clause-refused t c =
    length_fails (view_context c.args.context.now) (view_body c.args.body.now) c.in-Err.fault.cause (source.view_expr c.args.len.now)
    (source.view_type c.args.element.now) c.in-Err.ensures.refused

pub arrays::sized-returns-in-Ok-type_of_values-clause-typed : goal.arrays::sized-returns-in-Ok-type_of_values-clause-typed
arrays::sized-returns-in-Ok-type_of_values-clause-typed t c =
    sized_made (view_context c.args.context.now) (view_body c.args.body.now) c.new_array.result c.placed.result c.placed.ensures.typed
    (view_body c.value.new.body) (source.view_expr c.args.len.now) (source.view_type c.args.element.now) (view_ty
    c.in-Ok-type_of_values.item.value) (view_expr c.in-Ok.length.value) c.in-Ok.ensures.typed c.in-Ok-type_of_values.ensures.means
    c.new_array.ensures.typed

pub arrays::sized-returns-in-Ok-type_of_values-clause-refused : goal.arrays::sized-returns-in-Ok-type_of_values-clause-refused
arrays::sized-returns-in-Ok-type_of_values-clause-refused t c =
    sized_refused (view_context c.args.context.now) (view_body c.args.body.now) c.new_array.result c.placed.result
    c.placed.ensures.refused (view_body c.value.new.body) (source.view_expr c.args.len.now) (source.view_type c.args.element.now) (view_ty
    c.in-Ok-type_of_values.item.value) (view_expr c.in-Ok.length.value) c.in-Ok.ensures.typed c.in-Ok-type_of_values.ensures.means
    c.new_array.ensures.refused

pub arrays::sized-returns-in-Err-type_of_values-clause-refused : goal.arrays::sized-returns-in-Err-type_of_values-clause-refused
arrays::sized-returns-in-Err-type_of_values-clause-refused t c =
    item_type_fails (view_context c.args.context.now) (view_body c.args.body.now) c.in-Err-type_of_values.fault.cause (source.view_expr
    c.args.len.now) (source.view_type c.args.element.now) (view_expr c.in-Ok.length.value) (view_body c.value.new.body)
    c.in-Ok.ensures.typed c.in-Err-type_of_values.ensures.refused

pub arrays::indexed-returns-in-Ok-clause-typed : goal.arrays::indexed-returns-in-Ok-clause-typed
arrays::indexed-returns-in-Ok-clause-typed t c =
    index_typed c.index_of.result (view_context c.args.context.now) (view_body c.args.body.now) (view_body c.value.new.body)
    (source.view_expr c.args.e.now) (view_expr c.in-Ok.y.value) c.in-Ok.ensures.typed (subst (λ (y : code_typed.TExpr). IfOk
    c.index_of.result (λ k. type_of (view_expr y) ≡ Int)) c.deref.ensures c.index_of.ensures.int) (subst (λ (y : code_typed.TExpr). IfOk
    c.index_of.result (λ k. value_of (view_expr y) ≡ Some (constant.Number k))) c.deref.ensures c.index_of.ensures.constant)

pub arrays::indexed-returns-in-Ok-clause-refused : goal.arrays::indexed-returns-in-Ok-clause-refused
arrays::indexed-returns-in-Ok-clause-refused t c =
    by_rule c.index_of.result (subst (λ (y : code_typed.TExpr). IfErr c.index_of.result (λ f. FailsBy f.cause (FailsIndex (view_expr y))))
    c.deref.ensures c.index_of.ensures.refused) (λ f h. index_fails_as (view_context c.args.context.now) (view_body c.args.body.now)
    (view_body c.value.new.body) (source.view_expr c.args.e.now) (view_expr c.in-Ok.y.value) c.in-Ok.ensures.typed f h)

pub arrays::fill_one-returns-then-is_some-clause-refused : goal.arrays::fill_one-returns-then-is_some-clause-refused
arrays::fill_one-returns-then-is_some-clause-refused t c =
    λ is. subst (λ (i : tree.Init). FailsFill (view_context c.args.context.now) (view_body c.args.body.now) c.args.filling.now.next
    (view_optional c.args.filling.now.rest) (tree.MoreInits i is) Twice) (sym (ap source.view_init c.in-Rest.is ∙ view_init-Rest
    c.in-Rest.e)) (second_rest (view_context c.args.context.now) (view_body c.args.body.now) c.args.filling.now.next
    c.args.filling.now.rest (source.view_expr c.in-Rest.e.value) is (sym c.is_some.ensures ∙ c.if-is_some.true))

pub arrays::fill_one-returns-in-Ok-clause-filled : goal.arrays::fill_one-returns-in-Ok-clause-filled
arrays::fill_one-returns-in-Ok-clause-filled t c =
    let same : to_z w64 (of_z w64 c.args.filling.now.next) ≡ c.args.filling.now.next = search rules in on_all c.put.result _ _ _ _
    c.put.ensures.items c.put.ensures.rest c.put.ensures.next (λ items rest next. subst (λ (i : tree.Init). FillsOne (view_context
    c.args.context.now) (view_body c.args.body.now) (view_body c.value.new.body) (view_filling c.args.filling.now) (view_filling
    c.put.new.self) i) (sym (ap source.view_init c.in-Next.is ∙ view_init-Next c.in-Next.e)) (next_fills (view_context c.args.context.now)
    (view_body c.args.body.now) (view_filling c.args.filling.now) (view_filling c.put.new.self) (view_body c.value.new.body)
    (source.view_expr c.in-Next.e.value) (view_expr c.in-Ok.x.value) (subst (λ (e : code_expr.Expr). HasValue (view_context
    c.args.context.now) (view_body c.args.body.now) (source.view_expr e) (view_expr c.in-Ok.x.value) (view_body c.value.new.body))
    c.deref.ensures c.in-Ok.ensures.typed) (items ∙ ap (put_at (view_filling c.args.filling.now) (view_expr c.in-Ok.x.value)) same) (ap
    view_optional rest) (next ∙ ap (λ n. n +ℤ pos 1) same)))

pub arrays::fill_one-returns-in-Err-clause-refused : goal.arrays::fill_one-returns-in-Err-clause-refused
arrays::fill_one-returns-in-Err-clause-refused t c =
    subst (λ (i : tree.Init). FailsBy c.in-Err.fault.cause (FailsOne (view_context c.args.context.now) (view_body c.args.body.now)
    (view_filling c.args.filling.now) i)) (sym (ap source.view_init c.in-Next.is ∙ view_init-Next c.in-Next.e)) (next_one_fails
    (view_context c.args.context.now) (view_body c.args.body.now) (view_filling c.args.filling.now) c.in-Err.fault.cause (source.view_expr
    c.in-Next.e.value) (subst (λ (e : code_expr.Expr). FailsBy c.in-Err.fault.cause (FailsValue (view_context c.args.context.now)
    (view_body c.args.body.now) (source.view_expr e))) c.deref.ensures c.in-Err.ensures.refused))

pub arrays::fill_one-returns-in-Err-indexed-clause-refused : goal.arrays::fill_one-returns-in-Err-indexed-clause-refused
arrays::fill_one-returns-in-Err-indexed-clause-refused t c =
    subst (λ (i : tree.Init). FailsBy c.in-Err-indexed.fault.cause (FailsOne (view_context c.args.context.now) (view_body c.args.body.now)
    (view_filling c.args.filling.now) i)) (sym (ap source.view_init c.in-At.is ∙ view_init-At c.in-At.index c.in-At.e)) (index_fails
    (view_context c.args.context.now) (view_body c.args.body.now) (view_filling c.args.filling.now) c.in-Err-indexed.fault.cause
    (source.view_expr c.in-At.index.value) (source.view_expr c.in-At.e.value) (subst (λ (e : code_expr.Expr). FailsBy
    c.in-Err-indexed.fault.cause (FailsAsIndex (view_context c.args.context.now) (view_body c.args.body.now) (source.view_expr e)))
    c.deref-in-At.ensures c.in-Err-indexed.ensures.refused))

pub arrays::fill_one-returns-in-Ok-value-clause-filled : goal.arrays::fill_one-returns-in-Ok-value-clause-filled
arrays::fill_one-returns-in-Ok-value-clause-filled t c =
    let same : to_z w64 (of_z w64 c.in-Ok-indexed.number) ≡ c.in-Ok-indexed.number = search rules in on_all c.put-in-Ok-value.result _ _ _
    _ c.put-in-Ok-value.ensures.items c.put-in-Ok-value.ensures.rest c.put-in-Ok-value.ensures.next (λ items rest next. subst (λ (i :
    tree.Init). FillsOne (view_context c.args.context.now) (view_body c.args.body.now) (view_body c.value-in-Ok-indexed.new.body)
    (view_filling c.args.filling.now) (view_filling c.put-in-Ok-value.new.self) i) (sym (ap source.view_init c.in-At.is ∙ view_init-At
    c.in-At.index c.in-At.e)) (at_fills (view_context c.args.context.now) (view_body c.args.body.now) (view_filling c.args.filling.now)
    (view_filling c.put-in-Ok-value.new.self) (view_body c.indexed.new.body) (view_body c.value-in-Ok-indexed.new.body) (source.view_expr
    c.in-At.index.value) (source.view_expr c.in-At.e.value) c.in-Ok-indexed.number (view_expr c.in-Ok-value.x.value) (subst (λ (e :
    code_expr.Expr). IsIndex (view_context c.args.context.now) (view_body c.args.body.now) (source.view_expr e) c.in-Ok-indexed.number
    (view_body c.indexed.new.body)) c.deref-in-At.ensures c.in-Ok-indexed.ensures.typed) (subst (λ (e : code_expr.Expr). HasValue
    (view_context c.args.context.now) (view_body c.indexed.new.body) (source.view_expr e) (view_expr c.in-Ok-value.x.value) (view_body
    c.value-in-Ok-indexed.new.body)) c.deref-in-Ok-indexed.ensures c.in-Ok-value.ensures.typed) (items ∙ ap (put_at (view_filling
    c.args.filling.now) (view_expr c.in-Ok-value.x.value)) same) (ap view_optional rest) (next ∙ ap (λ n. n +ℤ pos 1) same)))

pub arrays::fill_one-returns-in-Err-value-clause-refused : goal.arrays::fill_one-returns-in-Err-value-clause-refused
arrays::fill_one-returns-in-Err-value-clause-refused t c =
    subst (λ (i : tree.Init). FailsBy c.in-Err-value.fault.cause (FailsOne (view_context c.args.context.now) (view_body c.args.body.now)
    (view_filling c.args.filling.now) i)) (sym (ap source.view_init c.in-At.is ∙ view_init-At c.in-At.index c.in-At.e)) (indexed_fails
    (view_context c.args.context.now) (view_body c.args.body.now) (view_filling c.args.filling.now) c.in-Err-value.fault.cause
    (source.view_expr c.in-At.index.value) (source.view_expr c.in-At.e.value) c.in-Ok-indexed.number (view_body c.indexed.new.body) (subst
    (λ (e : code_expr.Expr). IsIndex (view_context c.args.context.now) (view_body c.args.body.now) (source.view_expr e)
    c.in-Ok-indexed.number (view_body c.indexed.new.body)) c.deref-in-At.ensures c.in-Ok-indexed.ensures.typed) (subst (λ (e :
    code_expr.Expr). FailsBy c.in-Err-value.fault.cause (FailsValue (view_context c.args.context.now) (view_body c.indexed.new.body)
    (source.view_expr e))) c.deref-in-Ok-indexed.ensures c.in-Err-value.ensures.refused))

pub arrays::fill_one-returns-in-Ok-value-2-clause-filled : goal.arrays::fill_one-returns-in-Ok-value-2-clause-filled
arrays::fill_one-returns-in-Ok-value-2-clause-filled t c =
    subst (λ (i : tree.Init). FillsOne (view_context c.args.context.now) (view_body c.args.body.now) (view_body c.value-in-Rest.new.body)
    (view_filling c.args.filling.now) (view_filling (record {
      items = c.args.filling.now.items;
      rest = Some c.in-Ok-value-2.x;
      next =
          c.args.filling.now.next;
    })) i) (sym (ap source.view_init c.in-Rest.is ∙ view_init-Rest c.in-Rest.e)) (rest_fills (view_context
    c.args.context.now) (view_body c.args.body.now) (view_filling c.args.filling.now) (view_filling (record {
      items =
          c.args.filling.now.items;
      rest = Some c.in-Ok-value-2.x;
      next = c.args.filling.now.next;
    })) (view_body c.value-in-Rest.new.body)
    (source.view_expr c.in-Rest.e.value) (view_expr c.in-Ok-value-2.x.value) (no_rest c.args.filling.now.rest (sym c.is_some.ensures ∙
    c.if-is_some.false)) (subst (λ (e : code_expr.Expr). HasValue (view_context c.args.context.now) (view_body c.args.body.now)
    (source.view_expr e) (view_expr c.in-Ok-value-2.x.value) (view_body c.value-in-Rest.new.body)) c.deref-in-Rest.ensures
    c.in-Ok-value-2.ensures.typed) refl (view_optional-Some c.in-Ok-value-2.x) refl)

pub arrays::fill_one-returns-in-Err-value-2-clause-refused : goal.arrays::fill_one-returns-in-Err-value-2-clause-refused
arrays::fill_one-returns-in-Err-value-2-clause-refused t c =
    subst (λ (i : tree.Init). FailsBy c.in-Err-value-2.fault.cause (FailsOne (view_context c.args.context.now) (view_body c.args.body.now)
    (view_filling c.args.filling.now) i)) (sym (ap source.view_init c.in-Rest.is ∙ view_init-Rest c.in-Rest.e)) (rest_fails (view_context
    c.args.context.now) (view_body c.args.body.now) (view_filling c.args.filling.now) c.in-Err-value-2.fault.cause (source.view_expr
    c.in-Rest.e.value) (no_rest c.args.filling.now.rest (sym c.is_some.ensures ∙ c.if-is_some.false)) (subst (λ (e : code_expr.Expr).
    FailsBy c.in-Err-value-2.fault.cause (FailsValue (view_context c.args.context.now) (view_body c.args.body.now) (source.view_expr e)))
    c.deref-in-Rest.ensures c.in-Err-value-2.ensures.refused))

pub arrays::fill-returns-in-Err-clause-refused : goal.arrays::fill-returns-in-Err-clause-refused
arrays::fill-returns-in-Err-clause-refused t c =
    fails_from_none (view_context c.args.context.now) (view_body c.args.body.now) c.in-Err.fault.cause (source.inits_of (map
    source.view_init c.args.items.now)) (filled_fails (view_context c.args.context.now) (view_body c.args.body.now) (view_body
    c.loop-item.body) _ (view_filling c.loop-item.filling) c.args.items.now c.loop-item.item-index c.item-item.result c.in-Err.fault.cause
    c.loop-item-test.true (subst (λ (i : code_init.Init). FailsBy c.in-Err.fault.cause (FailsOne (view_context c.args.context.now)
    (view_body c.loop-item.body) (view_filling c.loop-item.filling) (source.view_init i))) c.item-item.is c.in-Err.ensures.refused)
    c.loop-item.invariant)

pub arrays::fill-returns-clause-typed : goal.arrays::fill-returns-clause-typed
arrays::fill-returns-clause-typed t c =
    fills_from_none (view_context c.args.context.now) (view_body c.args.body.now) (source.inits_of (map source.view_init
    c.args.items.now)) _ _ (view_body c.loop-item.body) (filled_end (view_context c.args.context.now) (view_body c.args.body.now)
    (view_body c.loop-item.body) _ (view_filling c.loop-item.filling) c.args.items.now c.loop-item.item-index c.loop-item-test.false
    c.loop-item.invariant)

pub arrays::filled-returns-in-Err-clause-refused : goal.arrays::filled-returns-in-Err-clause-refused
arrays::filled-returns-in-Err-clause-refused t c =
    array_length_fails (view_context c.args.context.now) (view_body c.args.body.now) c.in-Err.fault.cause (source.view_part
    c.args.len.now) (source.inits_of (map source.view_init c.args.items.now)) c.args.comma c.in-Err.ensures.refused

pub arrays::filled-returns-in-Ok-fill-clause-typed : goal.arrays::filled-returns-in-Ok-fill-clause-typed
arrays::filled-returns-in-Ok-fill-clause-typed t c =
    filled_made (view_context c.args.context.now) (view_body c.args.body.now) c.filled_array.result c.placed.result c.placed.ensures.typed
    (view_body c.maybe.new.body) (view_body c.fill.new.body) (source.view_part c.args.len.now) (source.inits_of (map source.view_init
    c.args.items.now)) c.args.comma (view_optional c.in-Ok.length) (view_optional c.in-Ok-fill.filling.rest) (items_of (map view_item
    c.in-Ok-fill.filling.items.items)) c.in-Ok.ensures.typed c.in-Ok-fill.ensures.typed c.filled_array.ensures.typed

pub arrays::filled-returns-in-Ok-fill-clause-refused : goal.arrays::filled-returns-in-Ok-fill-clause-refused
arrays::filled-returns-in-Ok-fill-clause-refused t c =
    filled_refused (view_context c.args.context.now) (view_body c.args.body.now) c.filled_array.result c.placed.result
    c.placed.ensures.refused (view_body c.maybe.new.body) (view_body c.fill.new.body) (source.view_part c.args.len.now) (source.inits_of
    (map source.view_init c.args.items.now)) c.args.comma (view_optional c.in-Ok.length) (view_optional c.in-Ok-fill.filling.rest)
    (items_of (map view_item c.in-Ok-fill.filling.items.items)) c.in-Ok.ensures.typed c.in-Ok-fill.ensures.typed
    c.filled_array.ensures.refused

pub arrays::filled-returns-in-Err-fill-clause-refused : goal.arrays::filled-returns-in-Err-fill-clause-refused
arrays::filled-returns-in-Err-fill-clause-refused t c =
    an_item_fails (view_context c.args.context.now) (view_body c.args.body.now) c.in-Err-fill.fault.cause (source.view_part
    c.args.len.now) (source.inits_of (map source.view_init c.args.items.now)) c.args.comma (view_optional c.in-Ok.length) (view_body
    c.maybe.new.body) c.in-Ok.ensures.typed c.in-Err-fill.ensures.refused

pub calling::loaded-returns-in-Err-clause-refused : goal.calling::loaded-returns-in-Err-clause-refused
calling::loaded-returns-in-Err-clause-refused t c =
    module_fails (view_context c.args.context.now) (view_body c.args.body.now) c.in-Err.fault.cause c.args.name.now (source.view_expr
    c.args.path.now) c.in-Err.ensures.refused

pub calling::loaded-returns-in-Ok-value-clause-typed : goal.calling::loaded-returns-in-Ok-value-clause-typed
calling::loaded-returns-in-Ok-value-clause-typed t c =
    load_made (view_context c.args.context.now) (view_body c.args.body.now) c.load.result c.placed.result c.placed.ensures.typed
    (view_body c.value.new.body) c.args.name.now (source.view_expr c.args.path.now) c.in-Ok.interface (view_expr c.in-Ok-value.x.value)
    c.in-Ok.ensures.found c.in-Ok-value.ensures.typed c.load.ensures.typed

pub calling::loaded-returns-in-Ok-value-clause-refused : goal.calling::loaded-returns-in-Ok-value-clause-refused
calling::loaded-returns-in-Ok-value-clause-refused t c =
    load_refused (view_context c.args.context.now) (view_body c.args.body.now) c.load.result c.placed.result c.placed.ensures.refused
    (view_body c.value.new.body) c.args.name.now (source.view_expr c.args.path.now) c.in-Ok.interface (view_expr c.in-Ok-value.x.value)
    c.in-Ok.ensures.found c.in-Ok-value.ensures.typed (load_told c.load.result c.in-Ok-value.x.value c.in-Ok.interface
    c.load.ensures.refused)

pub calling::loaded-returns-in-Err-value-clause-refused : goal.calling::loaded-returns-in-Err-value-clause-refused
calling::loaded-returns-in-Err-value-clause-refused t c =
    load_path_fails (view_context c.args.context.now) (view_body c.args.body.now) c.in-Err-value.fault.cause c.args.name.now
    (source.view_expr c.args.path.now) c.in-Ok.interface c.in-Ok.ensures.found c.in-Err-value.ensures.refused

pub calling::applied-returns-in-Ok-clause-typed : goal.calling::applied-returns-in-Ok-clause-typed
calling::applied-returns-in-Ok-clause-typed t c =
    applied_made (view_context c.args.context.now) (view_body c.args.body.now) c.apply.result c.placed.result c.placed.ensures.typed
    (view_body c.values.new.body) (view_thing c.args.thing.value) (source.exprs_of (map source.view_expr c.args.args.now)) (view_exprs
    c.in-Ok.xs.items) c.in-Ok.ensures.typed c.apply.ensures.typed

pub calling::applied-returns-in-Ok-clause-refused : goal.calling::applied-returns-in-Ok-clause-refused
calling::applied-returns-in-Ok-clause-refused t c =
    applied_refused (view_context c.args.context.now) (view_body c.args.body.now) c.apply.result c.placed.result c.placed.ensures.refused
    (view_body c.values.new.body) (view_thing c.args.thing.value) (source.exprs_of (map source.view_expr c.args.args.now)) (view_exprs
    c.in-Ok.xs.items) c.in-Ok.ensures.typed c.apply.ensures.refused

pub calling::applied-returns-in-Err-clause-refused : goal.calling::applied-returns-in-Err-clause-refused
calling::applied-returns-in-Err-clause-refused t c =
    argument_fails (view_context c.args.context.now) (view_body c.args.body.now) (view_thing c.args.thing.value) (source.exprs_of (map
    source.view_expr c.args.args.now)) c.in-Err.fault.cause c.in-Err.ensures.refused

pub calling::called-returns-in-Err-clause-refused : goal.calling::called-returns-in-Err-clause-refused
calling::called-returns-in-Err-clause-refused t c =
    function_fails (view_context c.args.context.now) (view_body c.args.body.now) c.in-Err.fault.cause (source.view_expr
    c.args.function.now) (source.exprs_of (map source.view_expr c.args.args.now)) c.in-Err.ensures.refused

pub calling::called-returns-in-Print-clause-typed : goal.calling::called-returns-in-Print-clause-typed
calling::called-returns-in-Print-clause-typed t c =
    call_printed c.printed_call.result (view_context c.args.context.now) (view_body c.args.body.now) (view_body c.denote.new.body)
    (view_body c.printed_call.new.body) (source.view_expr c.args.function.now) (source.exprs_of (map source.view_expr c.args.args.now))
    c.in-Print.printed (view_expr c.in-Print.instance.value) (subst (λ (s : Thing). Denotes (view_context c.args.context.now) (view_body
    c.args.body.now) (source.view_expr c.args.function.now) s (view_body c.denote.new.body)) (print_called (view_thing
    c.in-Ok.thing.value) c.in_ok-printed-in-Ok.field-0 c.in-Print.printed c.in-Print.instance c.in-Print.is
    c.in_ok-printed-in-Ok.ensures.callee) c.in-Ok.ensures.typed) c.printed_call.ensures.typed

pub calling::called-returns-in-Print-clause-refused : goal.calling::called-returns-in-Print-clause-refused
calling::called-returns-in-Print-clause-refused t c =
    by_rule c.printed_call.result c.printed_call.ensures.refused (λ f h. print_fails (view_context c.args.context.now) (view_body
    c.args.body.now) f (source.view_expr c.args.function.now) (source.exprs_of (map source.view_expr c.args.args.now)) c.in-Print.printed
    (view_expr c.in-Print.instance.value) (view_body c.denote.new.body) (subst (λ (s : Thing). Denotes (view_context c.args.context.now)
    (view_body c.args.body.now) (source.view_expr c.args.function.now) s (view_body c.denote.new.body)) (print_called (view_thing
    c.in-Ok.thing.value) c.in_ok-printed-in-Ok.field-0 c.in-Print.printed c.in-Print.instance c.in-Print.is
    c.in_ok-printed-in-Ok.ensures.callee) c.in-Ok.ensures.typed) h)

pub calling::called-returns-in-Other-clause-typed : goal.calling::called-returns-in-Other-clause-typed
calling::called-returns-in-Other-clause-typed t c =
    call_applied c.applied.result (view_context c.args.context.now) (view_body c.args.body.now) (view_body c.denote.new.body) (view_body
    c.applied.new.body) (source.view_expr c.args.function.now) (source.exprs_of (map source.view_expr c.args.args.now)) (view_thing
    c.in-Other.thing.value) (subst (λ (s : Thing). Denotes (view_context c.args.context.now) (view_body c.args.body.now) (source.view_expr
    c.args.function.now) s (view_body c.denote.new.body)) (sym (other_called (view_thing c.in-Ok.thing.value)
    c.in_ok-printed-in-Ok.field-0 c.in-Other.thing c.in-Other.is c.in_ok-printed-in-Ok.ensures.callee).0) c.in-Ok.ensures.typed)
    c.applied.ensures.typed

pub calling::called-returns-in-Other-clause-refused : goal.calling::called-returns-in-Other-clause-refused
calling::called-returns-in-Other-clause-refused t c =
    by_rule c.applied.result c.applied.ensures.refused (λ f h. apply_fails (view_context c.args.context.now) (view_body c.args.body.now) f
    (source.view_expr c.args.function.now) (source.exprs_of (map source.view_expr c.args.args.now)) (view_thing c.in-Other.thing.value)
    (view_body c.denote.new.body) (subst (λ (s : Thing). Denotes (view_context c.args.context.now) (view_body c.args.body.now)
    (source.view_expr c.args.function.now) s (view_body c.denote.new.body)) (sym (other_called (view_thing c.in-Ok.thing.value)
    c.in_ok-printed-in-Ok.field-0 c.in-Other.thing c.in-Other.is c.in_ok-printed-in-Ok.ensures.callee).0) c.in-Ok.ensures.typed) (subst
    IsNoPrint (sym (other_called (view_thing c.in-Ok.thing.value) c.in_ok-printed-in-Ok.field-0 c.in-Other.thing c.in-Other.is
    c.in_ok-printed-in-Ok.ensures.callee).0) (other_called (view_thing c.in-Ok.thing.value) c.in_ok-printed-in-Ok.field-0 c.in-Other.thing
    c.in-Other.is c.in_ok-printed-in-Ok.ensures.callee).1) h)

pub calling::printed_first-returns-in_default-clause-refused : goal.calling::printed_first-returns-in_default-clause-refused
calling::printed_first-returns-in_default-clause-refused t c =
    no_format_fails (view_context c.args.context.now) (view_body c.args.body.now) c.args.printed (view_expr c.args.instance.value)
    (source.exprs_of (map source.view_expr c.args.args.now)) c.no_format.result.cause (c.requires.first (source.exprs_of (map
    source.view_expr c.args.args.now)) ∙ ap literal_first (empty_row c.args.args.now c.in_default.ensures.cases)) c.no_format.ensures

pub calling::printed_first-returns-in_default-literal_of-clause-refused :
    goal.calling::printed_first-returns-in_default-literal_of-clause-refused
calling::printed_first-returns-in_default-literal_of-clause-refused t c =
    no_format_fails (view_context c.args.context.now) (view_body c.args.body.now) c.args.printed (view_expr c.args.instance.value)
    (source.exprs_of (map source.view_expr c.args.args.now)) c.no_format-in_default-literal_of.result.cause (c.requires.first
    (source.exprs_of (map source.view_expr c.args.args.now)) ∙ ap literal_first (first_of c.args.args.now c.in-Some.others.now
    c.in-Some.format.now c.in-Some.ensures.cases.0) ∙ no_literal (source.view_expr c.in-Some.format.now) (row c.in-Some.others.now)
    c.in_default-literal_of.ensures.none) c.no_format-in_default-literal_of.ensures

pub calling::printed_first-returns-in-Ok-clause-typed : goal.calling::printed_first-returns-in-Ok-clause-typed
calling::printed_first-returns-in-Ok-clause-typed t c =
    printed_made (view_context c.args.context.now) (view_body c.args.body.now) c.print.result c.placed.result c.placed.ensures.typed
    (view_body c.values.new.body) c.args.printed (view_expr c.args.instance.value) (source.exprs_of (map source.view_expr
    c.args.args.now)) (row c.in-Some.others.now) c.in-Some-literal_of.text.now (view_exprs c.in-Ok.xs.items) (view_exprs c.in-Ok.xs.items)
    (view_output c.args.output) (c.requires.first (source.exprs_of (map source.view_expr c.args.args.now)) ∙ ap literal_first (first_of
    c.args.args.now c.in-Some.others.now c.in-Some.format.now c.in-Some.ensures.cases.0 ∙ ap (λ (e : tree.Expr). tree.MoreExprs e (row
    c.in-Some.others.now)) c.in-Some-literal_of.ensures.found)) c.in-Ok.ensures.typed (c.requires.output (view_exprs c.in-Ok.xs.items))
    c.print.ensures.typed

pub calling::printed_first-returns-in-Ok-clause-refused : goal.calling::printed_first-returns-in-Ok-clause-refused
calling::printed_first-returns-in-Ok-clause-refused t c =
    printed_refused (view_context c.args.context.now) (view_body c.args.body.now) c.print.result c.placed.result c.placed.ensures.refused
    (view_body c.values.new.body) c.args.printed (view_expr c.args.instance.value) (source.exprs_of (map source.view_expr
    c.args.args.now)) (row c.in-Some.others.now) c.in-Some-literal_of.text.now (view_exprs c.in-Ok.xs.items) (view_exprs c.in-Ok.xs.items)
    (view_output c.args.output) (c.requires.first (source.exprs_of (map source.view_expr c.args.args.now)) ∙ ap literal_first (first_of
    c.args.args.now c.in-Some.others.now c.in-Some.format.now c.in-Some.ensures.cases.0 ∙ ap (λ (e : tree.Expr). tree.MoreExprs e (row
    c.in-Some.others.now)) c.in-Some-literal_of.ensures.found)) c.in-Ok.ensures.typed (c.requires.output (view_exprs c.in-Ok.xs.items))
    c.print.ensures.refused

pub calling::printed_first-returns-in-Err-clause-refused : goal.calling::printed_first-returns-in-Err-clause-refused
calling::printed_first-returns-in-Err-clause-refused t c =
    format_value_fails (view_context c.args.context.now) (view_body c.args.body.now) c.args.printed (view_expr c.args.instance.value)
    (source.exprs_of (map source.view_expr c.args.args.now)) (row c.in-Some.others.now) c.in-Some-literal_of.text.now c.in-Err.fault.cause
    (c.requires.first (source.exprs_of (map source.view_expr c.args.args.now)) ∙ ap literal_first (first_of c.args.args.now
    c.in-Some.others.now c.in-Some.format.now c.in-Some.ensures.cases.0 ∙ ap (λ (e : tree.Expr). tree.MoreExprs e (row
    c.in-Some.others.now)) c.in-Some-literal_of.ensures.found)) c.in-Err.ensures.refused

pub calling::printed_to_file-returns-in_default-clause-refused : goal.calling::printed_to_file-returns-in_default-clause-refused
calling::printed_to_file-returns-in_default-clause-refused t c =
    no_format_fails (view_context c.args.context.now) (view_body c.args.body.now) printed.Fprint (view_expr c.args.instance.value)
    (source.exprs_of (map source.view_expr c.args.args.now)) c.no_format.result.cause (ap behind_file (empty_row c.args.args.now
    c.in_default.ensures.cases)) c.no_format.ensures

pub calling::printed_to_file-returns-in_default-split_first-clause-refused :
    goal.calling::printed_to_file-returns-in_default-split_first-clause-refused
calling::printed_to_file-returns-in_default-split_first-clause-refused t c =
    no_format_fails (view_context c.args.context.now) (view_body c.args.body.now) printed.Fprint (view_expr c.args.instance.value)
    (source.exprs_of (map source.view_expr c.args.args.now)) c.no_format-in_default-split_first.result.cause (ap behind_file ((first_of
    c.args.args.now c.in-Some.behind.now c.in-Some.file.now c.in-Some.ensures.cases.0) ∙ ap (tree.MoreExprs (source.view_expr
    c.in-Some.file.now)) (empty_row c.in-Some.behind.now c.in_default-split_first.ensures.cases)))
    c.no_format-in_default-split_first.ensures

pub calling::printed_to_file-returns-in_default-literal_of-clause-refused :
    goal.calling::printed_to_file-returns-in_default-literal_of-clause-refused
calling::printed_to_file-returns-in_default-literal_of-clause-refused t c =
    no_format_fails (view_context c.args.context.now) (view_body c.args.body.now) printed.Fprint (view_expr c.args.instance.value)
    (source.exprs_of (map source.view_expr c.args.args.now)) c.no_format-in_default-literal_of.result.cause (ap behind_file ((first_of
    c.args.args.now c.in-Some.behind.now c.in-Some.file.now c.in-Some.ensures.cases.0) ∙ ap (tree.MoreExprs (source.view_expr
    c.in-Some.file.now)) (first_of c.in-Some.behind.now c.in-Some-split_first.others.now c.in-Some-split_first.format.now
    c.in-Some-split_first.ensures.cases.0)) ∙ no_literal_behind (source.view_expr c.in-Some.file.now) (source.view_expr
    c.in-Some-split_first.format.now) (row c.in-Some-split_first.others.now) c.in_default-literal_of.ensures.none)
    c.no_format-in_default-literal_of.ensures

pub calling::printed_to_file-returns-in-Err-clause-refused : goal.calling::printed_to_file-returns-in-Err-clause-refused
calling::printed_to_file-returns-in-Err-clause-refused t c =
    format_value_fails (view_context c.args.context.now) (view_body c.args.body.now) printed.Fprint (view_expr c.args.instance.value)
    (source.exprs_of (map source.view_expr c.args.args.now)) (tree.MoreExprs (source.view_expr c.in-Some.file.now) (row
    c.in-Some-split_first.others.now)) c.in-Some-literal_of.text.now c.in-Err.fault.cause (ap behind_file ((first_of c.args.args.now
    c.in-Some.behind.now c.in-Some.file.now c.in-Some.ensures.cases.0) ∙ ap (tree.MoreExprs (source.view_expr c.in-Some.file.now))
    ((first_of c.in-Some.behind.now c.in-Some-split_first.others.now c.in-Some-split_first.format.now
    c.in-Some-split_first.ensures.cases.0) ∙ ap (λ (e : tree.Expr). tree.MoreExprs e (row c.in-Some-split_first.others.now))
    c.in-Some-literal_of.ensures.found))) (first_fails (view_context c.args.context.now) (view_body c.args.body.now) c.in-Err.fault.cause
    (source.view_expr c.in-Some.file.now) (row c.in-Some-split_first.others.now) c.in-Err.ensures.refused)

pub calling::printed_to_file-returns-in-Ok-values-clause-typed : goal.calling::printed_to_file-returns-in-Ok-values-clause-typed
calling::printed_to_file-returns-in-Ok-values-clause-typed t c =
    printed_made (view_context c.args.context.now) (view_body c.args.body.now) c.print.result c.placed.result c.placed.ensures.typed
    (view_body c.values.new.body) printed.Fprint (view_expr c.args.instance.value) (source.exprs_of (map source.view_expr
    c.args.args.now)) (tree.MoreExprs (source.view_expr c.in-Some.file.now) (row c.in-Some-split_first.others.now))
    c.in-Some-literal_of.text.now (MoreExprs (view_expr c.in-Ok.x.value) (view_exprs c.in-Ok-values.xs.items)) (view_exprs
    c.in-Ok-values.xs.items) (output.Fprint (view_expr c.in-Ok.x.value)) (ap behind_file ((first_of c.args.args.now c.in-Some.behind.now
    c.in-Some.file.now c.in-Some.ensures.cases.0) ∙ ap (tree.MoreExprs (source.view_expr c.in-Some.file.now)) ((first_of
    c.in-Some.behind.now c.in-Some-split_first.others.now c.in-Some-split_first.format.now c.in-Some-split_first.ensures.cases.0) ∙ ap (λ
    (e : tree.Expr). tree.MoreExprs e (row c.in-Some-split_first.others.now)) c.in-Some-literal_of.ensures.found))) (typing.values
    (view_body c.args.body.now) (view_body c.value.new.body) (view_body c.values.new.body) (source.view_expr c.in-Some.file.now) (row
    c.in-Some-split_first.others.now) (view_expr c.in-Ok.x.value) (view_exprs c.in-Ok-values.xs.items) c.in-Ok.ensures.typed
    c.in-Ok-values.ensures.typed) (refl, refl) c.print.ensures.typed

pub calling::printed_to_file-returns-in-Ok-values-clause-refused : goal.calling::printed_to_file-returns-in-Ok-values-clause-refused
calling::printed_to_file-returns-in-Ok-values-clause-refused t c =
    printed_refused (view_context c.args.context.now) (view_body c.args.body.now) c.print.result c.placed.result c.placed.ensures.refused
    (view_body c.values.new.body) printed.Fprint (view_expr c.args.instance.value) (source.exprs_of (map source.view_expr
    c.args.args.now)) (tree.MoreExprs (source.view_expr c.in-Some.file.now) (row c.in-Some-split_first.others.now))
    c.in-Some-literal_of.text.now (MoreExprs (view_expr c.in-Ok.x.value) (view_exprs c.in-Ok-values.xs.items)) (view_exprs
    c.in-Ok-values.xs.items) (output.Fprint (view_expr c.in-Ok.x.value)) (ap behind_file ((first_of c.args.args.now c.in-Some.behind.now
    c.in-Some.file.now c.in-Some.ensures.cases.0) ∙ ap (tree.MoreExprs (source.view_expr c.in-Some.file.now)) ((first_of
    c.in-Some.behind.now c.in-Some-split_first.others.now c.in-Some-split_first.format.now c.in-Some-split_first.ensures.cases.0) ∙ ap (λ
    (e : tree.Expr). tree.MoreExprs e (row c.in-Some-split_first.others.now)) c.in-Some-literal_of.ensures.found))) (typing.values
    (view_body c.args.body.now) (view_body c.value.new.body) (view_body c.values.new.body) (source.view_expr c.in-Some.file.now) (row
    c.in-Some-split_first.others.now) (view_expr c.in-Ok.x.value) (view_exprs c.in-Ok-values.xs.items) c.in-Ok.ensures.typed
    c.in-Ok-values.ensures.typed) (refl, refl) c.print.ensures.refused

pub calling::printed_to_file-returns-in-Err-values-clause-refused : goal.calling::printed_to_file-returns-in-Err-values-clause-refused
calling::printed_to_file-returns-in-Err-values-clause-refused t c =
    format_value_fails (view_context c.args.context.now) (view_body c.args.body.now) printed.Fprint (view_expr c.args.instance.value)
    (source.exprs_of (map source.view_expr c.args.args.now)) (tree.MoreExprs (source.view_expr c.in-Some.file.now) (row
    c.in-Some-split_first.others.now)) c.in-Some-literal_of.text.now c.in-Err-values.fault.cause (ap behind_file ((first_of
    c.args.args.now c.in-Some.behind.now c.in-Some.file.now c.in-Some.ensures.cases.0) ∙ ap (tree.MoreExprs (source.view_expr
    c.in-Some.file.now)) ((first_of c.in-Some.behind.now c.in-Some-split_first.others.now c.in-Some-split_first.format.now
    c.in-Some-split_first.ensures.cases.0) ∙ ap (λ (e : tree.Expr). tree.MoreExprs e (row c.in-Some-split_first.others.now))
    c.in-Some-literal_of.ensures.found))) (later_fails (view_context c.args.context.now) (view_body c.args.body.now)
    c.in-Err-values.fault.cause (source.view_expr c.in-Some.file.now) (row c.in-Some-split_first.others.now) (view_expr c.in-Ok.x.value)
    (view_body c.value.new.body) c.in-Ok.ensures.typed c.in-Err-values.ensures.refused)

pub assigning::copied_into-returns-in-Err-clause-refused : goal.assigning::copied_into-returns-in-Err-clause-refused
assigning::copied_into-returns-in-Err-clause-refused t c =
    values_fail (view_context c.args.context.now) (view_body c.args.body.now) c.in-Err.fault.cause (tree.Assign assign.Assign (tree.Slice
    (source.view_expr c.args.array.now) (tree.Present (source.view_expr c.args.from.now)) tree.Absent) (source.view_expr
    c.args.right.now)) (three (source.view_expr c.args.array.now) (source.view_expr c.args.from.now) (source.view_expr c.args.right.now))
    refl refl (first_fails (view_context c.args.context.now) (view_body c.args.body.now) c.in-Err.fault.cause (source.view_expr
    c.args.array.now) (two (source.view_expr c.args.from.now) (source.view_expr c.args.right.now)) c.in-Err.ensures.refused)

pub assigning::copied_into-returns-in-Err-value-clause-refused : goal.assigning::copied_into-returns-in-Err-value-clause-refused
assigning::copied_into-returns-in-Err-value-clause-refused t c =
    values_fail (view_context c.args.context.now) (view_body c.args.body.now) c.in-Err-value.fault.cause (tree.Assign assign.Assign
    (tree.Slice (source.view_expr c.args.array.now) (tree.Present (source.view_expr c.args.from.now)) tree.Absent) (source.view_expr
    c.args.right.now)) (three (source.view_expr c.args.array.now) (source.view_expr c.args.from.now) (source.view_expr c.args.right.now))
    refl refl (later_fails (view_context c.args.context.now) (view_body c.args.body.now) c.in-Err-value.fault.cause (source.view_expr
    c.args.array.now) (two (source.view_expr c.args.from.now) (source.view_expr c.args.right.now)) (view_expr c.in-Ok.x.value) (view_body
    c.value.new.body) c.in-Ok.ensures.typed (first_fails (view_context c.args.context.now) (view_body c.value.new.body)
    c.in-Err-value.fault.cause (source.view_expr c.args.from.now) (one (source.view_expr c.args.right.now))
    c.in-Err-value.ensures.refused))

pub assigning::copied_into-returns-in-Err-value-2-clause-refused : goal.assigning::copied_into-returns-in-Err-value-2-clause-refused
assigning::copied_into-returns-in-Err-value-2-clause-refused t c =
    values_fail (view_context c.args.context.now) (view_body c.args.body.now) c.in-Err-value-2.fault.cause (tree.Assign assign.Assign
    (tree.Slice (source.view_expr c.args.array.now) (tree.Present (source.view_expr c.args.from.now)) tree.Absent) (source.view_expr
    c.args.right.now)) (three (source.view_expr c.args.array.now) (source.view_expr c.args.from.now) (source.view_expr c.args.right.now))
    refl refl (later_fails (view_context c.args.context.now) (view_body c.args.body.now) c.in-Err-value-2.fault.cause (source.view_expr
    c.args.array.now) (two (source.view_expr c.args.from.now) (source.view_expr c.args.right.now)) (view_expr c.in-Ok.x.value) (view_body
    c.value.new.body) c.in-Ok.ensures.typed (later_fails (view_context c.args.context.now) (view_body c.value.new.body)
    c.in-Err-value-2.fault.cause (source.view_expr c.args.from.now) (one (source.view_expr c.args.right.now)) (view_expr
    c.in-Ok-value.y.value) (view_body c.value-in-Ok.new.body) c.in-Ok-value.ensures.typed (first_fails (view_context c.args.context.now)
    (view_body c.value-in-Ok.new.body) c.in-Err-value-2.fault.cause (source.view_expr c.args.right.now) tree.NoExprs
    c.in-Err-value-2.ensures.refused)))

pub assigning::copied_into-returns-in-Ok-value-2-clause-typed : goal.assigning::copied_into-returns-in-Ok-value-2-clause-typed
assigning::copied_into-returns-in-Ok-value-2-clause-typed t c =
    values_made (view_context c.args.context.now) (view_body c.args.body.now) c.copy_into.result c.placed.result c.placed.ensures.typed
    (view_body c.value-in-Ok-value.new.body) (tree.Assign assign.Assign (tree.Slice (source.view_expr c.args.array.now) (tree.Present
    (source.view_expr c.args.from.now)) tree.Absent) (source.view_expr c.args.right.now)) (three (source.view_expr c.args.array.now)
    (source.view_expr c.args.from.now) (source.view_expr c.args.right.now)) (operands_three (view_expr c.in-Ok.x.value) (view_expr
    c.in-Ok-value.y.value) (view_expr c.in-Ok-value-2.v.value)) refl (values_three (view_context c.args.context.now) (view_body
    c.args.body.now) (view_body c.value.new.body) (view_body c.value-in-Ok.new.body) (view_body c.value-in-Ok-value.new.body)
    (source.view_expr c.args.array.now) (source.view_expr c.args.from.now) (source.view_expr c.args.right.now) (view_expr c.in-Ok.x.value)
    (view_expr c.in-Ok-value.y.value) (view_expr c.in-Ok-value-2.v.value) c.in-Ok.ensures.typed c.in-Ok-value.ensures.typed
    c.in-Ok-value-2.ensures.typed) c.copy_into.ensures.typed

pub assigning::copied_into-returns-in-Ok-value-2-clause-refused : goal.assigning::copied_into-returns-in-Ok-value-2-clause-refused
assigning::copied_into-returns-in-Ok-value-2-clause-refused t c =
    values_refused (view_context c.args.context.now) (view_body c.args.body.now) c.copy_into.result c.placed.result
    c.placed.ensures.refused (view_body c.value-in-Ok-value.new.body) (tree.Assign assign.Assign (tree.Slice (source.view_expr
    c.args.array.now) (tree.Present (source.view_expr c.args.from.now)) tree.Absent) (source.view_expr c.args.right.now)) (three
    (source.view_expr c.args.array.now) (source.view_expr c.args.from.now) (source.view_expr c.args.right.now)) (operands_three (view_expr
    c.in-Ok.x.value) (view_expr c.in-Ok-value.y.value) (view_expr c.in-Ok-value-2.v.value)) refl (values_three (view_context
    c.args.context.now) (view_body c.args.body.now) (view_body c.value.new.body) (view_body c.value-in-Ok.new.body) (view_body
    c.value-in-Ok-value.new.body) (source.view_expr c.args.array.now) (source.view_expr c.args.from.now) (source.view_expr
    c.args.right.now) (view_expr c.in-Ok.x.value) (view_expr c.in-Ok-value.y.value) (view_expr c.in-Ok-value-2.v.value)
    c.in-Ok.ensures.typed c.in-Ok-value.ensures.typed c.in-Ok-value-2.ensures.typed) c.copy_into.ensures.refused

pub assigning::stored-returns-in-Err-clause-refused : goal.assigning::stored-returns-in-Err-clause-refused
assigning::stored-returns-in-Err-clause-refused t c =
    left_fails (view_context c.args.context.now) (view_body c.args.body.now) c.in-Err.fault.cause (source.view_expr c.args.left.now)
    (source.view_expr c.args.right.now) c.requires.stored c.in-Err.ensures.refused

pub assigning::stored-returns-then-matches-clause-refused : goal.assigning::stored-returns-then-matches-clause-refused
assigning::stored-returns-then-matches-clause-refused t c =
    elim c.match-matches.branch [
      | assigning::stored-in-Nothing w ↦
          to_nil_fails (view_context c.args.context.now) (view_body c.args.body.now) (view_body c.pattern.new.body) (source.view_expr
          c.args.left.now) (source.view_expr c.args.right.now) (view_pattern c.in-Ok.p.value) c.refused.result.cause c.refused.ensures
          c.requires.stored c.in-Ok.ensures.typed
          (ap view_pattern (sym c.deref.ensures ∙ w.in-Nothing.is) ∙ view_pattern-Nothing)
      | assigning::stored-in_default w ↦ absurd (false≢true (sym w.matches-is ∙ c.if-matches.true))
    ]

pub assigning::stored-returns-in-Ok-value-clause-typed : goal.assigning::stored-returns-in-Ok-value-clause-typed
assigning::stored-returns-in-Ok-value-clause-typed t c =
    assign_made (view_context c.args.context.now) (view_body c.args.body.now) c.assign.result c.placed.result c.placed.ensures.typed
    (view_body c.pattern.new.body) (view_body c.value.new.body) (source.view_expr c.args.left.now) (source.view_expr c.args.right.now)
    (view_pattern c.in-Ok.p.value) (view_expr c.in-Ok-value.y.value) c.requires.stored c.in-Ok.ensures.typed (elim c.match-matches.branch [
      | assigning::stored-in-Nothing w ↦ absurd (false≢true (sym c.if-matches.false ∙ w.matches-is))
      | assigning::stored-in_default w ↦ subst (λ (p : code_pattern.Pattern). view_pattern p ≢ ToNothing) c.deref.ensures
          (stores c.deref.result.now w.in_default.not-Nothing)
    ]) c.in-Ok-value.ensures.typed c.assign.ensures.typed

pub assigning::stored-returns-in-Ok-value-clause-refused : goal.assigning::stored-returns-in-Ok-value-clause-refused
assigning::stored-returns-in-Ok-value-clause-refused t c =
    assign_refused (view_context c.args.context.now) (view_body c.args.body.now) c.assign.result c.placed.result c.placed.ensures.refused
    (view_body c.pattern.new.body) (view_body c.value.new.body) (source.view_expr c.args.left.now) (source.view_expr c.args.right.now)
    (view_pattern c.in-Ok.p.value) (view_expr c.in-Ok-value.y.value) c.requires.stored c.in-Ok.ensures.typed c.in-Ok-value.ensures.typed
    c.assign.ensures.refused

pub assigning::stored-returns-in-Err-value-clause-refused : goal.assigning::stored-returns-in-Err-value-clause-refused
assigning::stored-returns-in-Err-value-clause-refused t c =
    right_fails (view_context c.args.context.now) (view_body c.args.body.now) c.in-Err-value.fault.cause (source.view_expr
    c.args.left.now) (source.view_expr c.args.right.now) (view_pattern c.in-Ok.p.value) (view_body c.pattern.new.body) c.requires.stored
    c.in-Ok.ensures.typed c.in-Err-value.ensures.refused

pub assigning::defined-returns-in-Err-clause-refused : goal.assigning::defined-returns-in-Err-clause-refused
assigning::defined-returns-in-Err-clause-refused t c =
    value_defined_fails (view_context c.args.context.now) (view_body c.args.body.now) c.in-Err.fault.cause (source.view_expr
    c.args.left.now) (source.view_expr c.args.right.now) c.in-Err.ensures.refused

pub assigning::defined-returns-in-Err-settled-clause-refused : goal.assigning::defined-returns-in-Err-settled-clause-refused
assigning::defined-returns-in-Err-settled-clause-refused t c =
    unsettled_fails (view_context c.args.context.now) (view_body c.args.body.now) c.in-Err-settled.fault.cause (source.view_expr
    c.args.left.now) (source.view_expr c.args.right.now) (view_expr c.in-Ok.y.value) (view_body c.value.new.body) c.in-Ok.ensures.typed
    (subst (λ (y : code_typed.TExpr). FailsBy c.in-Err-settled.fault.cause (λ k. (k ≡ Refused (itself (view_expr y))) × (IsSettled
    (type_of (view_expr y)) → ⊥))) c.deref.ensures c.in-Err-settled.ensures.refused)

pub assigning::defined-returns-in-Ok-define-clause-typed : goal.assigning::defined-returns-in-Ok-define-clause-typed
assigning::defined-returns-in-Ok-define-clause-typed t c =
    defined_typed c.assignment.result (view_context c.args.context.now) (view_body c.args.body.now) (view_body c.value.new.body)
    (view_body c.define.new.body) (source.view_expr c.args.left.now) (source.view_expr c.args.right.now) (view_pattern
    c.in-Ok-define.p.value) c.in-Ok.y.value c.in-Ok.ensures.typed (subst (λ (y : code_typed.TExpr). IsSettled (type_of (view_expr y)))
    c.deref.ensures c.in-Ok-settled.ensures.settled) (subst (λ (y : code_typed.TExpr). Defines (view_body c.value.new.body)
    (source.view_expr c.args.left.now) (view_ty y.ty) (view_pattern c.in-Ok-define.p.value) (view_body c.define.new.body))
    c.deref-in-Ok-settled.ensures c.in-Ok-define.ensures.defined) c.assignment.ensures.typed

pub assigning::defined-returns-in-Err-define-clause-refused : goal.assigning::defined-returns-in-Err-define-clause-refused
assigning::defined-returns-in-Err-define-clause-refused t c =
    define_told (view_context c.args.context.now) (view_body c.args.body.now) (view_body c.value.new.body) (source.view_expr
    c.args.left.now) (source.view_expr c.args.right.now) c.in-Ok.y.value c.in-Err-define.fault.cause c.in-Ok.ensures.typed (subst (λ (y :
    code_typed.TExpr). FailsBy c.in-Err-define.fault.cause (FailsDefine (view_body c.value.new.body) (source.view_expr c.args.left.now)
    (view_ty y.ty))) c.deref-in-Ok-settled.ensures c.in-Err-define.ensures.refused)

pub assigning::grouped_pattern-returns-in-empty-clause-refused : goal.assigning::grouped_pattern-returns-in-empty-clause-refused
assigning::grouped_pattern-returns-in-empty-clause-refused t c =
    subst (λ (es : tree.Exprs). FailsBy c.refused.result.cause (FailsPattern (view_context c.args.context.now) (view_body c.args.body.now)
    (tree.Group es))) (sym (none_in_row c.args.items.now c.in-empty.len_below)) (nothing_fails c.clash_of.result c.refused.result.cause
    (FailsPattern (view_context c.args.context.now) (view_body c.args.body.now) (tree.Group tree.NoExprs)) c.refused.ensures
    c.clash_of.ensures (failing.no_pattern (view_body c.args.body.now)))

pub assigning::grouped_pattern-returns-in-len1-clause-typed : goal.assigning::grouped_pattern-returns-in-len1-clause-typed
assigning::grouped_pattern-returns-in-len1-clause-typed t c =
    one_pattern c.pattern.result (view_context c.args.context.now) (view_body c.args.body.now) (view_body c.pattern.new.body)
    (source.exprs_of (map source.view_expr c.args.items.now)) (source.view_expr c.item-item.result) (one_in_row c.args.items.now
    c.item-item.result c.in-len1.len_at_least c.in-len1.len_below c.item-item.is) c.pattern.ensures.typed

pub assigning::grouped_pattern-returns-in-len1-clause-refused : goal.assigning::grouped_pattern-returns-in-len1-clause-refused
assigning::grouped_pattern-returns-in-len1-clause-refused t c =
    by_rule c.pattern.result c.pattern.ensures.refused (λ f h. subst (λ (es : tree.Exprs). FailsBy f (FailsPattern (view_context
    c.args.context.now) (view_body c.args.body.now) (tree.Group es))) (sym (one_in_row c.args.items.now c.item-item.result
    c.in-len1.len_at_least c.in-len1.len_below c.item-item.is)) (in_one_fails (view_context c.args.context.now) (view_body
    c.args.body.now) f (source.view_expr c.item-item.result) h))

pub assigning::grouped_pattern-returns-in_ok-new-in-Ok-clause-typed : goal.assigning::grouped_pattern-returns-in_ok-new-in-Ok-clause-typed
assigning::grouped_pattern-returns-in_ok-new-in-Ok-clause-typed t c =
    several_patterns (view_context c.args.context.now) (view_body c.args.body.now) (view_body c.patterns.new.body) c.args.items.now
    (patterns_of (map view_pattern c.in-Ok.ps.items)) (view_pattern c.in_ok-new-in-Ok.field-0.value) c.in_default.len_at_least (ap
    view_pattern c.in_ok-new-in-Ok.ensures.ok ∙ view_pattern-Tuple c.in-Ok.ps) c.in-Ok.ensures.typed

pub assigning::grouped_pattern-returns-in-Err-clause-refused : goal.assigning::grouped_pattern-returns-in-Err-clause-refused
assigning::grouped_pattern-returns-in-Err-clause-refused t c =
    several_patterns_fail (view_context c.args.context.now) (view_body c.args.body.now) c.args.items.now c.in-Err.fault.cause
    c.in_default.len_at_least c.in-Err.ensures.refused

pub assigning::pattern-returns-in_ok-new-in-Nil-clause-typed : goal.assigning::pattern-returns-in_ok-new-in-Nil-clause-typed
assigning::pattern-returns-in_ok-new-in-Nil-clause-typed t c =
    nil_pattern (view_context c.args.context.now) (view_body c.args.body.now) (source.view_expr c.args.e.now) (view_pattern
    c.in_ok-new-in-Nil.field-0.value) (ap source.view_expr c.in-Nil.is ∙ view_expr-Nil c.in-Nil.span) (ap view_pattern
    c.in_ok-new-in-Nil.ensures.ok ∙ view_pattern-Nothing)

pub assigning::pattern-returns-in-Ok : goal.assigning::pattern-returns-in-Ok
assigning::pattern-returns-in-Ok t c =
    record {
      typed = place_typed c.place_pattern.result (view_context c.args.context.now) (view_body c.args.body.now) (view_body
          c.target.new.body) (source.view_expr c.args.e.now) (view_expr c.in-Ok.x.value) (no_pattern_form c.args.e.now c.in_default.not-Nil
          c.in_default.not-Group) c.in-Ok.ensures.typed c.place_pattern.ensures.typed;
      refused = by_rule c.place_pattern.result
          c.place_pattern.ensures.refused (λ f h. no_place_fails (view_context c.args.context.now) (view_body c.args.body.now) f
          (source.view_expr c.args.e.now) (view_expr c.in-Ok.x.value) (view_body c.target.new.body) (no_pattern_form c.args.e.now
          c.in_default.not-Nil c.in_default.not-Group) c.in-Ok.ensures.typed h);
    }

pub assigning::pattern-returns-in-Err : goal.assigning::pattern-returns-in-Err
assigning::pattern-returns-in-Err t c =
    record {
      typed = tt;
      refused = no_left_fails (view_context c.args.context.now) (view_body c.args.body.now) c.in-Err.fault.cause
          (source.view_expr c.args.e.now) (no_pattern_form c.args.e.now c.in_default.not-Nil c.in_default.not-Group) c.in-Err.ensures.refused;
    }

pub assigning::patterns-returns-in-Err-clause-refused : goal.assigning::patterns-returns-in-Err-clause-refused
assigning::patterns-returns-in-Err-clause-refused t c =
    patterned_fails (view_context c.args.context.now) (view_body c.args.body.now) (view_body c.loop-e.body) c.args.es.now c.loop-e.e-index
    c.loop-e.ps.items c.e-item.result c.in-Err.fault.cause c.loop-e-test.true (subst (λ (e : code_expr.Expr). FailsBy c.in-Err.fault.cause
    (FailsPattern (view_context c.args.context.now) (view_body c.loop-e.body) (source.view_expr e))) c.e-item.is c.in-Err.ensures.refused)
    c.loop-e.invariant

pub assigning::patterns-loop-e-preserved : goal.assigning::patterns-loop-e-preserved
assigning::patterns-loop-e-preserved t c =
    subst (λ (zs : List code_pattern.Pattern). Patterned (view_context c.args.context.now) (view_body c.args.body.now) (view_body
    c.pattern.new.body) c.args.es.now (c.loop-e.e-index + 1) zs) (sym (c.in_ok-push-in-Ok.ensures.items ∙ ap (λ (x :
    code_pattern.Pattern). c.loop-e.ps.items ++ x ∷ []) c.into_inner.ensures)) (patterned_more (view_context c.args.context.now)
    (view_body c.args.body.now) (view_body c.loop-e.body) (view_body c.pattern.new.body) c.args.es.now c.loop-e.e-index c.loop-e.ps.items
    c.e-item.result c.in-Ok.p.value c.loop-e-test.true (subst (λ (e : code_expr.Expr). IsPattern (view_context c.args.context.now)
    (view_body c.loop-e.body) (source.view_expr e) (view_pattern c.in-Ok.p.value) (view_body c.pattern.new.body)) c.e-item.is
    c.in-Ok.ensures.typed) c.loop-e.invariant)

pub assigning::patterns-returns-clause-typed : goal.assigning::patterns-returns-clause-typed
assigning::patterns-returns-clause-typed t c =
    patterned_end (view_context c.args.context.now) (view_body c.args.body.now) (view_body c.loop-e.body) c.args.es.now c.loop-e.e-index
    c.loop-e.ps.items c.loop-e-test.false c.loop-e.invariant

pub targets::target-returns-in-Some-clause-typed : goal.targets::target-returns-in-Some-clause-typed
targets::target-returns-in-Some-clause-typed t c =
    enclosed_target c.target.result (view_context c.args.context.now) (view_body c.args.body.now) (view_body c.target.new.body)
    (source.view_expr c.args.e.now) (source.view_expr c.in-Some.item.now) c.in-Some.ensures.found c.target.ensures.typed

pub targets::target-returns-in-Some-clause-refused : goal.targets::target-returns-in-Some-clause-refused
targets::target-returns-in-Some-clause-refused t c =
    enclosed_target_fails c.target.result (view_context c.args.context.now) (view_body c.args.body.now) (source.view_expr c.args.e.now)
    (source.view_expr c.in-Some.item.now) c.in-Some.ensures.found c.target.ensures.refused

pub targets::target-returns-else-is_name-clause-refused : goal.targets::target-returns-else-is_name-clause-refused
targets::target-returns-else-is_name-clause-refused t c =
    by_rule c.value.result c.value.ensures.refused (λ f h. unnamed_place_fails (view_context c.args.context.now) (view_body
    c.args.body.now) f (source.view_expr c.args.e.now) (sym c.is_name.ensures ∙ c.if-is_name.false) c.in-None.ensures.none h)

pub targets::named_target-returns-in-Err-clause-refused : goal.targets::named_target-returns-in-Err-clause-refused
targets::named_target-returns-in-Err-clause-refused t c =
    named_place_fails (view_context c.args.context.now) (view_body c.args.body.now) c.in-Err.fault.cause (source.view_expr c.args.e.now)
    c.requires.named c.in-Err.ensures.refused

pub targets::named_target-returns-in-Ok-its_value-clause-typed : goal.targets::named_target-returns-in-Ok-its_value-clause-typed
targets::named_target-returns-in-Ok-its_value-clause-typed t c =
    c.standing.ensures.typed (view_body c.args.body.now) (view_body c.denote.new.body) (source.view_expr c.args.e.now) (path_value
    (view_context c.args.context.now) (view_body c.args.body.now) (view_body c.denote.new.body) (source.view_expr c.args.e.now)
    (view_thing c.in-Ok.thing.value) (view_expr c.in-Ok-its_value.x.value) c.requires.named c.in-Ok.ensures.typed
    c.in-Ok-its_value.ensures.typed)

pub targets::named_target-returns-in-Ok-its_value-clause-refused : goal.targets::named_target-returns-in-Ok-its_value-clause-refused
targets::named_target-returns-in-Ok-its_value-clause-refused t c =
    by_rule c.standing.result (c.standing.ensures.refused (view_body c.args.body.now) (view_body c.denote.new.body) (source.view_expr
    c.args.e.now) (path_value (view_context c.args.context.now) (view_body c.args.body.now) (view_body c.denote.new.body)
    (source.view_expr c.args.e.now) (view_thing c.in-Ok.thing.value) (view_expr c.in-Ok-its_value.x.value) c.requires.named
    c.in-Ok.ensures.typed c.in-Ok-its_value.ensures.typed)) (λ f h. named_value_fails (view_context c.args.context.now) (view_body
    c.args.body.now) f (source.view_expr c.args.e.now) (view_thing c.in-Ok.thing.value) (view_expr c.in-Ok-its_value.x.value)
    (view_body c.denote.new.body) c.requires.named c.in-Ok.ensures.typed c.in-Ok-its_value.ensures.typed h)

pub targets::named_target-returns-in-Err-its_value-clause-refused : goal.targets::named_target-returns-in-Err-its_value-clause-refused
targets::named_target-returns-in-Err-its_value-clause-refused t c =
    no_named_place (view_context c.args.context.now) (view_body c.args.body.now) c.in-Err-its_value.fault.cause (source.view_expr
    c.args.e.now) (view_thing c.in-Ok.thing.value) (view_body c.denote.new.body) c.requires.named c.in-Ok.ensures.typed
    c.in-Err-its_value.ensures.refused

pub forms::form-returns-in-Group-clause-typed : goal.forms::form-returns-in-Group-clause-typed
forms::form-returns-in-Group-clause-typed t c = grind (arith, view_expr-Group)

pub forms::form-returns-in-Group-clause-refused : goal.forms::form-returns-in-Group-clause-refused
forms::form-returns-in-Group-clause-refused t c = grind (arith, view_expr-Group)

pub forms::form-returns-in-Listed-clause-typed : goal.forms::form-returns-in-Listed-clause-typed
forms::form-returns-in-Listed-clause-typed t c = grind (arith, view_expr-Listed)

pub forms::form-returns-in-Listed-clause-refused : goal.forms::form-returns-in-Listed-clause-refused
forms::form-returns-in-Listed-clause-refused t c = grind (arith, view_expr-Listed)

pub forms::form-returns-in-Unary-clause-typed : goal.forms::form-returns-in-Unary-clause-typed
forms::form-returns-in-Unary-clause-typed t c = grind (arith, view_expr-Unary)

pub forms::form-returns-in-Unary-clause-refused : goal.forms::form-returns-in-Unary-clause-refused
forms::form-returns-in-Unary-clause-refused t c = grind (arith, view_expr-Unary)

pub forms::form-returns-in-Postfix-clause-typed : goal.forms::form-returns-in-Postfix-clause-typed
forms::form-returns-in-Postfix-clause-typed t c = grind (arith, view_expr-Postfix)

pub forms::form-returns-in-Postfix-clause-refused : goal.forms::form-returns-in-Postfix-clause-refused
forms::form-returns-in-Postfix-clause-refused t c = grind (arith, view_expr-Postfix)

pub forms::form-returns-in-Bytes-clause-typed : goal.forms::form-returns-in-Bytes-clause-typed
forms::form-returns-in-Bytes-clause-typed t c = grind (arith, view_expr-Bytes)

pub forms::form-returns-in-Bytes-clause-refused : goal.forms::form-returns-in-Bytes-clause-refused
forms::form-returns-in-Bytes-clause-refused t c = grind (arith, view_expr-Bytes)

pub forms::form-returns-in-Binary-clause-typed : goal.forms::form-returns-in-Binary-clause-typed
forms::form-returns-in-Binary-clause-typed t c = grind (arith, view_expr-Binary)

pub forms::form-returns-in-Binary-clause-refused : goal.forms::form-returns-in-Binary-clause-refused
forms::form-returns-in-Binary-clause-refused t c = grind (arith, view_expr-Binary)

pub forms::form-returns-in-Index-clause-typed : goal.forms::form-returns-in-Index-clause-typed
forms::form-returns-in-Index-clause-typed t c = grind (arith, view_expr-Index)

pub forms::form-returns-in-Index-clause-refused : goal.forms::form-returns-in-Index-clause-refused
forms::form-returns-in-Index-clause-refused t c = grind (arith, view_expr-Index)

pub forms::form-returns-in-Slice-clause-typed : goal.forms::form-returns-in-Slice-clause-typed
forms::form-returns-in-Slice-clause-typed t c = grind (arith, view_expr-Slice)

pub forms::form-returns-in-Slice-clause-refused : goal.forms::form-returns-in-Slice-clause-refused
forms::form-returns-in-Slice-clause-refused t c = grind (arith, view_expr-Slice)

pub forms::form-returns-in-Sized-clause-typed : goal.forms::form-returns-in-Sized-clause-typed
forms::form-returns-in-Sized-clause-typed t c = grind (arith, view_expr-Sized)

pub forms::form-returns-in-Sized-clause-refused : goal.forms::form-returns-in-Sized-clause-refused
forms::form-returns-in-Sized-clause-refused t c = grind (arith, view_expr-Sized)

pub forms::form-returns-in-Channel-clause-typed : goal.forms::form-returns-in-Channel-clause-typed
forms::form-returns-in-Channel-clause-typed t c = grind (arith, view_expr-Channel)

pub forms::form-returns-in-Channel-clause-refused : goal.forms::form-returns-in-Channel-clause-refused
forms::form-returns-in-Channel-clause-refused t c = grind (arith, view_expr-Channel)

pub forms::form-returns-in-Filled-clause-typed : goal.forms::form-returns-in-Filled-clause-typed
forms::form-returns-in-Filled-clause-typed t c = grind (arith, view_expr-Filled)

pub forms::form-returns-in-Filled-clause-refused : goal.forms::form-returns-in-Filled-clause-refused
forms::form-returns-in-Filled-clause-refused t c = grind (arith, view_expr-Filled)

pub forms::form-returns-in-Load-clause-typed : goal.forms::form-returns-in-Load-clause-typed
forms::form-returns-in-Load-clause-typed t c = grind (arith, view_expr-Load)

pub forms::form-returns-in-Load-clause-refused : goal.forms::form-returns-in-Load-clause-refused
forms::form-returns-in-Load-clause-refused t c = grind (arith, view_expr-Load)

pub forms::form-returns-in-Assign-clause-typed : goal.forms::form-returns-in-Assign-clause-typed
forms::form-returns-in-Assign-clause-typed t c = grind (arith, view_expr-Assign)

pub forms::form-returns-in-Assign-clause-refused : goal.forms::form-returns-in-Assign-clause-refused
forms::form-returns-in-Assign-clause-refused t c = grind (arith, view_expr-Assign)

pub naming::denote-returns-in-Arrow-clause-typed : goal.naming::denote-returns-in-Arrow-clause-typed
naming::denote-returns-in-Arrow-clause-typed t c = grind (arith, view_expr-Arrow)

pub naming::denote-returns-in-Arrow-clause-refused : goal.naming::denote-returns-in-Arrow-clause-refused
naming::denote-returns-in-Arrow-clause-refused t c = grind (arith, view_expr-Arrow)

pub naming::denote-returns-in-Dot-clause-typed : goal.naming::denote-returns-in-Dot-clause-typed
naming::denote-returns-in-Dot-clause-typed t c = grind (arith, view_expr-Dot)

pub naming::denote-returns-in-Dot-clause-refused : goal.naming::denote-returns-in-Dot-clause-refused
naming::denote-returns-in-Dot-clause-refused t c = grind (arith, view_expr-Dot)

pub assigning::pattern-returns-in-Group-clause-typed : goal.assigning::pattern-returns-in-Group-clause-typed
assigning::pattern-returns-in-Group-clause-typed t c = grind (arith, view_expr-Group)

pub assigning::pattern-returns-in-Group-clause-refused : goal.assigning::pattern-returns-in-Group-clause-refused
assigning::pattern-returns-in-Group-clause-refused t c = grind (arith, view_expr-Group)
