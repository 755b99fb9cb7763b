use Rattle.std.proofs.Common.{arith, rules, ◌≡◌, ◌+◌, ◌-◌, suc, pos, List, [], ◌∷◌, length, sym, ap, ◌∙◌, add-one}
use Rattle.std.specs.Prelude.{option_map}
use Rattle.limbo_typed.specs.View.{view_expr, view_exprs}
use Rattle.typed_meaning.specs.Trees.{MoreTerms}
use Rattle.typed_meaning.specs.Program.{terms_of}
use Rattle.slot_code.specs.Code.{Hand, Skip, Number, Inst}
use Rattle.slot_code.specs.View.{view_spot, view_operand}
use Rattle.typed_lower.specs.Terms.{branches}
use Rattle.slot_writing.specs.Operands.{ready_at}
use Rattle.slot_writing.specs.Terms.{view_term, view_variable, view_taker, argument, arguments}
use Rattle.slot_writing.specs.Weights.{weight, weights}
use Rattle.slot_writing.specs.Written.{written}
use Rattle.slot_writing.proofs.Emission.{connected_code, compared_code, rest_code, first_calls, made_code, two_applied, store_code}
use Rattle.slot_writing.proofs.Emission.{update_code}
use Rattle.slot_writing.proofs.Emission.{call_code, print_code}
use Rattle.slot_writing.proofs.Looping.{longer}
use Rattle.slot_writing.proofs.Parts.{passed_most}
use Rattle.slot_writing.proofs.Weighed.{weight_least, arguments_more, count_terms, count_printed}
use Rattle.slot_writing.proofs.expressions.+expressions.Goals as goal

pub emit_applied-returns-in-Two : goal.emit_applied-returns-in-Two
emit_applied-returns-in-Two t c =
    let same = two_applied c.args.operation c.args.d (view_spot c.args.into) _ _ _ _ (terms_of (view_exprs c.args.args.now))
    (written c.args.code.now.items) c.term_of-in-Two.ensures c.term_of-in-Two-2.ensures c.in-Two.ensures in
    rw (← same) c.emit_operated.ensures

pub emit_arguments-returns-in_ok-emit_rest-in-Some : goal.emit_arguments-returns-in_ok-emit_rest-in-Some
emit_arguments-returns-in_ok-emit_rest-in-Some t c =
    let k = c.args.taker in
    let at : c.args.args.now ≡ c.in-Some.e.now ∷ c.in-Some.rest.now = search rules in
    let more : arguments k (view_exprs c.args.args.now) ≡ MoreTerms (view_term c.argument.result) (arguments k
    (view_exprs c.in-Some.rest.now)) =
    ap (λ xs. arguments k (view_exprs xs)) at ∙ arguments_more k (view_expr c.in-Some.e.now) (view_exprs c.in-Some.rest.now)
    ∙ ap (λ x. MoreTerms x (arguments k (view_exprs c.in-Some.rest.now))) (sym c.argument.ensures) in
    let same = made_code (view_term c.argument.result) (arguments k (view_exprs c.in-Some.rest.now)) (arguments k
    (view_exprs c.args.args.now))
    (view_taker k) c.args.d _ (written c.args.code.now.items) more (c.in_ok-emit_rest-in-Some.ensures {u = tt}) in
    rw (← same) c.emit_first.ensures

pub emit_branches-returns-in_ok-put_branch-in-Compared : goal.emit_branches-returns-in_ok-put_branch-in-Compared
emit_branches-returns-in_ok-put_branch-in-Compared t c =
    let r = view_term c.term_of-right.result in
    let same = compared_code c.in-Compared.comparison c.in-Compared.kind (view_term c.term_of-left.result) r _ _ (view_term c.args.term)
    c.args.where_true c.args.d c.args.passes (view_operand c.operand_at-first.result) (view_operand c.operand_at-second.result) _
    (written c.args.code.now.items) c.term_of-left.ensures c.term_of-right.ensures c.in-Compared.ensures
    (c.in_ok-put_branch-in-Compared.ensures {u = tt})
    (c.operand_at-first.ensures ∙ ap (λ x. (ready_at c.args.d (view_term c.term_of-left.result) x).operand) c.standing.ensures)
    (c.operand_at-second.ensures ∙ ap (λ n. (ready_at n r (option_map view_operand c.taken.result)).operand) (add-one c.args.d)
    ∙ ap (λ x. (ready_at (suc c.args.d) r x).operand) c.taken.ensures) in
    rw (← same) c.emit_operands.ensures

pub emit_connected-overflow_sub-len : goal.emit_connected-overflow_sub-len
emit_connected-overflow_sub-len t c =
    let long = longer c.emit_branches.new.code.items c.args.code.now.items
    (branches c.args.where_true c.args.d (view_term c.args.right) c.args.passes) (c.in_ok-emit_branches.ensures {u = tt}) in
    omega (arith, long, c.emit_branches.new.code.ok.0, c.args.code.now.ok.0)

pub emit_connected-emit_branches-requires-2 : goal.emit_connected-emit_branches-requires-2
emit_connected-emit_branches-requires-2 t c =
    let long = longer c.emit_branches.new.code.items c.args.code.now.items
    (branches c.args.where_true c.args.d (view_term c.args.right) c.args.passes) (c.in_ok-emit_branches.ensures {u = tt}) in
    let most = passed_most c.args.connective c.args.where_true (c.len.result - c.len-mark.result) c.args.passes in
    (omega arith, (omega arith, omega (arith, long, most, c.passed-through.ensures, c.emit_branches.new.code.ok.0, c.args.code.now.ok.0)))

pub emit_connected-returns : goal.emit_connected-returns
emit_connected-returns t c =
    let x = branches c.args.where_true c.args.d (view_term c.args.right) c.args.passes in
    let long = longer c.emit_branches.new.code.items c.args.code.now.items x (c.in_ok-emit_branches.ensures {u = tt}) in
    let m : c.len.result - c.len-mark.result ≡ length x = omega (arith, long, c.emit_branches.new.code.ok.0, c.args.code.now.ok.0) in
    let same = connected_code c.args.connective (view_term c.args.left) (view_term c.args.right) c.args.where_true c.decides.result c.args.d
    c.args.passes (c.len.result - c.len-mark.result) c.passed-through.result _ (written c.args.code.now.items)
    (c.in_ok-emit_branches.ensures {u = tt}) m c.decides.ensures c.passed-through.ensures in
    rw (← same) c.emit_branches-2.ensures

pub emit_first-returns-in_ok-put_taker : goal.emit_first-returns-in_ok-put_taker
emit_first-returns-in_ok-put_taker t c =
    let same = first_calls (view_term c.args.term) c.kind_in-kind.result (c.args.d + 1) c.args.d
    (view_taker c.args.taker) c.makes_call.result _
    (written c.args.code.now.items) c.if-makes_call.true c.makes_call.ensures c.kind_in-kind.ensures (add-one c.args.d)
    (c.in_ok-put_taker.ensures {u = tt} ∙ ap (λ (xs : List Inst). view_taker c.args.taker ∷ xs) (c.in_ok-put.ensures {u = tt})) in
    rw (← same) c.emit_value.ensures

pub emit_rest-emit_rest-requires : goal.emit_rest-emit_rest-requires
emit_rest-emit_rest-requires t c =
    let k = c.args.taker in
    let at : c.args.args.now ≡ c.in-Some.e.now ∷ c.in-Some.rest.now = search rules in
    let more = ap weights (ap (λ xs. arguments k (view_exprs xs)) at
    ∙ arguments_more k (view_expr c.in-Some.e.now) (view_exprs c.in-Some.rest.now)) in
    let least = weight_least (argument k (view_expr c.in-Some.e.now)) in
    (omega (arith, more, least), (omega (arith, more, least), omega (arith, more, least)))

pub emit_rest-returns-in_ok-emit_rest-in-Some : goal.emit_rest-returns-in_ok-emit_rest-in-Some
emit_rest-returns-in_ok-emit_rest-in-Some t c =
    let k = c.args.taker in
    let at : c.args.args.now ≡ c.in-Some.e.now ∷ c.in-Some.rest.now = search rules in
    let more : arguments k (view_exprs c.args.args.now)
    ≡ MoreTerms (view_term c.argument-term.result) (arguments k (view_exprs c.in-Some.rest.now)) =
    ap (λ xs. arguments k (view_exprs xs)) at ∙ arguments_more k (view_expr c.in-Some.e.now) (view_exprs c.in-Some.rest.now)
    ∙ ap (λ x. MoreTerms x (arguments k (view_exprs c.in-Some.rest.now))) (sym c.argument-term.ensures) in
    let same = rest_code (view_term c.argument-term.result) (arguments k (view_exprs c.in-Some.rest.now))
    (arguments k (view_exprs c.args.args.now)) c.kind_in-kind.result c.args.number (c.args.number + 1) c.args.d _
    (written c.args.code.now.items) more c.kind_in-kind.ensures (add-one c.args.number) (c.in_ok-emit_rest-in-Some.ensures {u = tt}) in
    rw (← same) c.emit_value.ensures

pub emit_value-emit_connected-requires : goal.emit_value-emit_connected-requires
emit_value-emit_connected-requires t c =
    let size = ap (λ x. weight (view_term x)) c.in-Lazy.is in
    let left = ap weight c.term_of-in-Lazy.ensures in
    let right = ap weight c.term_of-in-Lazy-2.ensures in
    let s = view_spot c.args.into in
    let long = longer c.put_truth.new.code.items c.args.code.now.items
    (Hand s (Number (pos 1)) ∷ Skip 1 ∷ Hand s (Number (pos 0)) ∷ []) (c.in_ok-put_truth-in-Lazy.ensures {u = tt}) in
    (omega (arith, size, left, right), (omega (arith, size, left, right), omega (arith, long, c.put_truth.new.code.ok.0)))

pub emit_value-returns-in_ok-put_kept-in-Store : goal.emit_value-returns-in_ok-put_kept-in-Store
emit_value-returns-in_ok-put_kept-in-Store t c =
    let same = store_code (view_variable c.in-Store.variable) (view_term c.term_of-value.result) _
    (view_term c.args.term) c.kind_in-kind.result
    (c.args.d + 1) c.args.d (view_spot c.spot.result) (view_spot c.args.into) _ (written c.args.code.now.items) c.term_of-value.ensures
    (ap view_term c.in-Store.is) c.kind_in-kind.ensures (add-one c.args.d) c.spot.ensures (c.in_ok-put_kept-in-Store.ensures {u = tt}) in
    rw (← same) c.emit_value.ensures

pub emit_value-returns-in_ok-put_kept-in-Update : goal.emit_value-returns-in_ok-put_kept-in-Update
emit_value-returns-in_ok-put_kept-in-Update t c =
    let same = update_code c.in-Update.operation (view_variable c.in-Update.variable) (view_term c.term_of-in-Update.result) _
    (view_term c.args.term) c.kind-kind.result c.args.d (view_spot c.spot-in-Update.result) (view_spot c.args.into) _
    (written c.args.code.now.items) c.term_of-in-Update.ensures (ap view_term c.in-Update.is) c.kind-kind.ensures
    c.spot-in-Update.ensures (c.in_ok-put_kept-in-Update.ensures {u = tt}) in
    rw (← same) c.emit_operated.ensures

pub emit_value-returns-in_ok-put-in-Call : goal.emit_value-returns-in_ok-put-in-Call
emit_value-returns-in_ok-put-in-Call t c =
    let es = c.in-Call.args.now in
    let same = call_code _ c.in-Call.function (length es) (terms_of (view_exprs es)) (view_term c.args.term) c.kind_of-kind.result
    c.args.d (view_spot c.args.into) _ (written c.args.code.now.items) (ap view_term c.in-Call.is) c.kind_of-kind.ensures
    (sym (count_terms es)) (c.in_ok-put-in-Call.ensures {u = tt}) in
    rw (← same) c.emit_arguments.ensures

pub emit_value-returns-in_ok-put_answer-in-Print : goal.emit_value-returns-in_ok-put_answer-in-Print
emit_value-returns-in_ok-put_answer-in-Print t c =
    let es = c.in-Print.args.now in
    let same = print_code c.in-Print.format.now (length es) _ (view_term c.args.term) c.args.d (view_spot c.args.into) _
    (written c.args.code.now.items) (ap view_term c.in-Print.is) (sym (count_printed es))
    (c.in_ok-put_answer-in-Print.ensures {u = tt}) in
    rw (← same) c.emit_arguments-in-Print.ensures
