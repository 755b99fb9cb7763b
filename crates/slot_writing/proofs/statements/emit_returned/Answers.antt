use Rattle.std.proofs.Common.{arith, ◌++◌, sym, ap, ◌∙◌}
use Rattle.limbo_typed.specs.View.{view_expr, view_boxed}
use Rattle.limbo_typed.proofs.View.{view_boxed-None, view_boxed-Some}
use Rattle.slot_code.specs.View.{view_operand}
use Rattle.typed_meaning.specs.Program.{term_of}
use Rattle.typed_lower.specs.Sizes.{optional_size}
use Rattle.typed_lower.specs.Statements.{returned}
use Rattle.slot_writing.specs.Terms.{view_term}
use Rattle.slot_writing.specs.Weights.{weight}
use Rattle.slot_writing.specs.Written.{written}
use Rattle.slot_writing.proofs.Declared.{returned_code}
use Rattle.slot_writing.proofs.Weighed.{weight_size}
use Rattle.slot_writing.proofs.statements.emit_returned.Goals as goal

pub emit_ready-requires : goal.emit_ready-requires
emit_ready-requires c =
    let same = ap weight (c.term_of-term.ensures ∙ ap (λ x. term_of (view_expr x)) c.deref.ensures) in
    let size = ap optional_size (ap view_boxed c.in-Some.is ∙ view_boxed-Some c.in-Some.e) in
    omega (arith, same, size, weight_size (view_expr c.in-Some.e.value))

pub returns-in-None : goal.returns-in-None
returns-in-None c =
    let same = ap (λ x. returned x ++ written c.args.code.now.items) (sym (ap view_boxed c.in-None.is ∙ view_boxed-None)) in
    rw (← same) c.put.ensures

pub returns-in_ok-put-in-Some : goal.returns-in_ok-put-in-Some
returns-in_ok-put-in-Some c =
    let base = written c.args.code.now.items in
    let same = returned_code (view_term c.term_of-term.result) (term_of (view_expr c.in-Some.e.value)) _
    (view_operand c.operand_at-value.result) _ base
    (c.term_of-term.ensures ∙ ap (λ x. term_of (view_expr x)) c.deref.ensures) c.leaf_of-at.ensures c.operand_at-value.ensures
    (c.in_ok-put-in-Some.ensures {u = tt})
    ∙ ap (λ x. returned x ++ base) (sym (ap view_boxed c.in-Some.is ∙ view_boxed-Some c.in-Some.e)) in
    rw (← same) c.emit_ready.ensures
