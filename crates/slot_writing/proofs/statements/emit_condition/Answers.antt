use Rattle.std.proofs.Common.{arith, false, ◌++◌, sym, ap, ◌∙◌}
use Rattle.limbo_typed.specs.View.{view_expr, view_boxed}
use Rattle.limbo_typed.proofs.View.{view_boxed-None, view_boxed-Some}
use Rattle.typed_meaning.specs.Program.{term_of}
use Rattle.typed_lower.specs.Sizes.{optional_size}
use Rattle.typed_lower.specs.Statements.{condition}
use Rattle.typed_lower.specs.Terms.{branches}
use Rattle.slot_writing.specs.Weights.{weight}
use Rattle.slot_writing.specs.Written.{written}
use Rattle.slot_writing.proofs.Weighed.{weight_size}
use Rattle.slot_writing.proofs.statements.emit_condition.Goals as goal

pub emit_branches-requires-clause-room : goal.emit_branches-requires-clause-room
emit_branches-requires-clause-room c =
    let same = ap weight (c.term_of.ensures ∙ ap (λ x. term_of (view_expr x)) c.deref.ensures) in
    let size = ap optional_size (ap view_boxed c.in-Some.is ∙ view_boxed-Some c.in-Some.e) in
    omega (arith, same, size, weight_size (view_expr c.in-Some.e.value))

pub returns-in-None : goal.returns-in-None
returns-in-None c =
    ap (λ x. condition x c.args.passes ++ written c.args.code.now.items) (sym (ap view_boxed c.in-None.is ∙ view_boxed-None))

pub returns-in-Some : goal.returns-in-Some
returns-in-Some c =
    let base = written c.args.code.now.items in
    let n = c.args.passes in
    let same = ap (λ t. branches false 0 t n ++ base) (c.term_of.ensures ∙ ap (λ x. term_of (view_expr x)) c.deref.ensures)
    ∙ ap (λ x. condition x n ++ base) (sym (ap view_boxed c.in-Some.is ∙ view_boxed-Some c.in-Some.e)) in
    rw (← same) c.emit_branches.ensures
