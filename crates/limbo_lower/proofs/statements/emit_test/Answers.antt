use Rattle.std.proofs.Common.{arith, ◌∷◌, ◌++◌, sym, ap, ◌∙◌, max, append_assoc, [], Some}
use Rattle.limbo_typed.specs.View.{view_expr, view_boxed}
use Rattle.limbo_typed.proofs.View.{view_boxed-None, view_boxed-Some}
use Rattle.limbo_meaning.specs.Program.{term_of, optional}
use Rattle.core_code.specs.Terms.{lower}
use Rattle.core_code.specs.Code.{Unless}
use Rattle.core_code.specs.Statements.{whole_if, test, free_after}
use Rattle.core_frames.specs.Sizes.{expr_size, some_size}
use Rattle.limbo_lower.specs.Loops.{defs_in}
use Rattle.limbo_lower.specs.Written.{written}
use Rattle.limbo_lower.proofs.statements.emit_test.Goals as goal

pub emit_choice-requires : goal.emit_choice-requires
emit_choice-requires c =
    let size = ap (some_size (defs_in c.args.f)) (ap view_boxed c.in-Some.is ∙ view_boxed-Some c.in-Some.e) in
    omega (arith, size, ap (λ x. expr_size (defs_in c.args.f) (view_expr x)) c.deref.ensures, c.requires)

pub returns-in-None-clause-code : goal.returns-in-None-clause-code
returns-in-None-clause-code c =
    ap (λ x. test (defs_in c.args.f) (optional x) c.args.passes ++ written c.args.out.now.code.items) (sym (ap view_boxed c.in-None.is
    ∙ view_boxed-None))

pub returns-in-None-clause-slots : goal.returns-in-None-clause-slots
returns-in-None-clause-slots c =
    omega (arith, ap (λ x. free_after (defs_in c.args.f) (optional x)) (ap view_boxed c.in-None.is ∙ view_boxed-None))

pub returns-in-Some-clause-code : goal.returns-in-Some-clause-code
returns-in-Some-clause-code c =
    let d = defs_in c.args.f in
    let n = c.args.passes in
    let base = written c.args.out.now.code.items in
    let t = term_of (view_expr c.deref.result.now) in
    let same = sym (append_assoc (whole_if d (Some t)) (Unless (lower d 0 t).value n ∷ []) base)
    ∙ ap (λ x. test d (Some (term_of (view_expr x))) n ++ base) c.deref.ensures
    ∙ ap (λ x. test d (optional x) n ++ base) (sym (ap view_boxed c.in-Some.is ∙ view_boxed-Some c.in-Some.e)) in
    rw (← same) c.emit_choice.ensures.code

pub returns-in-Some-clause-slots : goal.returns-in-Some-clause-slots
returns-in-Some-clause-slots c =
    let d = defs_in c.args.f in
    let same = ap (λ x. max c.args.out.now.slots (free_after d (Some (term_of (view_expr x))))) c.deref.ensures
    ∙ ap (λ x. max c.args.out.now.slots (free_after d (optional x))) (sym (ap view_boxed c.in-Some.is ∙ view_boxed-Some c.in-Some.e)) in
    rw (← same) c.emit_choice.ensures.slots
