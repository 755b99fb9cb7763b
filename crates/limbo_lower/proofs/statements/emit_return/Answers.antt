use Rattle.std.proofs.Common.{arith, ◌∷◌, ◌++◌, [], sym, ap, ◌∙◌, max, append_assoc, Some}
use Rattle.limbo_typed.specs.View.{view_expr, view_boxed}
use Rattle.limbo_typed.proofs.View.{view_boxed-None, view_boxed-Some}
use Rattle.limbo_meaning.specs.Program.{term_of, return_of}
use Rattle.core_code.specs.Code.{Return}
use Rattle.core_code.specs.Terms as terms
use Rattle.core_code.specs.Terms.{lower}
use Rattle.core_code.specs.Statements.{stm_code, stm_slots}
use Rattle.core_parts.specs.Lowered.{code_of}
use Rattle.core_frames.specs.Sizes.{expr_size, some_size}
use Rattle.limbo_lower.specs.Loops.{defs_in}
use Rattle.limbo_lower.specs.Written.{written}
use Rattle.limbo_lower.proofs.statements.emit_return.Goals as goal

pub lowered-requires : goal.lowered-requires
lowered-requires c =
    let size = ap (some_size (defs_in c.args.f)) (ap view_boxed c.in-Some.is ∙ view_boxed-Some c.in-Some.e) in
    omega (arith, size, ap (λ x. expr_size (defs_in c.args.f) (view_expr x)) c.deref.ensures, c.requires)

pub returns-in_ok-put-in-None-clause-code : goal.returns-in_ok-put-in-None-clause-code
returns-in_ok-put-in-None-clause-code c = λ around rest.
    c.in_ok-put-in-None.ensures {u = tt}
    ∙ ap (λ x. stm_code (defs_in c.args.f) around rest (return_of x) ++ written c.args.out.now.code.items) (sym (ap view_boxed c.in-None.is
    ∙ view_boxed-None))

pub returns-in_ok-put-in-None-clause-slots : goal.returns-in_ok-put-in-None-clause-slots
returns-in_ok-put-in-None-clause-slots c =
    omega (arith, ap (λ x. stm_slots (defs_in c.args.f) (return_of x)) (ap view_boxed c.in-None.is ∙ view_boxed-None))

pub returns-in_ok-put_all-in-Some-clause-code : goal.returns-in_ok-put_all-in-Some-clause-code
returns-in_ok-put_all-in-Some-clause-code c = λ around rest.
    let d = defs_in c.args.f in
    let l = c.in_ok-code-in-Some.field-0 in
    let base = written c.args.out.now.code.items in
    c.in_ok-put_all-in-Some.ensures {u = tt} ∙ ap (λ xs. code_of l.code.items ++ xs) (c.in_ok-put-in-Some.ensures {u = tt})
    ∙ ap (λ (x : terms.Lowered). x.code ++ Return (Some x.value) ∷ base) (c.in_ok-code-in-Some.ensures {u = tt})
    ∙ sym (append_assoc (lower d 0 (term_of (view_expr c.deref.result.now))).code (Return (Some (lower d 0 (term_of
    (view_expr c.deref.result.now))).value) ∷ []) base)
    ∙ ap (λ x. stm_code d around rest (return_of (Some (view_expr x))) ++ base) c.deref.ensures
    ∙ ap (λ x. stm_code d around rest (return_of x) ++ base) (sym (ap view_boxed c.in-Some.is ∙ view_boxed-Some c.in-Some.e))

pub returns-in_ok-put_all-in-Some-clause-slots : goal.returns-in_ok-put_all-in-Some-clause-slots
returns-in_ok-put_all-in-Some-clause-slots c =
    let d = defs_in c.args.f in
    let old = c.args.out.now.slots in
    c.max-out.ensures ∙ ap (λ (x : terms.Lowered). max old x.free) (c.in_ok-code-in-Some.ensures {u = tt})
    ∙ ap (λ x. max old (stm_slots d (return_of (Some (view_expr x))))) c.deref.ensures
    ∙ ap (λ x. max old (stm_slots d (return_of x))) (sym (ap view_boxed c.in-Some.is ∙ view_boxed-Some c.in-Some.e))
