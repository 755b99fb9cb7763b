use Rattle.std.proofs.Common.{sym, subst}
use Rattle.limbo_tree.specs.View as source
use Rattle.limbo_types.specs.Types.{Ty}
use Rattle.limbo_types.proofs.View.{view_ty-Chars}
use Rattle.limbo_typed.specs.Typed.{Stmt}
use Rattle.limbo_typed.specs.View.{view_expr}
use Rattle.limbo_typed.proofs.View.{view_stmt-Raise}
use Rattle.limbo_standing.specs.Standing.{Settles}
use Rattle.limbo_causes.specs.Causes.{FailsBy}
use Rattle.limbo_context.specs.View.{view_context, view_body}
use Rattle.limbo_stmt_values.specs.limbo_stating.Raising.{Raises, a_string}
use Rattle.limbo_stmt_values.specs.Leading.{point, From}
use Rattle.limbo_stmt_values.specs.Answering.{FailsToAnswer}
use Rattle.limbo_raising.proofs.raising.raise_text.Goals as goal

pub returns-in-Ok-clause-raises : goal.returns-in-Ok-clause-raises
returns-in-Ok-clause-raises c = λ n.
    let p = point (view_context c.args.context.now) (view_body c.args.body.now) n in
    let q = point (view_context c.args.context.now) (view_body c.returned.new.body) n in
    let a = c.in-Ok.ensures.answers n in
    let s = subst (λ (t : Ty). Settles t a.value (view_expr c.in-Ok.x.value)) view_ty-Chars a.settles in
    subst (λ (z : Stmt). Raises p (source.view_expr c.args.e.now) z q) (sym (view_stmt-Raise c.in-Ok.x))
    (a_string (source.view_expr c.args.e.now) a.value (view_expr c.in-Ok.x.value) q a.has s)

pub returns-in-Err-clause-refused : goal.returns-in-Err-clause-refused
returns-in-Err-clause-refused c =
    subst
    (λ (t : Ty).
    FailsBy c.in-Err.fault.cause
    (λ k.
    From (λ p. FailsToAnswer t p (source.view_expr c.args.e.now) k) (view_context c.args.context.now) (view_body c.args.body.now)))
    view_ty-Chars c.in-Err.ensures.refused
