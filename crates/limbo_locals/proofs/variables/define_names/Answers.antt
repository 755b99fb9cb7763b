use Rattle.std.proofs.Common.{◌≡◌, Some, Option, length, sym, ap, subst, ◌∙◌}
use Rattle.std.specs.Prelude.{IfOk}
use Rattle.limbo_types.specs.Types.{Ty}
use Rattle.limbo_types.specs.View.{view_ty}
use Rattle.limbo_tree.specs.Decls as decls
use Rattle.limbo_tree.specs.View as source
use Rattle.limbo_tree.specs.View.{names_of}
use Rattle.limbo_typed.specs.declared.expr.TExpr as code_typed
use Rattle.limbo_typed.specs.Typed.{Expr, Declare}
use Rattle.limbo_typed.specs.Sound.{type_of, IsSettled}
use Rattle.limbo_typed.specs.View.{view_expr, view_stmt}
use Rattle.limbo_typed.proofs.View.{view_boxed-Some}
use Rattle.limbo_causes.specs.Causes.{FailsBy, Refused}
use Rattle.limbo_context.specs.View.{view_context, view_body}
use Rattle.limbo_exprs.specs.limbo_value_forms.Forms.{itself}
use Rattle.limbo_local.specs.Points.{numbers}
use Rattle.limbo_locals.specs.Named.{AreFree, with_variables_in}
use Rattle.limbo_locals.specs.Anywhere.{DeclaresAt}
use Rattle.limbo_locals.proofs.Rules.{by_rule, begun_as}
use Rattle.limbo_locals.proofs.Rules.{defined_fails, open_fails, definition_declares, defined_again, typed_as}
use Rattle.limbo_locals.proofs.variables.define_names.Goals as goal

pub returns-in-Err-clause-refused : goal.returns-in-Err-clause-refused
returns-in-Err-clause-refused c =
    defined_fails (view_context c.args.context.now) (view_body c.args.body.now) c.in-Err.fault.cause (names_of c.args.names.now)
    (source.view_expr c.args.e.now) c.in-Err.ensures.refused

pub returns-in-Err-settled-clause-refused : goal.returns-in-Err-settled-clause-refused
returns-in-Err-settled-clause-refused c =
    open_fails (view_context c.args.context.now) (view_body c.args.body.now) c.in-Err-settled.fault.cause (names_of c.args.names.now)
    (source.view_expr c.args.e.now) (view_expr c.in-Ok.x.value) (view_body c.value.new.body) c.in-Ok.ensures.typed (subst (λ (y :
    code_typed.TExpr). FailsBy c.in-Err-settled.fault.cause (λ k. (k ≡ Refused (itself (view_expr y))) × (IsSettled (type_of (view_expr
    y)) → ⊥))) c.deref.ensures c.in-Err-settled.ensures.refused)

pub returns-in_ok-t-in-Ok-settled-clause-declares : goal.returns-in_ok-t-in-Ok-settled-clause-declares
returns-in_ok-t-in-Ok-settled-clause-declares c =
    begun_as c.begin_variables.result (λ z. DeclaresAt (view_context c.args.context.now) (view_body c.args.body.now) (decls.Define
    (names_of c.args.names.now) (source.view_expr c.args.e.now)) z (view_context c.args.context.now) (view_body
    c.begin_variables.new.body)) ((view_body c.begin_variables.new.body) ≡ with_variables_in (names_of c.args.names.now) (type_of
    (view_expr c.in-Ok.x.value)) (view_body c.value.new.body)) (AreFree (names_of c.args.names.now) (view_body c.value.new.body).scopes)
    (Declare (numbers (length (view_body c.value.new.body).variables) (names_of c.args.names.now)) (Some (view_expr c.in-Ok.x.value)))
    (subst (λ (o : Option Expr). IfOk c.begin_variables.result (λ z. view_stmt z.value ≡ Declare (numbers (length (view_body
    c.value.new.body).variables) (names_of c.args.names.now)) o)) (view_boxed-Some c.in-Ok.x) c.begin_variables.ensures.begun) (subst (λ
    (t : Ty). IfOk c.begin_variables.result (λ _. (view_body c.begin_variables.new.body) ≡ with_variables_in (names_of c.args.names.now) t
    (view_body c.value.new.body))) (c.in_ok-t-in-Ok-settled.ensures ∙ ap (λ (y : code_typed.TExpr). view_ty y.ty)
    c.deref-in-Ok-settled.ensures ∙ sym (typed_as c.in-Ok.x.value)) c.begin_variables.ensures.declared) c.begin_variables.ensures.free (λ
    z is d f. definition_declares (view_context c.args.context.now) (view_body c.args.body.now) (names_of c.args.names.now)
    (source.view_expr c.args.e.now) (view_expr c.in-Ok.x.value) z (view_body c.value.new.body) (view_body c.begin_variables.new.body)
    c.in-Ok.ensures.typed (subst (λ (y : code_typed.TExpr). IsSettled (type_of (view_expr y))) c.deref.ensures
    c.in-Ok-settled.ensures.settled) f is d)

pub returns-in_ok-t-in-Ok-settled-clause-refused : goal.returns-in_ok-t-in-Ok-settled-clause-refused
returns-in_ok-t-in-Ok-settled-clause-refused c =
    by_rule c.begin_variables.result c.begin_variables.ensures.refused (λ f h. defined_again (view_context c.args.context.now) (view_body
    c.args.body.now) f (names_of c.args.names.now) (source.view_expr c.args.e.now) (view_expr c.in-Ok.x.value) (view_body
    c.value.new.body) c.in-Ok.ensures.typed h)
