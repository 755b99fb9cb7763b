use Rattle.std.proofs.Common.{◌≡◌, Some, Option, length, subst}
use Rattle.std.specs.Prelude.{IfOk}
use Rattle.limbo_types.specs.declared.ty.Ty as code_ty
use Rattle.limbo_types.specs.View.{view_ty}
use Rattle.limbo_tree.specs.Decls as decls
use Rattle.limbo_tree.specs.View as source
use Rattle.limbo_tree.specs.View.{names_of}
use Rattle.limbo_typed.specs.Typed.{Expr, Declare}
use Rattle.limbo_typed.specs.View.{view_expr, view_stmt}
use Rattle.limbo_typed.proofs.View.{view_boxed-Some}
use Rattle.limbo_causes.specs.Causes.{FailsBy, ByRefusal}
use Rattle.limbo_context.specs.View.{view_context, view_body}
use Rattle.limbo_arguments.specs.Failing as arguments
use Rattle.limbo_standing.specs.Standing.{Settles}
use Rattle.limbo_local.specs.Points.{numbers}
use Rattle.limbo_locals.specs.Named.{AreFree, with_variables_in}
use Rattle.limbo_locals.specs.Anywhere.{DeclaresAt}
use Rattle.limbo_locals.proofs.Rules.{by_rule, begun_as, type_fails, value_fails, unfit_fails, valued_declares}
use Rattle.limbo_locals.proofs.Rules.{valued_again}
use Rattle.limbo_locals.proofs.variables.declare_valued.Goals as goal

pub returns-in-Err-clause-refused : goal.returns-in-Err-clause-refused
returns-in-Err-clause-refused c =
    type_fails (view_context c.args.context.now) (view_body c.args.body.now) c.in-Err.fault.cause (names_of c.args.names.now)
    (source.view_type c.args.of.now) (Some (source.view_expr c.args.e.now)) c.in-Err.ensures.refused

pub returns-in-Err-value-clause-refused : goal.returns-in-Err-value-clause-refused
returns-in-Err-value-clause-refused c =
    value_fails (view_context c.args.context.now) (view_body c.args.body.now) c.in-Err-value.fault.cause (names_of c.args.names.now)
    (source.view_type c.args.of.now) (source.view_expr c.args.e.now) c.in-Err-value.ensures.refused

pub returns-in-Ok-value_as-clause-declares : goal.returns-in-Ok-value_as-clause-declares
returns-in-Ok-value_as-clause-declares c =
    begun_as c.begin_variables.result (λ z. DeclaresAt (view_context c.args.context.now) (view_body c.args.body.now) (decls.Var (names_of
    c.args.names.now) (source.view_type c.args.of.now) (Some (source.view_expr c.args.e.now))) z (view_context c.args.context.now)
    (view_body c.begin_variables.new.body)) ((view_body c.begin_variables.new.body) ≡ with_variables_in (names_of c.args.names.now)
    (view_ty c.in-Ok.t.value) (view_body c.value.new.body)) (AreFree (names_of c.args.names.now) (view_body c.value.new.body).scopes)
    (Declare (numbers (length (view_body c.value.new.body).variables) (names_of c.args.names.now)) (Some (view_expr
    c.in-Ok-value_as.y.value))) (subst (λ (o : Option Expr). IfOk c.begin_variables.result (λ z. view_stmt z.value ≡ Declare (numbers
    (length (view_body c.value.new.body).variables) (names_of c.args.names.now)) o)) (view_boxed-Some c.in-Ok-value_as.y)
    c.begin_variables.ensures.begun) (subst (λ (t : code_ty.Ty). IfOk c.begin_variables.result (λ _. (view_body
    c.begin_variables.new.body) ≡ with_variables_in (names_of c.args.names.now) (view_ty t) (view_body c.value.new.body)))
    c.deref-in-Ok-value_as.ensures c.begin_variables.ensures.declared) c.begin_variables.ensures.free (λ z is d f. valued_declares
    (view_context c.args.context.now) (view_body c.args.body.now) (names_of c.args.names.now) (source.view_type c.args.of.now)
    (source.view_expr c.args.e.now) (view_ty c.in-Ok.t.value) (view_expr c.in-Ok-value.x.value) (view_expr c.in-Ok-value_as.y.value) z
    (view_body c.value.new.body) (view_body c.begin_variables.new.body) c.in-Ok.ensures.means c.in-Ok-value.ensures.typed (subst (λ (t :
    code_ty.Ty). Settles (view_ty t) (view_expr c.in-Ok-value.x.value) (view_expr c.in-Ok-value_as.y.value)) c.deref.ensures
    c.in-Ok-value_as.ensures.settled) f is d)

pub returns-in-Ok-value_as-clause-refused : goal.returns-in-Ok-value_as-clause-refused
returns-in-Ok-value_as-clause-refused c =
    by_rule c.begin_variables.result c.begin_variables.ensures.refused (λ f h. valued_again (view_context c.args.context.now) (view_body
    c.args.body.now) f (names_of c.args.names.now) (source.view_type c.args.of.now) (source.view_expr c.args.e.now) (view_expr
    c.in-Ok-value.x.value) (view_body c.value.new.body) c.in-Ok-value.ensures.typed h)

pub returns-clause-refused : goal.returns-clause-refused
returns-clause-refused c =
    unfit_fails (view_context c.args.context.now) (view_body c.args.body.now) c.in-Err-value_as.fault.cause (names_of c.args.names.now)
    (source.view_type c.args.of.now) (source.view_expr c.args.e.now) (view_ty c.in-Ok.t.value) (view_expr c.in-Ok-value.x.value)
    (view_body c.value.new.body) c.in-Ok.ensures.means c.in-Ok-value.ensures.typed (subst (λ (t : code_ty.Ty). FailsBy
    c.in-Err-value_as.fault.cause (ByRefusal (arguments.FailsAt (view_ty t) (view_expr c.in-Ok-value.x.value)))) c.deref.ensures
    c.in-Err-value_as.ensures.refused)
