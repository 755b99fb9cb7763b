use Rattle.std.proofs.Common.{◌≡◌, None, Option, length, subst}
use Rattle.std.specs.Prelude.{IfOk}
use Rattle.limbo_types.specs.declared.ty.Ty as code_ty
use Rattle.limbo_types.specs.View.{view_ty}
use Rattle.limbo_tree.specs.Decls as decls
use Rattle.limbo_tree.specs.View as source
use Rattle.limbo_tree.specs.View.{names_of}
use Rattle.limbo_typed.specs.Typed.{Expr, Declare}
use Rattle.limbo_typed.specs.View.{view_stmt}
use Rattle.limbo_typed.proofs.View.{view_boxed-None}
use Rattle.limbo_context.specs.View.{view_context, view_body}
use Rattle.limbo_local.specs.Points.{numbers}
use Rattle.limbo_locals.specs.Named.{AreFree, with_variables_in}
use Rattle.limbo_locals.specs.Anywhere.{DeclaresAt}
use Rattle.limbo_locals.proofs.Rules.{by_rule, begun_as, type_fails, plain_declares, plain_again}
use Rattle.limbo_locals.proofs.variables.declare_plain.Goals as goal

pub returns-in-Ok-clause-declares : goal.returns-in-Ok-clause-declares
returns-in-Ok-clause-declares c =
    begun_as c.begin_variables.result (λ z. DeclaresAt (view_context c.args.context.now) (view_body c.args.body.now) (decls.Var (names_of
    c.args.names.now) (source.view_type c.args.of.now) None) z (view_context c.args.context.now) (view_body c.begin_variables.new.body))
    ((view_body c.begin_variables.new.body) ≡ with_variables_in (names_of c.args.names.now) (view_ty c.in-Ok.t.value) (view_body
    c.args.body.now)) (AreFree (names_of c.args.names.now) (view_body c.args.body.now).scopes) (Declare (numbers (length (view_body
    c.args.body.now).variables) (names_of c.args.names.now)) None) (subst (λ (o : Option Expr). IfOk c.begin_variables.result (λ z.
    view_stmt z.value ≡ Declare (numbers (length (view_body c.args.body.now).variables) (names_of c.args.names.now)) o)) view_boxed-None
    c.begin_variables.ensures.begun) (subst (λ (t : code_ty.Ty). IfOk c.begin_variables.result (λ _. (view_body
    c.begin_variables.new.body) ≡ with_variables_in (names_of c.args.names.now) (view_ty t) (view_body c.args.body.now))) c.deref.ensures
    c.begin_variables.ensures.declared) c.begin_variables.ensures.free (λ z is d f. plain_declares (view_context c.args.context.now)
    (view_body c.args.body.now) (names_of c.args.names.now) (source.view_type c.args.of.now) (view_ty c.in-Ok.t.value) z (view_body
    c.begin_variables.new.body) c.in-Ok.ensures.means f is d)

pub returns-in-Ok-clause-refused : goal.returns-in-Ok-clause-refused
returns-in-Ok-clause-refused c =
    by_rule c.begin_variables.result c.begin_variables.ensures.refused (λ f h. plain_again (view_context c.args.context.now) (view_body
    c.args.body.now) f (names_of c.args.names.now) (source.view_type c.args.of.now) h)

pub returns-in-Err-clause-refused : goal.returns-in-Err-clause-refused
returns-in-Err-clause-refused c =
    type_fails (view_context c.args.context.now) (view_body c.args.body.now) c.in-Err.fault.cause (names_of c.args.names.now)
    (source.view_type c.args.of.now) None c.in-Err.ensures.refused
