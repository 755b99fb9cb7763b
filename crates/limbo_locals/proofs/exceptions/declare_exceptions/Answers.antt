use Rattle.std.proofs.Common.{rules, ◌≡◌, ◌++◌, length, map, sym, ap, ◌∙◌}
use Rattle.std.proofs.lemmas.List.{length-map}
use Rattle.limbo_types.specs.View.{view_ty}
use Rattle.limbo_tree.specs.View.{view_types, names_of}
use Rattle.limbo_typed.specs.View.{view_exception, view_stmt}
use Rattle.limbo_context.specs.View.{view_context, view_body}
use Rattle.limbo_locals.specs.Named.{exceptions_of}
use Rattle.limbo_locals.proofs.Known.{if_ok}
use Rattle.limbo_locals.proofs.Rules.{exceptions_fail, exceptions_again, exceptions_declare}
use Rattle.limbo_locals.proofs.exceptions.declare_exceptions.Goals as goal

pub returns-in-Err-clause-refused : goal.returns-in-Err-clause-refused
returns-in-Err-clause-refused c =
    exceptions_fail (view_context c.args.context.now) (view_body c.args.body.now) (names_of c.args.names.now) (view_types c.args.of.now)
    c.in-Err.fault.cause c.in-Err.ensures.refused

pub returns-in-Err-declare_names-clause-refused : goal.returns-in-Err-declare_names-clause-refused
returns-in-Err-declare_names-clause-refused c =
    exceptions_again (view_context c.args.context.now) (view_body c.args.body.now) (names_of c.args.names.now) (view_types c.args.of.now)
    c.in-Err-declare_names.cause c.in-Err-declare_names.ensures.twice

pub returns-clause-declares : goal.returns-clause-declares
returns-clause-declares c =
    let first : c.len-first.result ≡ length c.args.context.now.exceptions.items = search rules in
    if_ok c.nothing_runs.result (λ z h. exceptions_declare (view_context c.args.context.now) (view_body c.args.body.now)
    (names_of c.args.names.now) (view_types c.args.of.now) c.args.module_name.now (map view_ty c.in-Ok.values.items)
    (map view_exception c.push_exceptions.new.exceptions.items) c.declare_names.new.scopes c.len-first.result (view_stmt z.value)
    c.in-Ok.ensures.means c.in-Ok-declare_names.ensures.free h
    (c.in_ok-push_exceptions-in-Ok-declare_names.ensures
    ∙ ap (λ us. map view_exception c.args.context.now.exceptions.items ++ exceptions_of c.args.module_name.now (names_of c.args.names.now)
    (map view_ty us)) c.deref.ensures.value) (first ∙ sym (length-map c.args.context.now.exceptions.items view_exception))
    c.in-Ok-declare_names.ensures.declared) c.nothing_runs.ensures.empty
