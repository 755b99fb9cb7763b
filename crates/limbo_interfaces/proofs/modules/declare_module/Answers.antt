use Rattle.std.proofs.Common.{List, ap}
use Rattle.limbo_tree.specs.View as source
use Rattle.limbo_typed.specs.View.{view_stmt}
use Rattle.limbo_scope.specs.Scopes.{Scope}
use Rattle.limbo_context.specs.View.{view_context, view_body}
use Rattle.limbo_locals.specs.Anywhere.{at}
use Rattle.limbo_locals.proofs.Known.{if_ok}
use Rattle.limbo_interfaces.proofs.Exported.{opened_begun}
use Rattle.limbo_interfaces.proofs.Declared.{module_declares, members_fail, module_again}
use Rattle.limbo_interfaces.proofs.modules.declare_module.Goals as goal

pub returns-in-Err-clause-refused : goal.returns-in-Err-clause-refused
returns-in-Err-clause-refused c =
    module_again c.args.name.now.text (source.view_members c.args.members.now) (view_context c.args.context.now) (view_body
    c.args.body.now) c.in-Err.fault.cause c.in-Err.ensures.refused

pub add_members-requires : goal.add_members-requires
add_members-requires c = record {
  begun =
      opened_begun (at (view_context c.args.context.now) (view_body c.args.body.now) 0) (at (view_context c.open_module.new.context)
      (view_body c.open_module.new.body) 0) c.args.name.now.text
      c.in-Ok-open_module.interface (c.in-Ok-open_module.ensures.opened 0) c.in-Ok-open_module.ensures.number
      c.in-Ok-open_module.ensures.rows;
}

pub returns-in-Err-add_members-clause-refused : goal.returns-in-Err-add_members-clause-refused
returns-in-Err-add_members-clause-refused c =
    members_fail c.args.name.now.text (source.view_members c.args.members.now) (view_context c.args.context.now) (view_body
    c.args.body.now) c.in-Ok-open_module.interface
    (view_context c.open_module.new.context) (view_body c.open_module.new.body) c.in-Ok-open_module.ensures.number
    c.in-Ok-open_module.ensures.opened c.in-Err-add_members.fault.cause c.in-Err-add_members.ensures.refused

pub returns-in-Ok-add_members-clause-declares : goal.returns-in-Ok-add_members-clause-declares
returns-in-Ok-add_members-clause-declares c =
    if_ok c.nothing_runs.result (λ z is. module_declares c.args.name.now.text (source.view_members c.args.members.now) (view_context
    c.args.context.now) (view_body c.args.body.now)
    c.in-Ok-open_module.interface (view_context c.open_module.new.context) (view_body c.open_module.new.body)
    c.in-Ok-open_module.ensures.number
    c.in-Ok-open_module.ensures.opened (view_context c.add_members.new.context) (view_body c.add_members.new.body)
    (record { scopes = c.leave-left.new.self; variables = (view_body c.add_members.new.body).variables }) (view_stmt z.value)
    c.requires.once c.in-Ok.ensures.new c.in-Ok-add_members.ensures.adds
    (λ n. ap (λ (ss : List Scope). at (view_context c.add_members.new.context) (record {
      scopes = ss;
      variables = (view_body
          c.add_members.new.body).variables;
    }) n) c.leave-left.ensures.left) is) c.nothing_runs.ensures.empty
