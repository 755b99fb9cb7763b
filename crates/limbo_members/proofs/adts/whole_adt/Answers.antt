use Rattle.std.proofs.Common.{length, map, ap, ◌∙◌}
use Rattle.std.specs.Prelude.{option_map}
use Rattle.limbo_tree.specs.Decls.{AdtMember}
use Rattle.limbo_tree.specs.View as source
use Rattle.limbo_context.specs.View.{view_context, view_body}
use Rattle.limbo_locals.specs.Anywhere.{at}
use Rattle.limbo_locals.proofs.Rules.{by_rule}
use Rattle.limbo_members.specs.Adding.{view_given}
use Rattle.limbo_members.proofs.Closed.{on_two, length_defs}
use Rattle.limbo_members.proofs.Standing.{member_fails, stands_not, is_adt}
use Rattle.limbo_members.proofs.Untouched.{on_one, same_exports, same_interfaces, member_leaves}
use Rattle.limbo_members.proofs.adts.whole_adt.Goals as goal

pub returns-in-Err-clause-refused : goal.returns-in-Err-clause-refused
returns-in-Err-clause-refused c =
    member_fails c.args.in_module c.args.name.now.text (source.view_members c.args.members.now)
    (option_map (λ vs. map source.view_variant vs.items) c.args.pick.now) (view_context c.args.context.now) (view_body c.args.body.now)
    c.in-Err.fault.cause c.in-Err.ensures.refused

pub returns-in-Ok-clause-is : goal.returns-in-Ok-clause-is
returns-in-Ok-clause-is c =
    on_two c.close_adts.result c.close_adts.ensures.table c.close_adts.ensures.allowed (λ made allowed. is_adt c.args.in_module
    c.args.name.now.text (source.view_members c.args.members.now)
    (option_map (λ vs. map source.view_variant vs.items) c.args.pick.now) (view_context c.args.context.now) (view_body c.args.body.now)
    (view_given c.in-Ok.given) (view_context c.add_adt.new.context) (view_body c.add_adt.new.body) c.in-Ok.ensures.adds
    (length c.defs-first.result.now) (ap length c.defs-first.ensures ∙ length_defs c.args.context.now.adts.adts)
    (view_context c.close_adts.new.context) made allowed)

pub returns-in-Ok-clause-refused : goal.returns-in-Ok-clause-refused
returns-in-Ok-clause-refused c =
    by_rule c.close_adts.result c.close_adts.ensures.refused (λ f h. stands_not c.args.in_module c.args.name.now.text (source.view_members
    c.args.members.now)
    (option_map (λ vs. map source.view_variant vs.items) c.args.pick.now) (view_context c.args.context.now) (view_body c.args.body.now)
    (view_given c.in-Ok.given) (view_context c.add_adt.new.context) (view_body c.add_adt.new.body) c.in-Ok.ensures.adds
    (length c.defs-first.result.now) (ap length c.defs-first.ensures ∙ length_defs c.args.context.now.adts.adts)
    f h)

pub returns-in-Ok-clause-exports : goal.returns-in-Ok-clause-exports
returns-in-Ok-clause-exports c =
    on_one c.close_adts.result (λ made. same_exports (length c.defs-first.result.now) (view_given c.in-Ok.given).adts (view_context
    c.args.context.now) (view_context c.add_adt.new.context) (view_context c.close_adts.new.context) made
    (member_leaves c.args.in_module (AdtMember c.args.name.now.text (source.view_members c.args.members.now)
    (option_map (λ vs. map source.view_variant vs.items) c.args.pick.now)) (at (view_context c.args.context.now) (view_body
    c.args.body.now) 0) (view_given c.in-Ok.given) (at (view_context c.add_adt.new.context) (view_body c.add_adt.new.body) 0)
    (c.in-Ok.ensures.adds 0)).exports) c.close_adts.ensures.table

pub returns-in-Ok-clause-interfaces : goal.returns-in-Ok-clause-interfaces
returns-in-Ok-clause-interfaces c =
    on_one c.close_adts.result (λ made. same_interfaces (length c.defs-first.result.now) (view_given c.in-Ok.given).adts (view_context
    c.args.context.now) (view_context c.add_adt.new.context) (view_context c.close_adts.new.context) made
    (member_leaves c.args.in_module (AdtMember c.args.name.now.text (source.view_members c.args.members.now)
    (option_map (λ vs. map source.view_variant vs.items) c.args.pick.now)) (at (view_context c.args.context.now) (view_body
    c.args.body.now) 0) (view_given c.in-Ok.given) (at (view_context c.add_adt.new.context) (view_body c.add_adt.new.body) 0)
    (c.in-Ok.ensures.adds 0)).interfaces) c.close_adts.ensures.table

pub returns-in-Ok-clause-scopes : goal.returns-in-Ok-clause-scopes
returns-in-Ok-clause-scopes c = on_one c.close_adts.result (λ made. c.in-Ok.ensures.scopes) c.close_adts.ensures.table
