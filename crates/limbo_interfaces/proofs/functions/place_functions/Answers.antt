use Rattle.std.proofs.Common.{rules, ◌≡◌, length, map, sym, ◌∙◌}
use Rattle.std.specs.Prelude.{slice_set}
use Rattle.limbo_tree.specs.View.{names_of}
use Rattle.limbo_types.specs.View.{view_fn}
use Rattle.limbo_typed.specs.View.{view_interface}
use Rattle.limbo_context.specs.View.{view_context, view_body}
use Rattle.limbo_locals.specs.limbo_local.Members.{with_signatures}
use Rattle.limbo_members.proofs.Untouched.{on_one}
use Rattle.limbo_interfaces.proofs.Numbered.{below_viewed, functions_there, set_viewed, placed, placed_begun}
use Rattle.limbo_interfaces.proofs.functions.place_functions.Goals as goal

pub returns-in_ok-add_signatures-in-Ok-clause-placed : goal.returns-in_ok-add_signatures-in-Ok-clause-placed
returns-in_ok-add_signatures-in-Ok-clause-placed c =
    let there = below_viewed c.args.interface c.args.context.now.interfaces.items c.requires.begun.there in
    let first : length c.index.result.now.functions.items ≡ c.len-first.result = search rules in
    let counted = sym first ∙ functions_there c.args.interface c.args.context.now.interfaces.items c.index.result.now there
    c.index.ensures in
    let more =
    set_viewed c.args.interface (with_signatures (names_of c.args.names.now) (view_fn c.args.of.now)) c.args.context.now.interfaces.items
    c.index_mut-into.result.now c.add_signatures.new.interface there c.index_mut-into.ensures.value
    c.in_ok-add_signatures-in-Ok.ensures in
    on_one c.show_names.result (λ is. placed c.args.interface (view_context c.args.context.now) (view_body c.args.body.now) (names_of
    c.args.names.now) (view_fn c.args.of.now)
    c.len-first.result (map view_interface (slice_set c.args.context.now.interfaces.items c.args.interface c.add_signatures.new.interface))
    c.show_names.new.rows.items c.declare_names.new.scopes c.requires.begun counted more c.in-Ok.ensures.declared is)
    c.show_names.ensures.shown

pub returns-in_ok-add_signatures-in-Ok-clause-begun : goal.returns-in_ok-add_signatures-in-Ok-clause-begun
returns-in_ok-add_signatures-in-Ok-clause-begun c =
    let there = below_viewed c.args.interface c.args.context.now.interfaces.items c.requires.begun.there in
    let first : length c.index.result.now.functions.items ≡ c.len-first.result = search rules in
    let counted = sym first ∙ functions_there c.args.interface c.args.context.now.interfaces.items c.index.result.now there
    c.index.ensures in
    let more =
    set_viewed c.args.interface (with_signatures (names_of c.args.names.now) (view_fn c.args.of.now)) c.args.context.now.interfaces.items
    c.index_mut-into.result.now c.add_signatures.new.interface there c.index_mut-into.ensures.value
    c.in_ok-add_signatures-in-Ok.ensures in
    on_one c.show_names.result (λ is. placed_begun c.args.interface (view_context c.args.context.now) (view_body c.args.body.now)
    (names_of c.args.names.now) (view_fn c.args.of.now)
    c.len-first.result (map view_interface (slice_set c.args.context.now.interfaces.items c.args.interface c.add_signatures.new.interface))
    c.show_names.new.rows.items c.declare_names.new.scopes c.requires.begun counted more c.in-Ok.ensures.declared is)
    c.show_names.ensures.shown
