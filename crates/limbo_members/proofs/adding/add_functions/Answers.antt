use Rattle.std.proofs.Common.{rules, tests, ◌≡◌, true, false}
use Rattle.limbo_tree.specs.View as source
use Rattle.limbo_tree.specs.View.{names_of}
use Rattle.limbo_types.specs.View.{view_fn}
use Rattle.limbo_context.specs.View.{view_context, view_body}
use Rattle.limbo_locals.specs.limbo_local.Failing as failing
use Rattle.limbo_locals.specs.Anywhere.{at}
use Rattle.limbo_members.specs.Adding.{view_given}
use Rattle.limbo_members.proofs.Added.{functions_add, header_fails}
use Rattle.limbo_members.proofs.adding.add_functions.Goals as goal

pub returns-then-not-in_module-clause-refused : goal.returns-then-not-in_module-clause-refused
returns-then-not-in_module-clause-refused c = λ n.
    let so : c.args.in_module ≡ false = search (rules, tests) in
    failing.undefined (names_of c.args.names.now) (source.view_fn c.args.of.now)
    (at (view_context c.args.context.now) (view_body c.args.body.now) n) so

pub returns-in-Err-clause-refused : goal.returns-in-Err-clause-refused
returns-in-Err-clause-refused c =
    header_fails (view_context c.args.context.now) (view_body c.args.body.now) c.args.in_module (names_of c.args.names.now)
    (source.view_fn c.args.of.now) c.in-Err.fault.cause c.in-Err.ensures.refused

pub returns-in-Ok-clause-adds : goal.returns-in-Ok-clause-adds
returns-in-Ok-clause-adds c =
    let so : c.args.in_module ≡ true = search (rules, tests) in
    functions_add (view_context c.args.context.now) (view_body c.args.body.now) c.args.in_module (names_of c.args.names.now)
    (source.view_fn c.args.of.now) (view_fn c.in-Ok._of) (view_given c.nothing_given.result) so c.in-Ok.ensures.means
    c.nothing_given.ensures
