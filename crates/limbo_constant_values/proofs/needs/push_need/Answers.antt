use Rattle.std.proofs.Common.{subst}
use Rattle.limbo_tree.specs.View.{view_expr}
use Rattle.limbo_naming.specs.declared.naming.Named.{Named}
use Rattle.limbo_naming.specs.Told.{TellsOf}
use Rattle.limbo_constant_values.proofs.Needing.{need_more, need_same, found_part, one_part, none_unknown, none_nothing, none_no_name}
use Rattle.limbo_constant_values.proofs.needs.push_need.Goals as goal

pub returns-in-None : goal.returns-in-None
returns-in-None c = λ parts are.
    need_same c.args.naming.now c.args.scope parts c.args.row.now.items are (view_expr c.args.part.now)
    (none_no_name c.args.naming.now c.args.scope (view_expr c.args.part.now) c.in-None.ensures.no_name)

pub returns-in_ok-push-in-Found : goal.returns-in_ok-push-in-Found
returns-in_ok-push-in-Found c = λ parts are.
    let n = c.in-Some.ensures.named in
    let t = subst (λ (z : Named). TellsOf c.args.naming.now c.args.scope n.0 z) c.in-Found.is n.2 in
    rw c.in_ok-push-in-Found.ensures.items
    (need_more c.args.naming.now c.args.scope parts c.args.row.now.items are (view_expr c.args.part.now) c.in-Found.number
    (found_part c.args.naming.now c.requires.names c.args.scope (view_expr c.args.part.now) n.0 n.1 c.in-Found.number t)
    (one_part c.args.naming.now c.requires.names c.args.scope (view_expr c.args.part.now) n.0 n.1 c.in-Found.number t))

pub returns-in-Unknown : goal.returns-in-Unknown
returns-in-Unknown c = λ parts are.
    let n = c.in-Some.ensures.named in
    need_same c.args.naming.now c.args.scope parts c.args.row.now.items are (view_expr c.args.part.now)
    (none_unknown c.args.naming.now c.requires.names c.args.scope (view_expr c.args.part.now) n.0 n.1
    (subst (λ (z : Named). TellsOf c.args.naming.now c.args.scope n.0 z) c.in-Unknown.is n.2))

pub returns-in-Nothing : goal.returns-in-Nothing
returns-in-Nothing c = λ parts are.
    let n = c.in-Some.ensures.named in
    need_same c.args.naming.now c.args.scope parts c.args.row.now.items are (view_expr c.args.part.now)
    (none_nothing c.args.naming.now c.requires.names c.args.scope (view_expr c.args.part.now) n.0 n.1
    (subst (λ (z : Named). TellsOf c.args.naming.now c.args.scope n.0 z) c.in-Nothing.is n.2))
