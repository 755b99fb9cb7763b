use Rattle.std.proofs.Common.{rules, ◌≡◌, length}
use Rattle.limbo_types.specs.View.{view_ty}
use Rattle.limbo_locals.proofs.Pushed.{pushed_on}
use Rattle.limbo_locals.proofs.variables.push_variables.Goals as goal

pub loop-name-preserved : goal.loop-name-preserved
loop-name-preserved c =
    let counted : c.in-Ok.number ≡ length c.loop-name.variables.items = search rules in
    pushed_on c.args.variables.now.items c.loop-name.variables.items c.push.new.self.items c.loop-name.pushed.items
    c.push-in-loop-name.new.self.items c.args.names.now (view_ty c.args.t.now) c.loop-name.name-index c.name-item.result _ c.in-Ok.number
    c.in_ok-push.ensures.items c.in_ok-push-2.ensures.items c.name-item.is c.loop-name-test.true c.in_ok-name.ensures.cases
    c.in_ok-ty.ensures
    counted c.loop-name.invariant
