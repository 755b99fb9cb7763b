use Rattle.std.proofs.Common.{◌∙◌, sym, map}
use Rattle.limbo_typed.specs.View.{view_pick_arm, heads_of}
use Rattle.limbo_paths.proofs.Tests.{not_each}
use Rattle.limbo_paths.proofs.taking.takes_each.Goals as goal

pub returns-then-not-takes : goal.returns-then-not-takes
returns-then-not-takes c =
    not_each c.args.count (heads_of (map view_pick_arm c.args.arms.now)) c.loop-variant.variant c.loop-variant-test.true
    (sym c.takes.ensures ∙ c.if-not-takes.true)
