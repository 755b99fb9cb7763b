use Rattle.std.proofs.Common.{refl}
use Rattle.limbo_context.specs.View.{view_context}
use Rattle.limbo_heads.proofs.Carrying.{caught_values, caught_text}
use Rattle.limbo_heads.proofs.catching.caught.Goals as goal

pub returns-in_ok-copy_all-in-Some : goal.returns-in_ok-copy_all-in-Some
returns-in_ok-copy_all-in-Some c =
    caught_values (view_context c.args.context.now) c.args.patterns.now c.in-Some.values.now c.in_ok-copy_all-in-Some.field-0.items
    c.in_ok-copy_all-in-Some.field-0 refl c.in_ok-copy_all-in-Some.ensures c.in-Some.ensures.found

pub returns-in-None : goal.returns-in-None
returns-in-None c = caught_text (view_context c.args.context.now) c.args.patterns.now c.in-None.ensures.none
