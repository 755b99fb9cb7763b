use Rattle.std.proofs.Common.{arith}
use Rattle.std.proofs.lemmas.Grind.{common_steps}
use Rattle.inferno_command.proofs.LastName.{last_name_from}
use Rattle.inferno_command.proofs.base.last_name.Goals as goal
use Rattle.inferno_command.proofs.base.last_name.Goals.{then-loop-start-test+else-path-start-ne47, else-loop-start-test}

pub returns : goal.returns
returns c =
    elim c.loop-start-test.branch [
      | then-loop-start-test+else-path-start-ne47 w ↦ last_name_from _ _ c.loop-start.invariant.0 c.loop-start.invariant.1 (λ positive. grind (arith, common_steps))
      | else-loop-start-test w ↦ last_name_from _ _ c.loop-start.invariant.0 c.loop-start.invariant.1 (λ positive. absurd (omega arith))
    ]
