use Rattle.std.proofs.Common.{◌-◌, ◌≡◌, ◌≤◌}
use Rattle.dis_steps.specs.Codes.{objects_of}
use Rattle.dis_machine.specs.declared.doing.Doing.TheVariants.{Ready}
use Rattle.dis_machine.proofs.Stopping.{Quiet}
use Rattle.dis_machine.proofs.state.Running.run.Given as goal

-- The process is ready, and so many instructions were obeyed, which told nothing but which blocks went.
abbrev pub invariant-loop-count : goal.invariant-loop-count
invariant-loop-count l =
    (l.self.doing ≡ Ready) × (l.count ≤ 2048) × (l.self.memory.tables ≡ l.fn.self.memory.tables)
    × Quiet (objects_of l.codes) l.fn.self l.self l.count

abbrev pub decreases-loop-count : goal.decreases-loop-count
decreases-loop-count l = 2048 - l.count
