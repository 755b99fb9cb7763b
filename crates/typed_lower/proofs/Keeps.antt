-- The code of a module keeps its meaning.
use Rattle.std.proofs.Common.{◌≡◌, refl, arith}
use Rattle.process_model.specs.Plain.{PlainFollows}
use Rattle.process_model.proofs.Lifted.{plain_journals}
use Rattle.limbo_typed.specs.Typed.{Module}
use Rattle.typed_meaning.specs.Program.{routines_of}
use Rattle.typed_meaning.specs.Runs.{first_world, first_process}
use Rattle.slot_code.specs.Machine.{Process}
use Rattle.slot_code.specs.Rules as code_rules
use Rattle.typed_lower.specs.Statements.{functions_code}
use Rattle.typed_lower.specs.Stands.{sides}
use Rattle.typed_lower.specs.Keeps.{HasCode, Keeps, JournalsAreRuns}
use Rattle.typed_lower.proofs.Follows.{place}
use Rattle.typed_lower.proofs.Simulation.{follows}
use Rattle.typed_lower.proofs.Modules.{compiled, begins}
use Rattle.typed_lower.proofs.Quiet.{few}

-- A simulation of this bound, which counts the instructions that stand for no step.
pub record FollowsBy (m : Module) : Type 0 where
  pub follows : PlainFollows (sides (routines_of m) (functions_code m))
  pub pace : follows.bound ≡ 7
  pub placed : (q : Process) → follows.place q ≡ place (routines_of m) (functions_code m) q

pub follows_by : (m : Module) → HasCode m → FollowsBy m
unfolding follows
follows_by m has = record {
  follows = follows (routines_of m) (functions_code m) (compiled m has) 7 (omega arith) (few m has);
  pace = refl;
  placed = λ q. refl;
}

pub keeps : (m : Module) → HasCode m → Keeps m (functions_code m)
keeps m has =
    let f = follows_by m has in
    record { follows = f.follows; pace = f.pace; begins = λ n first h e f. begins m has n first h e f }

pub journals : (m : Module) → HasCode m → JournalsAreRuns m (functions_code m)
journals m has init first h there its longest journal t e =
    let k = keeps m has in
    let b = plain_journals (sides (routines_of m) (functions_code m)) k.follows (first_world m) (first_world m) (first_process first)
    (code_rules.first_process init h) (k.begins init first h there its) refl longest journal t e in
    record { turns = b.turns; config = b.config; run = record { first = first; there = there; run = b.run }; told = b.trace }
