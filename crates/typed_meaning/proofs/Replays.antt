-- What a replay tells is told of a run.
use Rattle.process_model.proofs.Itself.{own_journals}
use Rattle.system_model.specs.Limits.{frames_limit}
use Rattle.typed_meaning.specs.Program.{routines_of}
use Rattle.typed_meaning.specs.Rules.{rules}
use Rattle.typed_meaning.specs.Runs.{first_world, first_process}
use Rattle.typed_meaning.specs.Replays.{ReplaysAreRuns}

pub replays_are_runs : ReplaysAreRuns
replays_are_runs m init first there longest journal t e =
    let beside = own_journals (rules frames_limit (routines_of m)) (first_world m) (first_process first) longest journal t e in
    record {
      turns = beside.turns;
      config = beside.config;
      run = record { first = first; there = there; run = beside.run };
      told = beside.trace;
    }
