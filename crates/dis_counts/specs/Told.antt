-- What is told of a run, beside which blocks went.
use Rattle.std.specs.Prelude.{List, [], ◌∷◌}
use Rattle.styx_msg.specs.declared.message.Rmsg.{Rmsg}
use Rattle.process_model.specs.Process.{Entry, Released}
use Rattle.system_model.specs.Values.{Value}
use Rattle.system_model.specs.Prints.{Request}
use Rattle.system_model.specs.Ending.{Ending}

abbrev pub Trace : Type 0
Trace = List (Entry Value Request Rmsg Ending)

-- What was told: requests, replies and ends, but not which blocks went.
abbrev pub told : Trace → Trace
told [] = []
told (Released pid serials ∷ es) = told es
told (e ∷ es) = e ∷ told es
