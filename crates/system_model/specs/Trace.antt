-- What is told of a run, of a program and of its machine alike.
use Rattle.std.specs.Prelude.{List}
use Rattle.styx_msg.specs.declared.message.Rmsg.{Rmsg}
use Rattle.process_model.specs.Process.{Entry}
use Rattle.system_model.specs.Values.{Value}
use Rattle.system_model.specs.Prints.{Request}
use Rattle.system_model.specs.Ending.{Ending}

abbrev pub Trace : Type 0
Trace = List (Entry Value Request Rmsg Ending)
