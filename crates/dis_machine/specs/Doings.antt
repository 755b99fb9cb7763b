-- Where the process stands, and what holds of it and of memory then.
use Rattle.std.proofs.Props.{props}
use Rattle.process_model.specs.Process as model
use Rattle.system_model.specs.Values.{Value}
use Rattle.dis_meaning.specs.Process.{Process}
use Rattle.dis_memory.specs.Blocks.{World}
use Rattle.dis_serials.specs.Given.{given_once}
use Rattle.dis_turns.specs.Given.{IsGiven}
use Rattle.dis_machine.specs.declared.doing.Doing.{Doing}
use Rattle.dis_machine.specs.declared.doing.Doing.TheVariants as doing

abbrev pub view_doing : Doing → Process → model.Doing Process Value
view_doing doing.Ready p = model.Ready p
view_doing doing.Asking p = model.Asking p
view_doing doing.Gone p = model.Gone

-- That frames have serials which the machine gave has at most one proof.
pub is_given_once : (x : World) (d : model.Doing Process Value) → IsProp (IsGiven x d)
is_given_once x (model.Ready p) = given_once x p
is_given_once x (model.Waiting bs p) = given_once x p
is_given_once x (model.Asking p) = given_once x p
is_given_once x model.Gone = hlevel props
