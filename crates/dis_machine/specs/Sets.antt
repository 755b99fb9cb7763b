-- What a machine keeps has at most one proof.
use Rattle.std.specs.Prelude.{ℕ, Bool, List, Option}
use Rattle.std.proofs.Props.{props}
use Rattle.dis_file.specs.declared.object.Object.{Object}
use Rattle.dis_machine.specs.declared.event.Event.{Event}
use Rattle.dis_machine.specs.declared.state.Running.{Running}
use Rattle.dis_machine.specs.declared.outcome.Outcome.{Outcome}
use Rattle.dis_machine.specs.Kept.{IsKept}

pub kept_once : (objects : List Object) (limit : ℕ) (journal : List Event) (entered : ℕ) (cut : Option ℕ) (lacks : Bool)
    (r : Running) (o : Outcome) → IsProp (IsKept objects limit journal entered cut lacks r o)
kept_once objects limit journal entered cut lacks r o = hlevel props
