-- Which replies are taken.
use Rattle.std.specs.Prelude.{◌≡◌, ◌≤◌, List, [], ◌∷◌, Some, None, IsSome}
use Rattle.styx_msg.specs.Styx.{Fits, r_row, spelling}
use Rattle.styx_msg.specs.declared.message.Rmsg.{Rmsg}
use Rattle.styx_msg.specs.declared.message.Rmsg.TheVariants as reply
use Rattle.process_model.specs.Process.{Asking}
use Rattle.dis_file.specs.declared.object.Object.{Object}
use Rattle.system_model.specs.Prints.{Writing}
use Rattle.dis_meaning.specs.Process.{Process, Printing}
use Rattle.dis_machine.specs.declared.event.Event.TheVariants as event
use Rattle.dis_machine.specs.Journal.{State, fault_in, happens}

-- A reply to a piece of a print: an Rwrite of at most its bytes, or an Rerror.
abbrev pub IsReplyTo : Writing → Rmsg → Type 0
IsReplyTo k (reply.Write count) = count ≤ k.asked
IsReplyTo k (reply.Error ename) = Unit {0}
IsReplyTo k _ = ⊥

-- A reply to the request that the one process waits for, spelled under its tag on the console's link, can happen: it is never refused.
abbrev pub RepliesHappen : Type 0
RepliesHappen =
    (objects : List Object) (s : State) (p : Process) (k : Printing) (a : Rmsg)
    → s.processes ≡ Asking p ∷ [] → p.printing ≡ Some k → fault_in s.trace ≡ None →
    IsReplyTo k.writing a → Fits k.writing.tag (r_row a) → IsSome (happens objects s (event.Reply 1 (spelling k.writing.tag (r_row a))))
