-- How a run has ended.
use Rattle.std.specs.Prelude.{ℕ, suc, Bool, true, false, List, [], ◌∷◌, Option, Some, None, nat_le, ◌&&◌, if◌then◌else◌}
use Rattle.process_model.specs.Process.{Doing, Ready, Waiting, Asking, Gone, Requested, Replied, Passed, Over, Released, Lost}
use Rattle.system_model.specs.Values.{Value}
use Rattle.system_model.specs.Ending.{Ending, Ended, Broken, Faulted}
use Rattle.system_model.specs.Trace.{Trace}
use Rattle.dis_meaning.specs.Process.{Process}
use Rattle.dis_machine.specs.declared.end.End.{End}
use Rattle.dis_machine.specs.declared.end.End.TheVariants as end
use Rattle.dis_machine.specs.Journal.{State, Fault, fault_in, or_else}

-- A process is live until it is over.
abbrev pub is_live : Doing Process Value → Bool
is_live (Ready p) = true
is_live (Waiting bs p) = true
is_live (Asking p) = true
is_live Gone = false

abbrev pub any_live : List (Doing Process Value) → Bool
any_live [] = false
any_live (d ∷ ds) = if is_live d then true else any_live ds

-- A process that broke: its number, and with what text.
pub record Breach : Type 0 where
  pub pid : ℕ
  pub text : List ℕ

abbrev pub breach : ℕ → Ending → List Breach → List Breach
breach i Ended bs = bs
breach i (Broken text) bs = record { pid = suc i; text = text } ∷ bs
breach i (Faulted number pc) bs = bs

-- The processes that broke, in the order in which they did.
abbrev pub breaches : Trace → List Breach
breaches [] = []
breaches (Requested i m ∷ es) = breaches es
breaches (Replied i a ∷ es) = breaches es
breaches (Passed channel v i k j l ∷ es) = breaches es
breaches (Over i how ∷ es) = breach i how (breaches es)
breaches (Released i names ∷ es) = breaches es
breaches (Lost l ∷ es) = breaches es

-- Where no process is live: whether one broke.
abbrev pub done : List Breach → End
done [] = end.Done
done (b ∷ bs) = end.Broke

abbrev pub over : (live : Bool) → List Breach → Option End
over true bs = None
over false bs = Some (done bs)

abbrev pub faulted : Option Fault → Option End
faulted None = None
faulted (Some f) = Some (end.Faulted f.number f.pc)

-- The limit is reached, and a process is live.
abbrev pub at_limit : (limit quanta : ℕ) → (live : Bool) → Option End
at_limit limit n live = if nat_le limit n && live then Some end.Limit else None

-- How a run has ended after so many quanta, in this state: the first of these that holds. No process waits for another yet, so none is
-- stuck, and no block or reference is refused.
abbrev pub ended_in : (limit quanta : ℕ) → State → Option End
ended_in limit n s =
    or_else (at_limit limit n (any_live s.processes))
    (or_else (faulted (fault_in s.trace)) (over (any_live s.processes) (breaches s.trace)))

-- Want of memory comes before all.
abbrev pub end_of : (lacks : Bool) → (limit quanta : ℕ) → State → Option End
end_of true limit n s = Some end.NoMemory
end_of false limit n s = ended_in limit n s
