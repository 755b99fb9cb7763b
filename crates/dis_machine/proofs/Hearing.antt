-- What a print's reply comes to lets its process go on, ask or end.
use Rattle.std.proofs.Common.{◌≡◌, ℤ, refl}
use Rattle.process_model.specs.Process.{Went, Parks, Polls, Spawns, Asks, Ends}
use Rattle.system_model.specs.Prints as prints
use Rattle.system_model.specs.Prints.{Answers, Requests, NoReply}
use Rattle.dis_meaning.specs.Words.{Place, Access, Found, Wrong, Raises, ◌>>=◌}
use Rattle.dis_memory.specs.Blocks.{World}
use Rattle.dis_meaning.specs.Process.{Process, with_frames}
use Rattle.dis_memory.specs.Process.{Does, or_fault}
use Rattle.dis_memory.specs.Places.{Memory}
use Rattle.dis_memory.specs.Control.{hears, answered, with_outside}

-- The process goes on, asks or ends.
abbrev pub Goes : Does → Type 0
Goes (Went x p) = Unit {0}
Goes (Asks x m p) = Unit {0}
Goes (Ends x how) = Unit {0}
Goes (Parks x bs p) = ⊥
Goes (Polls x bs p q) = ⊥
Goes (Spawns x p q) = ⊥

or_fault_goes : (x : World) (p : Process) (m : Access Memory) → Goes (or_fault x p (m >>= λ m. Found (Went m.world (with_frames m.process m.process.frame m.process.below m.process.made))))
or_fault_goes x p (Found m) = tt
or_fault_goes x p (Wrong n) = tt
or_fault_goes x p (Raises text) = tt

pub hears_goes : (x : World) (p : Process) (place : Place) (at : ℤ) (g : prints.Printing) → (g ≡ NoReply → ⊥) → Goes (hears x p place at g)
hears_goes x p place at (Answers w v) h = or_fault_goes x p (answered (with_outside x w) p place at v)
hears_goes x p place at (Requests w m k) h = tt
hears_goes x p place at NoReply h = absurd (h refl)
