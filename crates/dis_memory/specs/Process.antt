-- What a process does, over this memory.
use Rattle.std.specs.Prelude.{ℕ, suc, []}
use Rattle.process_model.specs.Process.{Effect, Went, Parks, Ends}
use Rattle.system_model.specs.Values.{Value}
use Rattle.system_model.specs.Prints.{Request}
use Rattle.system_model.specs.Ending.{Ending, Broken, Faulted}
use Rattle.dis_meaning.specs.Words.{Access, Found, Wrong, Raises}
use Rattle.dis_meaning.specs.Process.{Process, at_pc, with_frames}
use Rattle.dis_memory.specs.Blocks.{World}
use Rattle.dis_memory.specs.Places.{Memory}

abbrev pub Does : Type 0
Does = Effect World Process Value Request Ending

-- Nothing is there to do: a reply that is none.
abbrev pub stands_still : World → Process → Does
stands_still x p = Parks x [] p

-- The process goes on there, or with the next instruction.
abbrev pub jumps : World → Process → ℕ → Does
jumps x p pc = Went x (with_frames p (at_pc p.frame pc) p.below p.made)

abbrev pub next : Memory → Does
next m = jumps m.world m.process (suc m.process.frame.pc)

-- An effect, or the fault or the raise that comes instead, neither of which changes anything else. Nothing handles an exception yet: a
-- process that raises one is broken, with its text.
abbrev pub or_fault : World → Process → Access Does → Does
or_fault x p (Found does) = does
or_fault x p (Wrong number) = Ends x (Faulted number p.frame.pc)
or_fault x p (Raises text) = Ends x (Broken text)
