-- One process of a machine.
use Rattle.std.specs.Prelude.{ℕ, suc, ℤ, List, [], length, Option, None}
use Rattle.process_model.specs.Process.{Effect, Parks, Ends}
use Rattle.system_model.specs.Values.{Value}
use Rattle.system_model.specs.Prints.{Request, Writing}
use Rattle.system_model.specs.Ending.{Ending, Broken, Faulted}
use Rattle.dis_meaning.specs.Words.{Place, Word, Access, Found, Wrong, Raises}
use Rattle.dis_meaning.specs.World.{World}

-- A frame: its serial, which no other frame of the machine has, the instance whose code it runs, by the serial of its block, the
-- place in that code, and its words. The first eight are linkage: of these the word at 16 has the address that the function's answer
-- goes to.
pub record Frame : Type 0 where
  pub serial : ℕ
  pub instance : ℕ
  pub pc : ℕ
  pub words : List Word

-- A print that waits for a reply: what it has written, and where its answer goes.
pub record Printing : Type 0 where
  pub writing : Writing
  pub place : Place
  pub at : ℤ

-- A process: its number; the frame that runs; those that wait for it, the latest first; those that are made and not yet called; and
-- the print that waits for a reply, if one does.
pub record Process : Type 0 where
  pub number : ℕ
  pub frame : Frame
  pub below : List Frame
  pub made : List Frame
  pub printing : Option Printing

abbrev pub Does : Type 0
Does = Effect World Process Value Request Ending

-- How many frames it has that were called.
abbrev pub height : Process → ℕ
height p = suc (length p.below)

-- The frame at another place of its code, or with other words.
abbrev pub at_pc : Frame → ℕ → Frame
at_pc f pc = record { serial = f.serial; instance = f.instance; pc = pc; words = f.words }

abbrev pub with_words : Frame → List Word → Frame
with_words f words = record { serial = f.serial; instance = f.instance; pc = f.pc; words = words }

-- The process with these frames.
abbrev pub with_frames : Process → Frame → List Frame → List Frame → Process
with_frames p f below made = record { number = p.number; frame = f; below = below; made = made; printing = None }

-- Nothing is there to do: a reply that is none.
abbrev pub stands_still : World → Process → Does
stands_still x p = Parks x [] p

-- An effect, or the fault or the raise that comes instead, neither of which changes anything else. Nothing handles an exception yet: a
-- process that raises one is broken, with its text.
abbrev pub or_fault : World → Process → Access Does → Does
or_fault x p (Found does) = does
or_fault x p (Wrong number) = Ends x (Faulted number p.frame.pc)
or_fault x p (Raises text) = Ends x (Broken text)
