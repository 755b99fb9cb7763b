-- A block is there exactly where its count isn't 0.
use Rattle.std.specs.Prelude.{ℕ, ◌<◌, ◌≡◌, ◌↔◌, List, ◌∷◌, Some}
use Rattle.styx_msg.specs.declared.message.Rmsg.{Rmsg}
use Rattle.process_model.specs.Machine.{State, Event, turns, happens, replay}
use Rattle.process_model.specs.Law.{begins_code}
use Rattle.dis_file.specs.declared.object.Object.{Object}
use Rattle.system_model.specs.Values.{Value}
use Rattle.system_model.specs.Prints.{Request}
use Rattle.system_model.specs.Ending.{Ending}
use Rattle.dis_meaning.specs.Words.{Found}
use Rattle.dis_meaning.specs.Process.{Process}
use Rattle.dis_memory.specs.Blocks.{World}
use Rattle.dis_memory.specs.Naming.{naming, count}
use Rattle.dis_memory.specs.Rules.{rules}
use Rattle.dis_memory.specs.Sound.{IsThere}
use Rattle.dis_counts.specs.Opening.{Opened, opened}

-- A machine: its processes, their world, those that wait, and what was told.
abbrev pub Machine : Type 0
Machine = State World Process Value Request Rmsg Ending

-- The count of a block is the number of reference words that name it, over the frames of all processes and over all blocks that are
-- there; a frame names its instance.
abbrev pub CountsAreExact : Machine → Type 0
CountsAreExact s = (n : ℕ) → IsThere s.world n ↔ (0 < count s.world s.processes n)

-- As a machine begins.
abbrev pub begun : Opened → Machine
begun m = begins_code m.world m.first

-- So it is as a machine begins.
abbrev pub OpeningCounts : Type 0
OpeningCounts = (o : Object) (m : Opened) → opened o ≡ Found m → CountsAreExact (begun m)

-- Whatever happens keeps it so: instructions of any process, by which it goes on, waits, meets another, starts one, asks, ends or breaks;
-- and each event of a journal, a quantum of instructions, a reply or a link that is lost.
pub record EventsKeepCounts : Type 0 where
  pub instructions : (limit : ℕ) (objects : List Object) (s t : Machine) (i n : ℕ) → CountsAreExact s →
      turns (rules limit objects) naming i n s ≡ Some t → CountsAreExact t
  pub event : (limit longest : ℕ) (objects : List Object) (s t : Machine) (e : Event Rmsg) → CountsAreExact s →
      happens (rules limit objects) naming longest s e ≡ Some t → CountsAreExact t

-- So it is in every state that a run comes to: after any journal, and then so many instructions of any process, as they stand within a
-- quantum.
abbrev pub CountsStayExact : Type 0
CountsStayExact =
    (limit longest : ℕ) (o : Object) (others : List Object) (m : Opened) → opened o ≡ Found m →
    (journal : List (Event Rmsg)) (s : Machine) →
    replay (rules limit (o ∷ others)) naming longest (begun m) journal ≡ Some s →
    (i n : ℕ) (t : Machine) → turns (rules limit (o ∷ others)) naming i n s ≡ Some t → CountsAreExact t
