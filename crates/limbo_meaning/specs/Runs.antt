-- A run of a module: its opening, and the steps and replies that follow.
use Rattle.std.specs.Prelude.{ℕ, suc, ◌≡◌, List, [], ◌∷◌, Option, Some, None, slice_get}
use Rattle.styx_msg.specs.declared.message.Rmsg.{Rmsg}
use Rattle.process_model.specs.Source.{Config, Turn, Matched}
use Rattle.process_model.specs.Law.{begins}
use Rattle.heap_model.specs.Heap.{Heap}
use Rattle.limbo_types.specs.Types.{Nothing}
use Rattle.limbo_typed.specs.Typed.{Module}
use Rattle.system_model.specs.Limits.{frames_limit}
use Rattle.system_model.specs.World.{opening_world}
use Rattle.system_model.specs.Prints.{Request}
use Rattle.system_model.specs.Ending.{Ending}
use Rattle.limbo_meaning.specs.Values.{Value, Chars, Ref}
use Rattle.limbo_meaning.specs.Memory.{HeapValue, Cell, Instance}
use Rattle.limbo_meaning.specs.Program.{Routine, program_of, globals_of}
use Rattle.limbo_meaning.specs.Process.{Shared, Process, frame_of}
use Rattle.limbo_meaning.specs.Rules.{rules, naming}

-- A list of strings, whose cells have the names from here on.
abbrev pub list_from : ℕ → List (List ℕ) → Option ℕ
list_from n [] = None
list_from n (s ∷ ss) = Some n

abbrev pub cells_from : ℕ → List (List ℕ) → Heap HeapValue
cells_from n [] = []
cells_from n (s ∷ ss) = Some (Cell (Chars s) (list_from (suc n) ss)) ∷ cells_from (suc n) ss

-- The world that a program begins in: nothing was asked; in the heap there are the instance of the first module, whose variables have what
-- they begin with, and the list of the program's words.
abbrev pub first_world : Module → (words : List (List ℕ)) → Shared
first_world m words = record { heap = Some (Instance (globals_of m)) ∷ cells_from 1 words; outside = opening_world }

-- The first process, number 1: one frame, of the function that begins, with `nil` and the list of words.
abbrev pub first_process : Module → (words : List (List ℕ)) → Routine → Process
first_process m words r = record {
  number = 1;
  frame = frame_of m.adts 0 r Nothing (Ref None ∷ Ref (list_from 1 words) ∷ []);
  below = [];
  printing = None;
}

abbrev pub Meaning : Type 0
Meaning = Config Shared Process Value Request Rmsg Ending

-- A run of a module that begins with its function `init`: from the opening world, with nothing told, by these turns, each so many
-- steps of one process, with replies between them, to a configuration, whose trace is what was told.
pub record MeaningRun (m : Module) (words : List (List ℕ)) (init : ℕ) (turns : List Turn) (c : Meaning) : Type 0 where
  pub first : Routine
  pub there : slice_get (program_of m).routines init ≡ Some first
  pub run : Matched (rules frames_limit (program_of m)) naming (begins (first_world m words) (first_process m words first)) turns c
