-- When a frame of the code stands for one of the program.
use Rattle.std.specs.Prelude.{◌≡◌, ℕ, ◌<◌, List, [], ◌∷◌, ◌++◌, length, Option, Some, None, slice_get}
use Rattle.process_model.specs.Process.{Went, Ends}
use Rattle.limbo_types.specs.Types.{Ty}
use Rattle.system_model.specs.Values as system
use Rattle.system_model.specs.Prints.{Writing, print}
use Rattle.system_model.specs.Ending.{Broken}
use Rattle.limbo_meaning.specs.Values.{Value, Chars, references, among, fitted}
use Rattle.limbo_meaning.specs.Memory.{Memory}
use Rattle.limbo_meaning.specs.Trees.{Block}
use Rattle.limbo_meaning.specs.Evaluation.{fill_block}
use Rattle.limbo_meaning.specs.Program.{Program}
use Rattle.limbo_meaning.specs.Process as source
use Rattle.limbo_meaning.specs.Process.{Shared, shared_with}
use Rattle.limbo_meaning.specs.Step as source_step
use Rattle.core_code.specs.Slots.{Slots, slot, slots_name}
use Rattle.core_code.specs.Code.{Instr, Place, Known, Start, Keep, Back}
use Rattle.core_code.specs.Machine as machine
use Rattle.core_code.specs.Machine.{Frame, at, together, waiting, answered}
use Rattle.core_code.specs.Statements.{code_of}
use Rattle.core_follows.specs.Drops.{IsWhole}
use Rattle.core_follows.specs.Does.{Does}

-- ---- both processes

-- The program's frame beside one of the code, with this to do: it holds what the slots name.
abbrev pub beside : Frame → (held : List (Option ℕ)) → Block → source.Frame
beside g held todo = record { instance = g.instance; variables = g.variables; held = held; answer = g.answer; todo = todo }

abbrev pub sourced : (number : ℕ) → source.Frame → List source.Frame → source.Process
sourced n f below = record { number = n; frame = f; below = below; printing = None }

abbrev pub coded : (number : ℕ) → Frame → List Frame → Option Writing → machine.Process
coded n g below p = record { number = n; frame = g; below = below; printing = p }

abbrev pub SlotsName : Slots → List (Option ℕ) → Type 0
SlotsName slots held = (n : ℕ) → slots_name slots n ≡ among n held

-- In no slot anything is put together.
abbrev pub SlotsWhole : Slots → Type 0
SlotsWhole slots = (s : ℕ) → IsWhole (slot slots s)

-- The frame whose operands are together as one value, where there are any; the value may have others in front.
abbrev pub joined : (front : List Value) → Frame → Option ℕ → Frame
joined front g o = at g g.pc g.variables (together front g.slots o)

-- ---- the pace

-- Instructions that may stand for no step: an operand that moves to what is put together, a value that is known, the start of a loop of an
-- initialiser, what a turn of it keeps, and the way back behind that. The others stand for one; of three in a row one is such.
abbrev pub place : Instr → ℕ
place (Place t v k part into from) = 0
place (Known v s) = 1
place (Start loop) = 0
place (Keep loop from words) = 0
place (Back n) = 1
place i = 2

abbrev pub place_at : Option Instr → ℕ
place_at None = 0
place_at (Some i) = place i

module _ (limit : ℕ) (program : Program) where
  abbrev pub sstep : Shared → source.Process → source.Does
  sstep w p = source_step.step limit program w p

  abbrev pub obeys : Shared → machine.Process → Instr → machine.Does
  obeys w q i = machine.does limit (code_of program) w q i

  -- A step of the program in whatever world that changes nothing but what is left to do.
  abbrev pub Quiet : Frame → (held : List (Option ℕ)) → (before after : Block) → Type 0
  Quiet g held todo after =
      (w : Shared) (n : ℕ) (below : List source.Frame)
      → sstep w (sourced n (beside g held todo) below) ≡ Went w (sourced n (beside g held after) below)

  -- Whatever the world then is and whatever waits below: the code's next instruction does what a step of the program does, or nothing that
  -- the program has, and behind it the one frame stands for the other again. The program may take quiet steps first. In each place the
  -- slots name what the frame of the program holds, each as often.
  mutual
    pub data Stands : Frame → List (Option ℕ) → Block → Type 0 where
      outside : {g : Frame} {todo : Block} → SlotsName g.slots [] → SlotsWhole g.slots
          → Does program.adts g.code (length g.slots) g.pc todo → Stands g [] todo
      going : {g : Frame} {held : List (Option ℕ)} {todo : Block} → Going g held todo → Stands g held todo
      quietly : {g : Frame} {held : List (Option ℕ)} {todo : Block} (after : Block) → Quiet g held todo after → Stands g held after
          → Stands g held todo

    pub data Going : Frame → List (Option ℕ) → Block → Type 0 where
      softly : {g : Frame} {held : List (Option ℕ)} {todo : Block} (after : Block) → Quiet g held todo after → Going g held after
          → Going g held todo
      obeying : {g : Frame} {held : List (Option ℕ)} {todo : Block} (i : Instr) → SlotsName g.slots held
          → slice_get g.code g.pc ≡ Some i → ((w : Shared) → Next w g held todo i) → Going g held todo

    pub data Next : Shared → Frame → List (Option ℕ) → Block → Instr → Type 0 where
      goes : {w : Shared} {g : Frame} {held : List (Option ℕ)} {todo : Block} {i : Instr} (m : Memory) (pc : ℕ) (slots : Slots)
          (held' : List (Option ℕ)) (after : Block)
          → ((n : ℕ) (below : List Frame) (p : Option Writing)
          → obeys w (coded n g below p) i ≡ Went (shared_with w m) (coded n (at g pc m.variables slots) below None))
          → ((n : ℕ) (below : List source.Frame)
          → sstep w (sourced n (beside g held todo) below)
          ≡ Went (shared_with w m) (sourced n (beside (at g pc m.variables slots) held' after) below))
          → Stands (at g pc m.variables slots) held' after → Next w g held todo i
      rests : {w : Shared} {g : Frame} {held : List (Option ℕ)} {todo : Block} {i : Instr} (pc : ℕ) (slots : Slots)
          → ((n : ℕ) (below : List Frame) (p : Option Writing)
          → obeys w (coded n g below p) i ≡ Went w (coded n (at g pc g.variables slots) below None))
          → place i < place_at (slice_get g.code pc) → Stands (at g pc g.variables slots) held todo → Next w g held todo i
      raises : {w : Shared} {g : Frame} {held : List (Option ℕ)} {todo : Block} {i : Instr} (text : List ℕ)
          → ((n : ℕ) (below : List Frame) (p : Option Writing) → obeys w (coded n g below p) i ≡ Ends w (Broken text))
          → ((n : ℕ) (below : List source.Frame) → sstep w (sourced n (beside g held todo) below) ≡ Ends w (Broken text))
          → Next w g held todo i
      calls : {w : Shared} {g : Frame} {held : List (Option ℕ)} {todo : Block} {i : Instr} (t : Ty) (f into : ℕ) (o : Option ℕ)
          (arguments : List Value) (waits : Block)
          → ((n : ℕ) (below : List Frame) (p : Option Writing)
          → obeys w (coded n g below p) i
          ≡ machine.calls program.adts limit w (coded n (joined [] g o) below p) t into (slice_get (code_of program).functions f) arguments)
          → ((n : ℕ) (below : List source.Frame)
          → sstep w (sourced n (beside g held todo) below)
          ≡ source.calls program.adts limit w (sourced n (beside g held todo) below) waits t (slice_get program.routines f) arguments)
          → Waits (waiting (joined [] g o) into) t held waits → Next w g held todo i
      prints : {w : Shared} {g : Frame} {held : List (Option ℕ)} {todo : Block} {i : Instr} (into : ℕ) (o : Option ℕ) (text : List ℕ)
          (waits : Block)
          → ((n : ℕ) (below : List Frame) (p : Option Writing)
          → obeys w (coded n g below p) i
          ≡ machine.prints w (coded n g below p) (waiting (joined (Chars [] ∷ []) g o) into) (print w.outside text))
          → ((n : ℕ) (below : List source.Frame)
          → sstep w (sourced n (beside g held todo) below)
          ≡ source.prints w (sourced n (beside g held todo) below) waits (print w.outside text))
          → Hears (waiting (joined (Chars [] ∷ []) g o) into) held waits → Next w g held todo i
      returns : {w : Shared} {g : Frame} {held : List (Option ℕ)} {todo : Block} {i : Instr} (v : Value)
          → ((n : ℕ) (below : List Frame) (p : Option Writing)
          → obeys w (coded n g below p) i ≡ machine.returns program.adts w (coded n g below p) below v)
          → ((n : ℕ) (below : List source.Frame)
          → sstep w (sourced n (beside g held todo) below)
          ≡ source.returns program.adts w (sourced n (beside g held todo) below) below v)
          → Next w g held todo i

    -- Two frames that wait for the answer of a call, whatever it will be, as one of this type. What it refers to is held then.
    pub data Waits : Frame → Ty → List (Option ℕ) → Block → Type 0 where
      waits : {g : Frame} {t : Ty} {held : List (Option ℕ)} {todo : Block} → SlotsName g.slots held
          → ((v : Value) → Stands (answered g (fitted program.adts t v)) (held ++ references (fitted program.adts t v))
          (fill_block (fitted program.adts t v) todo)) → Waits g t held todo

    -- Two that wait for what a print answers.
    pub data Hears : Frame → List (Option ℕ) → Block → Type 0 where
      hears : {g : Frame} {held : List (Option ℕ)} {todo : Block} → SlotsName g.slots held
          → ((v : system.Value) → Stands (answered g (source.value_of v)) held (fill_block (source.value_of v) todo)) → Hears g held todo
