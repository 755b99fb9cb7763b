-- What holds of every module of the part.
use Rattle.std.specs.Prelude.{ℕ, ◌*◌, ◌≤◌, ◌≡◌, true, [], Some, slice_get}
use Rattle.limbo_typed.specs.Typed.{Function, Module}
use Rattle.typed_lower.specs.Sizes.{frame_size}
use Rattle.typed_lower.specs.Statements.{function_code, functions_code, module_code}
use Rattle.typed_part.specs.Part.{is_part}
use Rattle.dis_objects.specs.Frames.{room_of, most_bytes}
use Rattle.dis_objects.specs.Proper.{IsProper}
use Rattle.part_code.specs.Held.{AllHeld}

-- Its code is proper.
abbrev pub PartIsProper : Type 0
PartIsProper = (m : Module) → is_part m ≡ true → IsProper (module_code m)

-- The frame of each of its functions, as it is laid, has no more bytes than its size counts.
abbrev pub FramesFit : Type 0
FramesFit =
    (m : Module) → is_part m ≡ true → (n : ℕ) (f : Function) → slice_get m.functions n ≡ Some f
    → (room_of (functions_code m) (function_code f)).size ≤ frame_size f

-- The machine can hold each instruction of their code.
abbrev pub InstructionsHeld : Type 0
InstructionsHeld =
    (m : Module) → is_part m ≡ true → (n : ℕ) (f : Function) → slice_get m.functions n ≡ Some f → AllHeld (function_code f).code

-- Arguments that are being made ready at one time have less than a third of the bytes of a frame: each of them is a node too.
abbrev pub ArgumentsFew : Type 0
ArgumentsFew =
    (m : Module) → is_part m ≡ true → (n : ℕ) (f : Function) → slice_get m.functions n ≡ Some f
    → 3 * most_bytes (functions_code m) [] (function_code f).code ≤ frame_size f
