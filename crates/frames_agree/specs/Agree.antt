-- Frames are as large by either pass of the compiler.
use Rattle.std.specs.Prelude.{ℕ, ◌≡◌, ◌↔◌, true, Some, slice_get}
use Rattle.limbo_typed.specs.Typed.{Function, Module}
use Rattle.limbo_typed.specs.Sound.{IsSound}
use Rattle.typed_lower.specs.Sizes as numbers
use Rattle.typed_part.specs.Part.{is_part}
use Rattle.core_frames.specs.Sizes as values

-- A checked module of numbers alone has frames of the same sizes by the pass over numbers and by the pass over values, and so are its
-- variables. So one of them finds a frame too large exactly where the other does.
pub record FramesAgree : Type 0 where
  pub frames : (m : Module) (n : ℕ) (f : Function) → IsSound m → is_part m ≡ true → slice_get m.functions n ≡ Some f →
      values.frame_size m.adts f ≡ numbers.frame_size f
  pub globals : (m : Module) → is_part m ≡ true → values.globals_size m ≡ numbers.globals_size m
  pub too_large : (m : Module) → IsSound m → is_part m ≡ true → numbers.FrameTooLarge m ↔ values.FrameTooLarge m
