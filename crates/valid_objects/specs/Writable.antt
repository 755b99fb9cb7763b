-- Modules of three-address code whose object a file can hold.
use Rattle.std.specs.Prelude.{ℕ, ◌≡◌, ◌≤◌, true, [], length, Some, slice_get}
use Rattle.std.specs.Str.{all_scalars}
use Rattle.slot_code.specs.Code.{Function, Module}
use Rattle.dis_format.specs.Parts.{no_zero}
use Rattle.dis_format.specs.Objects.{IsValid}
use Rattle.dis_objects.specs.Frames.{most_bytes}
use Rattle.dis_objects.specs.Objects.{all_code, object_of, most_instructions}
use Rattle.dis_objects.specs.Proper.{IsProper}
use Rattle.dis_objects.specs.Words.{AllSmall}
use Rattle.dis_objects.specs.Spelled.{AreSpelled}
use Rattle.part_code.specs.Held.{AllHeld}

-- The most bytes of arguments that one instruction moves: so many that their number is an immediate in the middle.
abbrev pub most_moved : ℕ
most_moved = 32767

-- Its code is proper, its frames and variables are small, and it hasn't too many instructions, each of which the machine can hold; no call
-- has more arguments than are moved at once; its name and the texts of its data are of Unicode characters, and no character of its name is
-- 0, which ends it.
pub record IsWritable (m : Module) : Type 0 where
  pub proper : IsProper m
  pub small : AllSmall m
  pub short : length (all_code m) ≤ most_instructions
  pub held : (n : ℕ) (f : Function) → slice_get m.functions n ≡ Some f → AllHeld f.code
  pub moved : (n : ℕ) (f : Function) → slice_get m.functions n ≡ Some f → most_bytes m.functions [] f.code ≤ most_moved
  pub name : all_scalars m.name ≡ true
  pub ended : no_zero m.name ≡ true
  pub texts : AreSpelled (object_of m).items

abbrev pub ObjectIsValid : Type 0
ObjectIsValid = (m : Module) → IsWritable m → IsValid (object_of m)
