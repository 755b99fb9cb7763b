-- What the channels carry that instructions make by their own names.
use Rattle.std.specs.Prelude.{[], ◌∷◌}
use Rattle.dis_file.specs.declared.types.TypeDesc.{TypeDesc}
use Rattle.dis_memory.specs.Step.{type_of_size}
use Rattle.dis_makings.specs.declared.channels.Carried.{Carried}
use Rattle.dis_makings.specs.declared.channels.Carried.TheVariants as carried

-- The type of each: newcb, newcw, newcl and newcp.
abbrev pub type_carried : Carried → TypeDesc
type_carried carried.Byte = type_of_size 1 []
type_carried carried.Word = type_of_size 4 []
type_carried carried.Big = type_of_size 8 []
type_carried carried.Reference = type_of_size 4 (128 ∷ [])
