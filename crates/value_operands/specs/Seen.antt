-- What the code of a function sees, as the code has it.
use Rattle.std.specs.Prelude.{map}
use Rattle.limbo_types.specs.View.{view_ty}
use Rattle.limbo_layout.specs.View.{view_defs}
use Rattle.value_code.specs.Operands.{Scene}
use Rattle.value_operands.specs.declared.scene.Scene as code

abbrev pub scene_of : code.Scene → Scene
scene_of s = record { adts = view_defs s.rooms.now; globals = map view_ty s.globals.now; variables = map view_ty s.variables.now }
