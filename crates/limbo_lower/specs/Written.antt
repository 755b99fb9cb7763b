-- Code is written from its end to its beginning: what is written last stands first.
use Rattle.std.specs.Prelude.{List, map, reverse}
use Rattle.core_code.specs.Code.{Instr}
use Rattle.core_data.specs.declared.code.Inst as code_inst
use Rattle.core_data.specs.View.{view_inst}

unfoldable pub written : List code_inst.Inst → List Instr
written is = reverse (map view_inst is)
