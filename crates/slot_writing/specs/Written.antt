-- Code is written from its end to its beginning: what is written last stands first.
use Rattle.std.specs.Prelude.{List, map, reverse}
use Rattle.slot_code.specs.declared.code.Inst as code_inst
use Rattle.slot_code.specs.Code.{Inst}
use Rattle.slot_code.specs.View.{view_inst}

unfoldable pub written : List code_inst.Inst → List Inst
written is = reverse (map view_inst is)
