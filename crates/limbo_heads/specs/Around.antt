-- What stands around a statement, without how it lies in memory.
use Rattle.std.specs.Prelude.{map}
use Rattle.limbo_types.specs.View.{view_ty}
use Rattle.limbo_tree.specs.View.{name_of}
use Rattle.limbo_stmt_values.specs.limbo_stating.Around.{Turn, Around}
use Rattle.limbo_heads.specs.declared.around.Turn as code_turn
use Rattle.limbo_heads.specs.declared.around.Around as code_around

abbrev pub view_turn : code_turn.Turn → Turn
view_turn t = record { label = name_of t.label.now; is_loop = t.is_loop }

abbrev pub view_around : code_around.Around → Around
view_around v = record {
  answer = view_ty v.answer.now;
  module_name = v.module_name.now;
  turns = map view_turn v.turns.items;
  caught = v.caught;
}
