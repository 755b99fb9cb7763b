-- The places of an assignment, without how they lie in memory.
use Rattle.limbo_types.specs.View.{view_ty}
use Rattle.limbo_meaning.specs.Trees.{Aim}
use Rattle.core_data.specs.View.{view_way}
use Rattle.core_parts.specs.declared.aims.Aim as code_aim

abbrev pub view_aim : code_aim.Aim → Aim
view_aim a = record { part = a.part.items; type = view_ty a.ty; way = view_way a.way }
