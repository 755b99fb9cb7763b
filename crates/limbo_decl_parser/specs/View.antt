-- The inside of an adt as the code has it, without places.
use Rattle.std.specs.Prelude.{List, map, Option, option_map, Vec}
use Rattle.std.specs.Global.{Global}
use Rattle.limbo_tree.specs.declared.decl.Member as code_member
use Rattle.limbo_tree.specs.declared.decl.Variant as code_variant
use Rattle.limbo_tree.specs.View.{view_members, view_variant}
use Rattle.limbo_decl_parser.specs.Decls.{Inside}

abbrev pub view_inside : List code_member.Member → Option (Vec code_variant.Variant Global) → Inside
view_inside ms pick = record { members = view_members ms; pick = option_map (λ vs. map view_variant vs.items) pick }
