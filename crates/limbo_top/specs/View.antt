-- What the code's tops and definitions stand for.
use Rattle.std.specs.Prelude.{List, map}
use Rattle.limbo_tree.specs.View.{view_top, view_fn, name_of}
use Rattle.limbo_includes.specs.declared.included.Standing as code_standing
use Rattle.limbo_top.specs.declared.tops.Definition as code_definition
use Rattle.limbo_top.specs.Tops.{Placed, Definition}

abbrev pub view_standing : code_standing.Standing → Placed
view_standing s = record { path = s.path.now; top = view_top s.top.now }

abbrev pub placed : List code_standing.Standing → List Placed
placed ss = map view_standing ss

abbrev pub view_definition : code_definition.Definition → Definition
view_definition d = record {
  path = d.path.now;
  name = d.function.now.name.text;
  part = name_of d.function.now.part;
  of = view_fn d.function.now.of;
}

abbrev pub definitions_of : List code_definition.Definition → List Definition
definitions_of ds = map view_definition ds
