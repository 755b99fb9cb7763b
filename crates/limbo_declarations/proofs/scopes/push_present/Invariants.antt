use Rattle.std.proofs.Common.{◌≡◌, ◌++◌, map, drop}
use Rattle.limbo_tree.specs.View.{name_of}
use Rattle.limbo_declarations.specs.Scopes.{present}
use Rattle.limbo_declarations.specs.View.{texts_of}
use Rattle.limbo_declarations.proofs.scopes.push_present.Given as goal

abbrev pub invariant-loop-name : goal.invariant-loop-name
invariant-loop-name l = texts_of l.all.items ++ present (map name_of (drop l.name-index l.names)) ≡ texts_of l.fn.all.items ++ present (map name_of l.names)
