use Rattle.std.proofs.Common.{◌≡◌, ◌++◌, drop, map}
use Rattle.limbo_tree.specs.View.{name_of}
use Rattle.limbo_bodies.specs.View.{names_seen}
use Rattle.limbo_bodies.proofs.parameters.push_names.Given as goal

abbrev pub invariant-loop-name : goal.invariant-loop-name
invariant-loop-name l =
    names_seen l.names.items ++ map name_of (drop l.name-index l.more) ≡ names_seen l.fn.names.items ++ map name_of l.more
