use Rattle.std.proofs.Common.{map, take}
use Rattle.limbo_adts.specs.Table.{defs_of}
use Rattle.limbo_typed.specs.View.{view_interface}
use Rattle.link_sign.specs.Clashes.{texts_of}
use Rattle.declared_signs.specs.Texts.{Adds}
use Rattle.std.specs.List.{flat_map}
use Rattle.declared_signs.specs.Declared.{members}
use Rattle.declared_signs.proofs.texts.put_imported.Given as goal

abbrev pub invariant-loop-interface : goal.invariant-loop-interface
invariant-loop-interface l =
    Adds (defs_of l.adts) l.adts.modules (flat_map members (map view_interface (take l.interface-index l.interfaces)))
    (texts_of l.fn.texts.items) (texts_of l.texts.items)
