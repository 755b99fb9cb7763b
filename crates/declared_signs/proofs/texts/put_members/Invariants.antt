use Rattle.std.proofs.Common.{map, take}
use Rattle.limbo_adts.specs.Table.{defs_of}
use Rattle.limbo_typed.specs.View.{view_signature}
use Rattle.link_sign.specs.Clashes.{texts_of}
use Rattle.declared_signs.specs.Texts.{Adds}
use Rattle.declared_signs.proofs.texts.put_members.Given as goal

abbrev pub invariant-loop-function : goal.invariant-loop-function
invariant-loop-function l =
    Adds (defs_of l.adts) l.adts.modules (map (λ f. f.of) (map view_signature (take l.function-index l.interface.functions.items)))
    (texts_of l.fn.texts.items) (texts_of l.texts.items)
