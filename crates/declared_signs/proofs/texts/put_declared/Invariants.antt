use Rattle.std.proofs.Common.{map, take}
use Rattle.limbo_adts.specs.Table.{defs_of}
use Rattle.limbo_typed.specs.View.{view_declared}
use Rattle.link_sign.specs.Clashes.{texts_of}
use Rattle.declared_signs.specs.Texts.{Adds}
use Rattle.declared_signs.proofs.texts.put_declared.Given as goal

abbrev pub invariant-loop-function : goal.invariant-loop-function
invariant-loop-function l =
    Adds (defs_of l.adts) l.adts.modules (map (λ f. f.of) (map view_declared (take l.function-index l.functions)))
    (texts_of l.fn.texts.items) (texts_of l.texts.items)
