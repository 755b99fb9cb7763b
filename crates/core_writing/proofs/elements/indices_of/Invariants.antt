use Rattle.std.proofs.Common.{◌≡◌, ◌++◌, List, drop}
use Rattle.limbo_layout.specs.Adts.{Def}
use Rattle.limbo_meaning.specs.Program.{items_of}
use Rattle.core_code.specs.Terms.{named}
use Rattle.core_writing.specs.Initialisers.{view_items}
use Rattle.core_writing.proofs.elements.indices_of.Given as goal

abbrev pub invariant-loop-item : goal.invariant-loop-item
invariant-loop-item l = (defs : List Def) →
    l.indices.items ++ named defs (items_of (view_items (drop l.item-index l.items))) ≡ named defs (items_of (view_items l.items))
