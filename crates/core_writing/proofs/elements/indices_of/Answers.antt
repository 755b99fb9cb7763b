use Rattle.std.proofs.Common.{refl, sym, ap, ◌∙◌, ◌++◌}
use Rattle.std.proofs.lemmas.List.{drop_all, append-nil}
use Rattle.limbo_meaning.specs.Program.{items_of}
use Rattle.core_code.specs.Terms.{named}
use Rattle.core_writing.specs.Initialisers.{view_items}
use Rattle.core_writing.proofs.Stored.{indices_on}
use Rattle.core_writing.proofs.elements.indices_of.Goals as goal

pub loop-item-preserved : goal.loop-item-preserved
loop-item-preserved c = λ defs.
    indices_on defs c.args.items.now c.loop-item.item-index c.item-item.result _ c.loop-item.indices.items _ c.loop-item-test.true
    c.item-item.is refl (c.in_ok-add_index.ensures {u = tt}) ∙ c.loop-item.invariant defs

pub returns : goal.returns
returns c =
    let none = drop_all c.loop-item.item-index c.args.items.now c.loop-item-test.false in
    let zs = c.loop-item.indices.items in
    λ defs. sym (append-nil zs) ∙ ap (λ is. zs ++ named defs (items_of (view_items is))) (sym none) ∙ c.loop-item.invariant defs
