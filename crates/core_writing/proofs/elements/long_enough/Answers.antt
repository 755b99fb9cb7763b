use Rattle.std.proofs.Common.{arith, ap, ◌∙◌}
use Rattle.std.proofs.lemmas.List.{drop_all}
use Rattle.limbo_meaning.specs.Program.{long_enough}
use Rattle.core_writing.specs.Initialisers.{view_items}
use Rattle.core_writing.proofs.Stored.{long_on}
use Rattle.core_writing.proofs.elements.long_enough.Goals as goal

pub loop-item-preserved : goal.loop-item-preserved
loop-item-preserved c =
    long_on c.args.items.now c.loop-item.item-index c.item-item.result c.loop-item.longest _ _ c.loop-item-test.true c.item-item.is
    c.length_with-own.ensures
    c.max-longest.ensures ∙ c.loop-item.invariant

pub returns : goal.returns
returns c =
    let none = ap (λ is. long_enough (view_items is)) (drop_all c.loop-item.item-index c.args.items.now c.loop-item-test.false) in
    omega (arith, none, c.loop-item.invariant)
