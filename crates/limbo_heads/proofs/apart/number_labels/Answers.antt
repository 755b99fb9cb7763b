use Rattle.limbo_heads.specs.Labels.{label_in, number_in}
use Rattle.limbo_heads.proofs.Labelled.{one_pattern_more}
use Rattle.limbo_heads.proofs.apart.number_labels.Goals as goal

pub loop-pattern-preserved : goal.loop-pattern-preserved
loop-pattern-preserved c =
    one_pattern_more (label_in number_in) c.args.patterns.now c.loop-pattern.pattern-index c.pattern-item.result c.loop-pattern.all.items
    c.push_number.new.all.items c.pattern-item.is c.loop-pattern-test.true c.in_ok-push_number.ensures c.loop-pattern.invariant
