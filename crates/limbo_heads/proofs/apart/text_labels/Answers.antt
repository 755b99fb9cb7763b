use Rattle.std.proofs.Common.{map}
use Rattle.limbo_cases.specs.Texts.{text_label}
use Rattle.limbo_heads.specs.Labels.{label_in, text_in}
use Rattle.limbo_heads.proofs.Labelled.{one_pattern_more}
use Rattle.limbo_heads.proofs.apart.text_labels.Goals as goal

pub loop-pattern-preserved : goal.loop-pattern-preserved
loop-pattern-preserved c =
    one_pattern_more (label_in text_in) c.args.patterns.now c.loop-pattern.pattern-index c.pattern-item.result
    (map text_label c.loop-pattern.all.items) (map text_label c.push_text.new.all.items) c.pattern-item.is c.loop-pattern-test.true
    c.in_ok-push_text.ensures c.loop-pattern.invariant
