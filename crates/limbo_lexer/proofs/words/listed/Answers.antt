use Rattle.std.proofs.Common.{refl, sym, ◌∙◌}
use Rattle.std.proofs.lemmas.Bool.{iff_false}
use Rattle.limbo_lexer.proofs.Tables.{listed_hit, listed_miss, listed_end}
use Rattle.limbo_lexer.proofs.words.listed.Goals as goal

pub loop-spelling-init : goal.loop-spelling-init
loop-spelling-init g c = refl

pub returns-then-is_spelled : goal.returns-then-is_spelled
returns-then-is_spelled g c =
    sym (listed_hit (λ row. (row.0.now, row.1)) c.args.table.now c.args.text.now c.loop-spelling.spelling-index c.loop-spelling-item.result c.loop-spelling-test.true c.loop-spelling-item.is (c.is_spelled.ensures.0 c.if-is_spelled.true))
    ∙ c.loop-spelling.invariant

pub loop-spelling-preserved : goal.loop-spelling-preserved
loop-spelling-preserved g c =
    sym (listed_miss (λ row. (row.0.now, row.1)) c.args.table.now c.args.text.now c.loop-spelling.spelling-index c.loop-spelling-item.result c.loop-spelling-test.true c.loop-spelling-item.is
    (iff_false c.is_spelled.ensures c.if-is_spelled.false))
    ∙ c.loop-spelling.invariant

pub returns : goal.returns
returns g c =
    sym (listed_end (λ row. (row.0.now, row.1)) c.args.table.now c.args.text.now c.loop-spelling.spelling-index c.loop-spelling-test.false)
    ∙ c.loop-spelling.invariant
