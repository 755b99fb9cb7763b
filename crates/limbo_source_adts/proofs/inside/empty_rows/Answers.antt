use Rattle.std.proofs.Common.{◌≡◌, ◌+◌, ◌++◌, ◌∷◌, [], suc, ap, ◌∙◌, arith}
use Rattle.limbo_order.specs.View.{rows}
use Rattle.limbo_source_adts.specs.Empty.{none_each}
use Rattle.limbo_source_adts.proofs.Insides.{rows_push, none_push}
use Rattle.limbo_source_adts.proofs.inside.empty_rows.Goals as goal

pub loop-preserved : goal.loop-preserved
loop-preserved c =
    let n = c.loop.counter in
    let e : suc n ≡ n + 1 = omega arith in
    ap rows c.in_ok-push.ensures.items ∙ rows_push c.loop.all.items c.new.result ∙ ap (λ rs. rs ++ (c.new.result.items ∷ [])) c.loop.invariant
    ∙ ap (λ r. none_each n ++ (r ∷ [])) c.new.ensures.items ∙ none_push n ∙ ap none_each e
