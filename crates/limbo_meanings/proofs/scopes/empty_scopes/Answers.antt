use Rattle.std.proofs.Common.{◌≡◌, ◌+◌, ◌++◌, ◌∷◌, [], suc, ap, ◌∙◌, arith}
use Rattle.limbo_meanings.specs.Names.{empty_each}
use Rattle.limbo_meanings.proofs.Inside.{none_push}
use Rattle.limbo_meanings.proofs.scopes.empty_scopes.Goals as goal

pub loop-preserved : goal.loop-preserved
loop-preserved c =
    let n = c.loop.counter in
    let e : suc n ≡ n + 1 = omega arith in
    c.in_ok-push.ensures.items ∙ ap (λ rs. rs ++ (c.new.result ∷ [])) c.loop.invariant ∙ ap (λ r. empty_each n ++ (r ∷ [])) c.new.ensures
    ∙ none_push n ∙ ap empty_each e
