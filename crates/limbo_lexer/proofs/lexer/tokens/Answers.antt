use Rattle.std.proofs.Common.{◌≡◌, ◌++◌, map, option_to_list, sym, ap, ◌∙◌, subst, append-nil}
use Rattle.std.proofs.lemmas.List.{map-append}
use Rattle.limbo_lexer.specs.Tokens.{Cuts}
use Rattle.limbo_lexer.proofs.Cutting.{cuts_more, shorter}
use Rattle.limbo_lexer.proofs.lexer.tokens.Goals as goal
use Rattle.limbo_lexer.proofs.lexer.tokens.Goals.{in-Some+in_ok-push, in_default}

pub loop-rest-smaller : goal.loop-rest-smaller
loop-rest-smaller c = shorter c.loop-rest.rest.now (option_to_list c.in-Ok.piece.kind) c.in-Ok.piece.rest.now c.in-Ok.ensures.found

pub loop-rest-preserved : goal.loop-rest-preserved
loop-rest-preserved c =
    let h = cuts_more c.args.text.now (map (λ token. token.kind) c.loop-rest.tokens.items) c.loop-rest.rest.now (option_to_list c.in-Ok.piece.kind) c.in-Ok.piece.rest.now c.loop-rest.invariant c.in-Ok.ensures.found in
    let old = c.loop-rest.tokens.items in
    let same : map (λ token. token.kind) old ++ option_to_list c.in-Ok.piece.kind ≡ map (λ token. token.kind) c.match-kind.tokens.items =
    elim c.match-kind.branch [
      | in-Some+in_ok-push w ↦ ap (λ o. map (λ token. token.kind) old ++ option_to_list o) w.in-Some.is ∙ sym (ap (λ t. map (λ token. token.kind) t.items) w.tokens-is ∙ ap (map (λ token. token.kind)) w.in_ok-push.ensures.items ∙ map-append (λ token. token.kind) old _)
      | in_default w ↦ ap (λ o. map (λ token. token.kind) old ++ option_to_list o) w.in_default.is ∙ append-nil (map (λ token. token.kind) old) ∙ sym (ap (λ t. map (λ token. token.kind) t.items) w.tokens-is)
    ]
    in
    subst (λ x. Cuts c.args.text.now x c.in-Ok.piece.rest.now) same h
