use Rattle.std.proofs.Common.{◌∷◌, drop, sym, ap, ◌∙◌}
use Rattle.limbo_lexer.proofs.Fronts.{behind, starts_with}
use Rattle.limbo_lexer.proofs.Found.{blank_first, comment_first}
use Rattle.limbo_lexer.proofs.lexer.piece_at.Goals as goal

pub returns-then-is_blank-clause-found : goal.returns-then-is_blank-clause-found
returns-then-is_blank-clause-found c =
    let s = c.args.text.now in
    let x = c.index-text-0.result in
    rw behind (blank_first s x (starts_with s x c.requires c.index-text-0.is) (sym c.is_blank.ensures ∙ c.if-is_blank.true))

pub returns-then-first-eq35-clause-found : goal.returns-then-first-eq35-clause-found
returns-then-first-eq35-clause-found c =
    let s = c.args.text.now in
    let x = c.index-text-0.result in
    comment_first s c.split_at.result.1.now (starts_with s x c.requires c.index-text-0.is ∙ ap (λ y. y ∷ drop 1 s) c.if-first-eq35.true)
    (c.split_at.ensures.back ∙ ap (λ n. drop n s) c.line_len.ensures.longest)
