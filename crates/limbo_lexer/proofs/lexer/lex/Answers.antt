use Rattle.std.proofs.Common.{map, arith}
use Rattle.std.specs.Prelude.{IfOk, IfErr}
use Rattle.limbo_lexer.specs.Tokens.{HasTokenList}
use Rattle.limbo_lexer.specs.Causes.{IsSource}
use Rattle.limbo_lexer.proofs.Sources.{is_source, lex_none, lex_only, Lexed, Refuses}
use Rattle.limbo_lexer.proofs.lexer.lex.Goals as goal

pub returns-clause-none : goal.returns-clause-none
returns-clause-none c =
    let text = c.in_ok-text.text in
    let bytes = c.args.bytes.now in
    let source : IsSource bytes text = is_source bytes text (omega arith) c.in_ok-text.ensures.characters c.in_ok-text.ensures.spelled in
    let r : Lexed = c.tokens.result in
    let refused : IfErr r (Refuses text) = rw c.as_slice.ensures at c.tokens.ensures.refused in
    lex_none bytes text source r refused

pub returns-clause-only : goal.returns-clause-only
returns-clause-only c =
    let text = c.in_ok-text.text in
    let bytes = c.args.bytes.now in
    let source : IsSource bytes text = is_source bytes text (omega arith) c.in_ok-text.ensures.characters c.in_ok-text.ensures.spelled in
    let r : Lexed = c.tokens.result in
    let refused : IfErr r (Refuses text) = rw c.as_slice.ensures at c.tokens.ensures.refused in
    let found : IfOk r (λ tokens. HasTokenList text (map (λ token. token.kind) tokens.items)) = rw c.as_slice.ensures at c.tokens.ensures.found in
    lex_only bytes text source r found refused
