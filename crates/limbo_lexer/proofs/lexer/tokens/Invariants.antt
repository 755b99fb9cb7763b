use Rattle.std.proofs.Common.{length, map}
use Rattle.limbo_lexer.specs.Tokens.{Cuts}
use Rattle.limbo_lexer.proofs.lexer.tokens.Given as goal

abbrev pub invariant-loop-rest : goal.invariant-loop-rest
invariant-loop-rest l = Cuts l.fn.text (map (λ token. token.kind) l.tokens.items) l.rest

abbrev pub decreases-loop-rest : goal.decreases-loop-rest
decreases-loop-rest l = length l.rest
