use Rattle.std.proofs.Common.{◌≡◌, drop, map}
use Rattle.limbo_lexer.specs.Words.{listed}
use Rattle.limbo_lexer.proofs.words.listed.Given as goal

abbrev pub invariant-loop-spelling : goal.invariant-loop-spelling
invariant-loop-spelling g l =
    listed (drop l.spelling-index (map (λ row. (row.0.now, row.1)) l.table)) l.text
    ≡ listed (map (λ row. (row.0.now, row.1)) l.table) l.text
