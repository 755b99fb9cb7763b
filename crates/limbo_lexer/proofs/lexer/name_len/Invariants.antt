use Rattle.std.proofs.Common.{◌≡◌, ℕ, ◌<◌, true, get_or}
use Rattle.limbo_lexer.specs.Tokens.{is_name_char}
use Rattle.limbo_lexer.proofs.lexer.name_len.Given as goal

abbrev pub invariant-loop-i : goal.invariant-loop-i
invariant-loop-i l = (k : ℕ) → k < l.i → is_name_char (get_or l.text k 0) ≡ true
