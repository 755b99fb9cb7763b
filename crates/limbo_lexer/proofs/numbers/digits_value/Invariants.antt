use Rattle.std.proofs.Common.{◌≡◌, ◌<◌, ◌^◌, take}
use Rattle.std.specs.List.{fold}
use Rattle.limbo_lexer.proofs.Values.{more_value}
use Rattle.limbo_lexer.proofs.numbers.digits_value.Given as goal

abbrev pub invariant-loop-c : goal.invariant-loop-c
invariant-loop-c l = (l.value ≡ fold (more_value l.radix) 0 (take l.c-index l.digits)) × (l.value < 2 ^ 64)
