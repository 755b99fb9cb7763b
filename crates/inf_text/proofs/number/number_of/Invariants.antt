use Rattle.std.proofs.Common.{◌≡◌, ◌%◌, ◌^◌, drop}
use Rattle.inf_text.specs.InFront.{number_after}
use Rattle.inf_text.proofs.number.number_of.Given as goal

abbrev pub invariant-loop-c : goal.invariant-loop-c
invariant-loop-c l = number_after 0 l.chars % 2 ^ 64 ≡ number_after l.number (drop l.c-index l.chars) % 2 ^ 64
