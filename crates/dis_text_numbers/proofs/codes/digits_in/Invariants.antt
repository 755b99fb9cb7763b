use Rattle.std.proofs.Common.{◌≡◌, ◌%◌, ◌^◌, drop}
use Rattle.inf_text.specs.InFront.{number_after}
use Rattle.dis_text_numbers.proofs.codes.digits_in.Given as goal

abbrev pub invariant-loop-code : goal.invariant-loop-code
invariant-loop-code l = number_after 0 l.codes % 2 ^ 64 ≡ number_after l.number (drop l.code-index l.codes) % 2 ^ 64
