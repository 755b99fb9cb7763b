use Rattle.std.proofs.Common.{◌≡◌, ◌+◌, length, drop, encode_utf8_all}
use Rattle.inferno_command.proofs.base.fits_in.Given as goal

abbrev pub invariant-loop-c : goal.invariant-loop-c
invariant-loop-c l = length (encode_utf8_all l.chars) + l.left ≡ l.bytes + length (encode_utf8_all (drop l.c-index l.chars))
