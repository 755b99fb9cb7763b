use Rattle.std.proofs.Common.{◌≡◌, ◌*◌, ◌≤◌, length, take}
use Rattle.std.specs.Prelude.{encode_utf8_all}
use Rattle.styx_encoding.proofs.writing.utf8_len.Given as goal

abbrev pub invariant-loop-c : goal.invariant-loop-c
invariant-loop-c l = (l.size ≡ length (encode_utf8_all (take l.c-index l.chars))) × (l.size ≤ 4 * l.c-index)
