use Rattle.std.proofs.Common.{◌≡◌, ◌++◌, take}
use Rattle.std.specs.Prelude.{encode_utf8_all}
use Rattle.std.specs.Str.{IsUtf8}
use Rattle.styx_encoding.proofs.writing.add_chars.Given as goal

abbrev pub invariant-loop-c : goal.invariant-loop-c
invariant-loop-c l = (l.out.items ≡ l.fn.out.items ++ encode_utf8_all (take l.c-index l.chars))
    × IsUtf8 (encode_utf8_all (take l.c-index l.chars))
