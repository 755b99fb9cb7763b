use Rattle.std.proofs.Common.{◌≡◌, take, string_bytes}
use Rattle.std.specs.Prelude.{encode_utf8_all}
use Rattle.dis_text_numbers.proofs.codes.characters_of.Given as goal

abbrev pub invariant-loop-code : goal.invariant-loop-code
invariant-loop-code l = string_bytes l.text ≡ encode_utf8_all (take l.code-index l.codes)
