use Rattle.std.proofs.Common.{◌≡◌, map, take, string_bytes, encode_utf8_all}
use Rattle.inferno_words.proofs.command.spelled.Given as goal

-- the words so far are spelled
abbrev pub invariant-loop-word : goal.invariant-loop-word
invariant-loop-word l = map string_bytes l.spelled.items ≡ map encode_utf8_all (take l.word-index l.words)
