use Rattle.std.proofs.Common.{◌≡◌, ◌++◌, length, map, string_bytes, encode_utf8_all}
use Rattle.std.specs.Vec.Iter.{into_iter_items, into_iter_len}
use Rattle.inferno_tool.proofs.texts_of.Given as goal

-- the texts so far are the words so far
abbrev pub invariant-loop-word : goal.invariant-loop-word
invariant-loop-word l = record {
  read : map encode_utf8_all l.words.items ≡ map string_bytes l.yielded;
  behind : l.yielded ++ into_iter_items l.word-iterator ≡ into_iter_items l.initial.word-iterator;
  counted : into_iter_len l.word-iterator ≡ length (into_iter_items l.word-iterator);
}
