use Rattle.std.proofs.Common.{◌≡◌, drop, length}
use Rattle.dis_memory.specs.Copies.{put_bytes}
use Rattle.dis_text_numbers.specs.Packed.{words_of}
use Rattle.dis_text_numbers.proofs.bytes.put_bytes.Given as goal

abbrev pub invariant-loop-at : goal.invariant-loop-at
invariant-loop-at l = record {
  long : length l.words.items ≡ length l.fn.words.items;
  put : put_bytes (words_of l.fn.words.items) 0 l.bytes ≡ put_bytes (words_of l.words.items) l.at (drop l.at l.bytes);
}
