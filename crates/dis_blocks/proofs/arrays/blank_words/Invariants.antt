use Rattle.std.proofs.Common.{◌≡◌, map}
use Rattle.std.specs.List.{range_with_len}
use Rattle.dis_memory.specs.Blocks as blocks
use Rattle.dis_places.specs.Words.{view_words}
use Rattle.dis_blocks.proofs.arrays.blank_words.Given as goal

abbrev pub invariant-loop-k : goal.invariant-loop-k
invariant-loop-k l = view_words l.words.items ≡ map (blocks.blank_word l.desc) (range_with_len 0 l.k)
