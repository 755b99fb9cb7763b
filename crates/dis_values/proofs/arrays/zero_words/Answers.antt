use Rattle.std.proofs.Common.{ap, ◌∙◌}
use Rattle.std.specs.Prelude.{map}
use Rattle.ref_heap.specs.Words.{cell_of}
use Rattle.dis_values.proofs.Parts.{zeroed_next}
use Rattle.dis_values.proofs.arrays.zero_words.Goals as goal

pub loop-j-preserved : goal.loop-j-preserved
loop-j-preserved c = ap (map cell_of) c.in_ok-push.ensures.items ∙ zeroed_next c.args.size c.args.marks.now c.loop-j.words.items c.loop-j.j c.zero_word.result c.loop-j.invariant c.zero_word.ensures
