use Rattle.std.proofs.Common.{◌≡◌, ◌*◌, map}
use Rattle.std.specs.List.{range_with_len}
use Rattle.dis_objects.specs.Frames.{is_in, reference_places}
use Rattle.dis_objects.proofs.types.reference_words.Given as goal

abbrev pub invariant-loop-word : goal.invariant-loop-word
invariant-loop-word l = l.marks.items ≡ map (λ w. is_in (4 * w) (reference_places 32 l.variables)) (range_with_len 0 l.word)
