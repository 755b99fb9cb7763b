use Rattle.std.proofs.Common.{ℕ, ◌*◌, ◌∷◌, ◌++◌, [], sym, ap, ◌∙◌, arith}
use Rattle.std.proofs.lemmas.List.FromFn.{map-range_with_len_more}
use Rattle.dis_objects.specs.Frames.{is_in, reference_places}
use Rattle.dis_objects.proofs.types.reference_words.Goals as goal

pub loop-word-preserved : goal.loop-word-preserved
loop-word-preserved c =
    let refers = λ (w : ℕ). is_in (4 * w) (reference_places 32 c.args.variables.now) in
    let w = c.loop-word.word in
    (c.in_ok-push.ensures {u = tt}).items
    ∙ ap (λ b. c.loop-word.marks.items ++ b ∷ []) c.refers_at.ensures
    ∙ ap (λ ms. ms ++ refers w ∷ []) c.loop-word.invariant
    ∙ sym (map-range_with_len_more refers 0 w w (omega arith))
