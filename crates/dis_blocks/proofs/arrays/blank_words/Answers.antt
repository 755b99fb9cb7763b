use Rattle.std.proofs.Common.{◌≡◌, ◌++◌, ◌∷◌, [], map, ap, sym, ◌∙◌, add-one, arith}
use Rattle.std.specs.List.{range_with_len}
use Rattle.std.proofs.lemmas.List.{map-append}
use Rattle.dis_memory.specs.Blocks as blocks
use Rattle.dis_places.specs.Words.{view_word, view_words}
use Rattle.dis_blocks.proofs.Ranges.{range_more}
use Rattle.dis_blocks.proofs.arrays.blank_words.Goals as goal

pub loop-k-preserved : goal.loop-k-preserved
loop-k-preserved c =
    let desc = c.args.desc.now in
    let k = c.loop-k.k in
    let added : c.push.new.self.items ≡ c.loop-k.words.items ++ c.blank_word.result ∷ [] = (c.in_ok-push.ensures {u = tt}).items in
    ap view_words added
    ∙ map-append view_word c.loop-k.words.items (c.blank_word.result ∷ [])
    ∙ ap (λ ws. ws ++ view_word c.blank_word.result ∷ []) c.loop-k.invariant
    ∙ ap (λ w. map (blocks.blank_word desc) (range_with_len 0 k) ++ w ∷ []) c.blank_word.ensures
    ∙ sym (range_more (blocks.blank_word desc) 0 k k (omega arith))
    ∙ ap (λ n. map (blocks.blank_word desc) (range_with_len 0 n)) (sym (add-one k))
