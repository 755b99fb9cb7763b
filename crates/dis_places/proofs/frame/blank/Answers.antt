use Rattle.std.proofs.Common.{◌≡◌, ◌++◌, ◌∷◌, [], ap, sym, ◌∙◌, add-one, arith}
use Rattle.dis_meaning.specs.Words.{blanks}
use Rattle.std.proofs.lemmas.List.{map-append}
use Rattle.dis_places.specs.Words.{view_word, view_words}
use Rattle.dis_places.proofs.Lists.{blanks_more}
use Rattle.dis_places.proofs.frame.blank.Goals as goal

pub loop-k-preserved : goal.loop-k-preserved
loop-k-preserved c =
    let desc = c.args.desc.now in
    let k = c.loop-k.k in
    let added : c.push.new.self.items ≡ c.loop-k.words.items ++ c.blank_word.result ∷ [] = (c.in_ok-push.ensures {u = tt}).items in
    ap view_words added
    ∙ map-append view_word c.loop-k.words.items (c.blank_word.result ∷ [])
    ∙ ap (λ ws. ws ++ view_word c.blank_word.result ∷ []) c.loop-k.invariant
    ∙ ap (λ w. blanks desc 0 k ++ w ∷ []) c.blank_word.ensures
    ∙ sym (blanks_more desc 0 k k (omega arith))
    ∙ ap (blanks desc 0) (sym (add-one k))
