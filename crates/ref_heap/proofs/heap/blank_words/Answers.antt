use Rattle.std.proofs.Common.{List, ap, ◌∙◌}
use Rattle.std.specs.Prelude.{map}
use Rattle.ref_heap.specs.declared.word.Word.{Word}
use Rattle.ref_heap.specs.Words.{cell_of, wide}
use Rattle.ref_heap.proofs.Put.{blank_all}
use Rattle.ref_heap.proofs.heap.blank_words.Goals as goal

pub returns : goal.returns
returns c = c.wide.ensures ∙ ap (λ (ws : List Word). wide (map cell_of ws)) c.in_ok-words.ensures ∙ ap wide (blank_all c.args.map.now)
