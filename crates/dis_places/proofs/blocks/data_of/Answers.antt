use Rattle.std.proofs.Common.{ap, sym, ◌∙◌}
use Rattle.dis_meaning.specs.Words as words
use Rattle.dis_places.proofs.Heaps.{seen, none_seen}
use Rattle.dis_places.proofs.blocks.data_of.Goals as goal

pub returns-in-Ok-reached-clause-words : goal.returns-in-Ok-reached-clause-words
returns-in-Ok-reached-clause-words c = λ t.
    let s = seen t c.args.heap.now c.args.r.serial c.in-Ok.kind c.stands.ensures (c.in-Ok.ensures {u = tt}) in
    s.is ∙ c.in-Ok-reached.ensures {u = tt} t s.content ∙ ap words.Found (sym s.words)

pub returns-in-Err-reached-clause-words : goal.returns-in-Err-reached-clause-words
returns-in-Err-reached-clause-words c = λ t.
    let s = seen t c.args.heap.now c.args.r.serial c.in-Ok.kind c.stands.ensures (c.in-Ok.ensures {u = tt}) in
    s.is ∙ c.in-Err-reached.ensures {u = tt} t s.content

pub returns-in-Err-clause-words : goal.returns-in-Err-clause-words
returns-in-Err-clause-words c = λ t. none_seen t c.args.heap.now c.args.r.serial c.in-Err.field-0 c.stands.ensures (c.in-Err.ensures {u = tt})
