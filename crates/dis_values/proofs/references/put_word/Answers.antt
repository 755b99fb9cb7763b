use Rattle.std.proofs.Common.{◌≡◌, Ok, Err, Some, ap, ◌∙◌, sym}
use Rattle.ref_heap.specs.Words.{cell_of}
use Rattle.ref_heap.specs.Store.{Block}
use Rattle.dis_values.proofs.Referring.{can_set, put_one, may_take_wide}
use Rattle.dis_values.proofs.references.put_word.Goals as goal

pub set_word-requires-clause-taken : goal.set_word-requires-clause-taken
set_word-requires-clause-taken c b is =
    let t = c.requires.there in
    let same : b ≡ t.block = (let f : Some b ≡ Some t.block = sym is ∙ t.live in cc) in
    may_take_wide b.content t.words (cell_of c.args.word) (ap (λ (x : Block). x.content) same ∙ t.content)

pub unreachable-requires : goal.unreachable-requires
unreachable-requires c =
    let f : Err c.in-Err.field-0 ≡ Ok tt = sym c.in-Err.is ∙ c.set_word.ensures.answer
    ∙ can_set c.args.heap.now c.args.block.serial c.args.i (cell_of c.args.word) c.requires.there in
    cc

pub returns : goal.returns
returns c =
    let t = c.requires.there in
    record {
      puts = put_one c.args.heap.now c.set_word.new.self c.args.block.serial c.args.i (cell_of c.args.word) t
          (c.in-Ok.ensures.ok t.block t.live)
          c.in-Ok.ensures.outside;
    }
