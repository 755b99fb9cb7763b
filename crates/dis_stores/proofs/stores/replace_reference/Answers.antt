use Rattle.std.proofs.Common.{◌∙◌}
use Rattle.ref_heap.specs.declared.word.Word.TheVariants as word
use Rattle.dis_places.specs.View.{view_process, view_spot, view_world}
use Rattle.dis_places.specs.Words.{view_word}
use Rattle.dis_stores.proofs.Settling.{same_store, reference_settles}
use Rattle.dis_stores.proofs.stores.replace_reference.Goals as goal

pub returns-clause-stores : goal.returns-clause-stores
returns-clause-stores c =
    let m = c.args.memory.now in
    let m2 = c.put.new.memory in
    let p = c.args.process.now in
    let p' = c.put.new.process in
    let w = word.Refer c.args.new in (
      view_world m2,
      same_store m c.hold.new.heap (view_process p) (view_spot c.args.spot) (view_word w) c.in-Ok.ensures.same ∙ c.in-Ok-put.ensures.gives,
      reference_settles m m2 p p' c.hold.new.heap c.drop_words.new.self w c.in-Ok-put.was
          _
          c.stands.ensures c.requires.held c.in-Ok.ensures.outside c.in-Ok-put.ensures.exchanges c.in-Ok-put.ensures.tables
          c.drop_words.ensures.drops c.drop_words.ensures.made c.drop_words.ensures.outside,
    )
