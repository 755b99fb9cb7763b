use Rattle.std.proofs.Common.{Some, refl, ap, sym, ◌∙◌}
use Rattle.ref_heap.specs.declared.word.Word.TheVariants as word
use Rattle.ref_heap.specs.Words.{cells, naming}
use Rattle.ref_heap.specs.Store.{fresh, with_new}
use Rattle.dis_meaning.specs.Words.{Refer}
use Rattle.dis_memory.specs.Blocks as blocks
use Rattle.dis_memory.specs.Places as places
use Rattle.dis_places.specs.Blocks.{view_heap}
use Rattle.dis_places.specs.View.{view_process, view_spot, view_world}
use Rattle.dis_stores.specs.Storing.{rested}
use Rattle.dis_blocks.proofs.Made.{add_proper, as_made, never_refused, new_settles, refer_named}
use Rattle.dis_blocks.proofs.making.make.Goals as goal

pub invariant_of-memory : goal.invariant_of-memory
invariant_of-memory c =
    let m = c.args.memory.now in
    record { proper = add_proper m.heap c.add.new.self c.args.kind c.args.words c.add.result c.add.ensures.ok c.add.ensures.err m.proper c.requires.proper }

pub unreachable-requires : goal.unreachable-requires
unreachable-requires c =
    never_refused c.args.memory.now c.add.new.self (view_process c.args.process.now) (view_spot c.args.spot) c.args.kind c.args.words c.args.old
    (Some c.in-Ok.block.serial) c.in-Err-put.field-0 c.requires.there c.requires.stands c.in-Ok.ensures.ok c.in-Err-put.ensures.gives (c.in-Err-put.ensures.sure refl)

pub returns-clause-makes : goal.returns-clause-makes
returns-clause-makes c =
    let m = c.args.memory.now in
    let m2 = c.put.new.memory in
    let p = c.args.process.now in
    let p' = c.put.new.process in
    let b = c.in-Ok.block in
    let w = word.Refer (Some b) in
    let x = view_world m in
    let q = view_process p in
    let s = view_spot c.args.spot in (
      view_world m2,
      as_made m q s c.args.kind c.args.words c.args.old c.requires.there c.requires.stands
          ∙ ap (λ n. rested (places.store (blocks.with_heap x (view_heap m.tables (with_new m.heap (fresh c.args.kind c.args.words)))) q s (Refer (Some n)))) (sym c.in-Ok.ensures.serial)
          ∙ ap (λ h. rested (places.store (blocks.with_heap x (view_heap m.tables h)) q s (Refer (Some b.serial)))) (sym c.in-Ok.ensures.ok)
          ∙ c.in-Ok-put.ensures.gives,
      new_settles m m2 p p' c.add.new.self c.drop_words.new.self (naming (cells c.args.words)) w c.in-Ok-put.was b.serial
          _
          c.stands-in-Ok-put.ensures c.requires.held c.in-Ok.ensures.outside (refer_named b) c.in-Ok-put.ensures.exchanges c.in-Ok-put.ensures.tables
          c.drop_words.ensures.drops c.drop_words.ensures.made c.drop_words.ensures.outside,
    )
