use Rattle.std.proofs.Common.{Some, Ok, refl, ap, sym, ◌∙◌, arith}
use Rattle.ref_heap.specs.declared.word.Word.TheVariants as word
use Rattle.dis_meaning.specs.Words.{Refer}
use Rattle.dis_memory.specs.Blocks as blocks
use Rattle.dis_memory.specs.Naming.{names}
use Rattle.dis_memory.specs.Places as places
use Rattle.dis_places.specs.Blocks.{view_heap}
use Rattle.dis_places.specs.View.{view_process, view_spot, view_world}
use Rattle.dis_stores.specs.Storing.{rested}
use Rattle.dis_blocks.proofs.Bare.{bare_held, bare_stores}
use Rattle.dis_blocks.proofs.Made.{more_made, more_refused, new_settles, part_is_proper, refer_named, view_part}
use Rattle.dis_blocks.proofs.parts.make_part.Goals as goal

pub invariant_of-memory : goal.invariant_of-memory
invariant_of-memory c =
    let m = c.args.memory.now in
    let l = c.requires.live in
    record { proper = part_is_proper m.heap c.args.array.serial l c.args.from c.args.long c.add_ref.new.self c.add_ref.result (c.add_ref.ensures.ok l.block l.live) c.add_ref.ensures.err m.proper }

pub unreachable-requires : goal.unreachable-requires
unreachable-requires c =
    let m = c.args.memory.now in
    let l = c.requires.live in
    more_refused m c.add_ref.new.self (blocks.Part c.args.array.serial c.args.from c.args.long) (view_process c.args.process.now) (view_spot c.args.spot) c.args.old
    (Some c.in-Ok.part.serial) c.in-Err-put.field-0
    (view_part m.heap c.args.array.serial l c.args.from c.args.long m.tables c.add_ref.new.self (c.in-Ok.ensures.ok l.block l.live))
    c.requires.there c.requires.stands c.in-Err-put.ensures.gives (c.in-Err-put.ensures.sure refl)

pub returns-clause-stores : goal.returns-clause-stores
returns-clause-stores c =
    let m = c.args.memory.now in
    let m2 = c.put.new.memory in
    let p = c.args.process.now in
    let p' = c.put.new.process in
    let l = c.requires.live in
    let b = c.in-Ok.part in
    let w = word.Refer (Some b) in
    let x = view_world m in
    let q = view_process p in
    let s = view_spot c.args.spot in
    let more = view_part m.heap c.args.array.serial l c.args.from c.args.long m.tables c.add_ref.new.self (c.in-Ok.ensures.ok l.block l.live) in
    bare_stores m _ p p' (λ n. 0) (Ok tt) _ (λ n. refl) (
      view_world m2,
      more_made m c.add_ref.new.self (blocks.Part c.args.array.serial c.args.from c.args.long) q s c.args.old more c.requires.there c.requires.stands
          ∙ ap (λ n. rested (places.store (blocks.with_heap x (view_heap m.tables c.add_ref.new.self)) q s (Refer (Some n)))) (sym c.in-Ok.ensures.serial)
          ∙ c.in-Ok-put.ensures.gives,
      new_settles m m2 p p' c.add_ref.new.self c.drop_words.new.self (λ n. 0) w c.in-Ok-put.was b.serial
          _
          c.stands.ensures (bare_held m.heap (names q) (λ n. 0) c.requires.held (λ n. refl)) (λ n. let o = c.in-Ok.ensures.outside n in omega (arith, o)) (refer_named b)
          c.in-Ok-put.ensures.exchanges c.in-Ok-put.ensures.tables
          c.drop_words.ensures.drops c.drop_words.ensures.made c.drop_words.ensures.outside,
    )
