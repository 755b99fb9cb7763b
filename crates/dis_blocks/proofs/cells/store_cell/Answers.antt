use Rattle.std.proofs.Common.{ap, sym, ◌∙◌, arith}
use Rattle.ref_heap.specs.declared.kind.Kind.TheVariants as kind
use Rattle.ref_heap.specs.declared.word.Word.TheVariants as word
use Rattle.ref_heap.specs.Words.{cells, naming}
use Rattle.dis_places.specs.declared.memory.Memory.{Memory}
use Rattle.dis_places.specs.Blocks.{block_by}
use Rattle.dis_places.specs.View.{view_process, view_spot, view_world}
use Rattle.dis_blocks.specs.Making.{made}
use Rattle.dis_blocks.proofs.Holding.{first_named, same_made, untouched}
use Rattle.dis_blocks.proofs.cells.store_cell.Goals as goal

pub store_new-requires-clause-held : goal.store_new-requires-clause-held
store_new-requires-clause-held c = λ n.
    let b = c.requires.begins in
    let a = first_named c.args.words.items c.args.rest b.0 b.1 b.2 n in
    let w = ap (λ w. naming (cells w) n) c.wide.ensures in
    let o = c.in-Ok.ensures.outside n in
    let h = c.requires.held n in
    omega (arith, a, w, o, h)

pub returns-in-Ok-store_new-clause-stores : goal.returns-in-Ok-store_new-clause-stores
returns-in-Ok-store_new-clause-stores c =
    let m = c.args.memory.now in
    let q = view_process c.args.process.now in
    let s = view_spot c.args.spot in
    let mk = c.in-Ok-store_new.ensures.makes in
    let b = c.requires.begins in (
      mk.0,
      ap (λ w. made (view_world m) q s (block_by m.tables kind.Cell w)) (sym c.wide.ensures)
          ∙ same_made m c.hold.new.heap q s (block_by m.tables kind.Cell c.wide.result) c.in-Ok.ensures.same
          ∙ mk.1,
      record {
        held = λ n.
            let e = mk.2.held n in
            let a = first_named c.args.words.items c.args.rest b.0 b.1 b.2 n in
            let w = ap (λ w. naming (cells w) n) c.wide.ensures in
            let o = c.in-Ok.ensures.outside n in
            omega (arith, e, a, w, o);
        heap = mk.2.heap;
        outer = mk.2.outer;
        tables = mk.2.tables;
      },
    )

pub returns-in-Err-store_new-clause-kept : goal.returns-in-Err-store_new-clause-kept
returns-in-Err-store_new-clause-kept c =
    let m = c.args.memory.now in
    let k = c.in-Err-store_new.ensures.kept in
    untouched m c.store_new.new.memory c.args.process.now c.store_new.new.process c.hold.new.heap c.drop_words.new.self (word.Refer c.args.rest) _
    c.stands.ensures c.stands-in-Err-store_new.ensures
    (ap (λ (n : Memory). n.tables) k.0) (ap (λ (n : Memory). n.frames) k.0) (ap (λ (n : Memory). n.outside) k.0) (ap (λ (n : Memory). n.heap) k.0) k.1 c.in-Ok.ensures.same c.in-Ok.ensures.outside
    c.drop_words.ensures.drops c.drop_words.ensures.made c.drop_words.ensures.outside
