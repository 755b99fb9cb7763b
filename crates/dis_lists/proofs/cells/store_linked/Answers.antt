use Rattle.std.proofs.Common.{◌≡◌, ℕ, ◌+◌, refl, sym, ap, ◌∙◌, subst, arith}
use Rattle.ref_heap.specs.declared.kind.Kind.TheVariants as kind
use Rattle.ref_heap.specs.declared.word.Word.TheVariants as word
use Rattle.ref_heap.specs.Store.{outside}
use Rattle.dis_places.specs.declared.memory.Memory.{Memory}
use Rattle.dis_places.specs.Blocks.{block_by}
use Rattle.dis_places.specs.View.{view_process, view_spot, view_world}
use Rattle.dis_stores.specs.Storing.{named, SameShapes}
use Rattle.dis_stores.proofs.Settling.{same_proper}
use Rattle.dis_blocks.specs.Making.{made}
use Rattle.dis_blocks.proofs.Holding.{same_made}
use Rattle.dis_copies.specs.Spans.{all_named}
use Rattle.dis_copies.proofs.Holding.{back_again, same_twice}
use Rattle.dis_copies.proofs.Settling.{untouched}
use Rattle.dis_results.proofs.Onward.{halts_same}
use Rattle.dis_lists.proofs.Linked.{all_still, as_linked, linked_named}
use Rattle.dis_lists.proofs.cells.store_linked.Goals as goal

pub hold_words-requires : goal.hold_words-requires
hold_words-requires c = all_still c.args.memory.now.heap c.hold.new.heap c.args.element.now c.in-Ok.ensures.same c.requires.element

pub returns-in-Err-hold_words-clause-kept : goal.returns-in-Err-hold_words-clause-kept
returns-in-Err-hold_words-clause-kept c =
    let m = c.args.memory.now in
    let h2 = c.hold_words.new.heap in
    let e = c.in-Err-hold_words.ensures {u = tt} in
    let same = same_twice m.heap c.hold.new.heap h2 c.in-Ok.ensures.same e.same in
    let n : Memory = record { heap = h2; tables = m.tables; frames = m.frames; outside = m.outside; proper = same_proper m.heap h2 same m.proper } in
    untouched m n c.args.process.now c.args.process.now h2 c.drop_words.new.self (named (word.Refer c.args.rest)) _
    c.stands.ensures c.stands-in-Err-hold_words.ensures refl refl refl refl refl same (λ k. let a = e.back k in let b = c.in-Ok.ensures.outside k in omega (arith, a, b))
    c.drop_words.ensures.drops c.drop_words.ensures.made c.drop_words.ensures.outside

pub store_new-requires-clause-held : goal.store_new-requires-clause-held
store_new-requires-clause-held c = λ n.
    let a = linked_named c.wide.result c.args.words.items c.args.rest c.args.element.now n c.wide.ensures c.requires.words in
    let o = c.in-Ok.ensures.outside n in
    let q = c.in-Ok-hold_words.ensures.outside n in
    let h = c.requires.held n in
    omega (arith, a, o, q, h)

pub returns-in-Ok-store_new-clause-stores : goal.returns-in-Ok-store_new-clause-stores
returns-in-Ok-store_new-clause-stores c =
    let m = c.args.memory.now in
    let q = view_process c.args.process.now in
    let s = view_spot c.args.spot in
    let mk = c.in-Ok-store_new.ensures.makes in (
      mk.0,
      ap (made (view_world m) q s) (as_linked m.tables c.wide.result c.args.words.items c.args.rest c.args.element.now c.wide.ensures c.requires.words)
          ∙ same_made m c.hold_words.new.heap q s (block_by m.tables kind.Cell c.wide.result)
          (same_twice m.heap c.hold.new.heap c.hold_words.new.heap c.in-Ok.ensures.same c.in-Ok-hold_words.ensures.same)
          ∙ mk.1,
      record {
        held = λ n.
            let e = mk.2.held n in
            let a = linked_named c.wide.result c.args.words.items c.args.rest c.args.element.now n c.wide.ensures c.requires.words in
            let o = c.in-Ok.ensures.outside n in
            let q = c.in-Ok-hold_words.ensures.outside n in
            omega (arith, e, a, o, q);
        heap = mk.2.heap;
        outer = mk.2.outer;
        tables = mk.2.tables;
      },
    )

pub returns-in-Err-store_new-clause-kept : goal.returns-in-Err-store_new-clause-kept
returns-in-Err-store_new-clause-kept c =
    let m = c.args.memory.now in
    let h1 = c.hold.new.heap in
    let h3 = c.drop_words-in-Err-store_new.new.self in
    let kept = (c.in-Err-store_new.ensures {u = tt}).kept in
    let is = ap (λ (n : Memory). n.heap) kept.0 in
    let more : (k : ℕ) → outside c.store_new.new.memory.heap k ≡ outside h1 k + all_named c.args.element.now k = (λ k. let a = ap (λ h. outside h k) is in let b = c.in-Ok-hold_words.ensures.outside k in omega (arith, a, b)) in
    let back = back_again h1 c.store_new.new.memory.heap h3 (all_named c.args.element.now) c.stands-2.ensures c.stands-in-Err-store_new.ensures c.stands-in-Err-store_new-2.ensures
    (subst (SameShapes h1) (sym is) c.in-Ok-hold_words.ensures.same) more
    c.drop_words-in-Err-store_new.ensures.drops c.drop_words-in-Err-store_new.ensures.made c.drop_words-in-Err-store_new.ensures.outside in
    let same = same_twice m.heap h1 h3 c.in-Ok.ensures.same back in
    let sn = c.store_new.new.memory in
    let n : Memory = record { heap = h3; tables = sn.tables; frames = sn.frames; outside = sn.outside; proper = same_proper m.heap h3 same m.proper } in
    untouched m n c.args.process.now c.store_new.new.process h3 c.drop_words-in-Err-store_new-2.new.self (named (word.Refer c.args.rest)) _
    c.stands.ensures c.stands-in-Err-store_new-2.ensures
    (ap (λ (n : Memory). n.tables) kept.0) (ap (λ (n : Memory). n.frames) kept.0) (ap (λ (n : Memory). n.outside) kept.0) refl kept.1 same
    (λ k. let a = more k in let b = c.drop_words-in-Err-store_new.ensures.outside k in let d = c.in-Ok.ensures.outside k in omega (arith, a, b, d))
    c.drop_words-in-Err-store_new-2.ensures.drops c.drop_words-in-Err-store_new-2.ensures.made c.drop_words-in-Err-store_new-2.ensures.outside

pub drop_words-requires-in-Err-store_new-2 : goal.drop_words-requires-in-Err-store_new-2
drop_words-requires-in-Err-store_new-2 c = λ n.
    let is = ap (λ (n : Memory). n.heap) (c.in-Err-store_new.ensures {u = tt}).kept.0 in
    let a = ap (λ h. outside h n) is in
    let b = c.in-Ok-hold_words.ensures.outside n in
    let d = c.in-Ok.ensures.outside n in
    let e = c.drop_words-in-Err-store_new.ensures.outside n in
    omega (arith, a, b, d, e)

pub returns-in-Err-store_new-clause-stores : goal.returns-in-Err-store_new-clause-stores
returns-in-Err-store_new-clause-stores c =
    let m = c.args.memory.now in
    let q = view_process c.args.process.now in
    let s = view_spot c.args.spot in
    halts_same c.in-Err-store_new.halt _ _
    (ap (made (view_world m) q s) (as_linked m.tables c.wide.result c.args.words.items c.args.rest c.args.element.now c.wide.ensures c.requires.words)
    ∙ same_made m c.hold_words.new.heap q s (block_by m.tables kind.Cell c.wide.result)
    (same_twice m.heap c.hold.new.heap c.hold_words.new.heap c.in-Ok.ensures.same c.in-Ok-hold_words.ensures.same))
    (c.in-Err-store_new.ensures {u = tt}).makes
