use Rattle.std.proofs.Common.{◌≡◌, suc, Some, refl, sym, ap, ◌∙◌, add-one, arith}
use Rattle.std.specs.Prelude.{pos}
use Rattle.process_model.specs.Process.{Went}
use Rattle.ref_heap.specs.declared.word.Word.TheVariants as word
use Rattle.ref_heap.specs.Words.{cell_of}
use Rattle.dis_meaning.specs.Words.{InFrame, Word, Address, Found}
use Rattle.dis_memory.specs.Blocks.{Outer}
use Rattle.dis_memory.specs.Control.{with_frame_made}
use Rattle.dis_memory.specs.Naming.{names}
use Rattle.dis_memory.specs.Places as places
use Rattle.dis_places.specs.declared.memory.Memory.{Memory}
use Rattle.dis_places.specs.declared.process.Process.{Process}
use Rattle.dis_places.specs.View.{view_process, view_spot, view_world}
use Rattle.dis_places.specs.Words.{view_word, view_words}
use Rattle.dis_stores.specs.Storing.{rested, settled}
use Rattle.dis_stores.proofs.Cuts.{store_found}
use Rattle.dis_stores.proofs.Settling.{same_store}
use Rattle.dis_blocks.proofs.Holding.{untouched}
use Rattle.dis_calls.specs.Made.{blank_frame, with_made, without_last}
use Rattle.dis_calls.proofs.Framed.{read_more, framed_on, more_names, instance_live, only_memory, of_memory, takes_address, last_gone, left_alone}
use Rattle.dis_calls.proofs.making.finish_frame.Goals as goal

pub hold-requires : goal.hold-requires
hold-requires c = instance_live c.args.memory.now.heap c.args.process.now c.requires.held

pub returns-in-Ok-store_plain-clause-goes : goal.returns-in-Ok-store_plain-clause-goes
returns-in-Ok-store_plain-clause-goes c =
    let m = c.args.memory.now in
    let x = view_world m in
    let p = c.args.process.now in
    let P = view_process p in
    let s = view_spot c.args.spot in
    let words = view_words c.args.words.items in
    let address : Word = Address (InFrame m.frames) (pos 0) in
    let stores = c.in-Ok-store_plain.ensures.stores in
    let y = stores.0 in
    let settles = stores.2 in
    let m2 = c.store_plain.new.memory in
    let Q = view_process c.store_plain.new.process in
    let stored : rested (places.store x (with_made P (blank_frame m.frames P.frame.instance words)) s address) ≡ Found (places.memory y (settled Q)) =
    ap (λ q. rested (places.store x q s address)) (sym c.add_frame.ensures.process)
    ∙ same_store m c.hold.new.heap (view_process c.add_frame.new.process) s address c.in-Ok.ensures.same
    ∙ stores.1 in (
      with_frame_made y,
      framed_on x P c.requires.given words s address (view_word c.args.old) y Q c.requires.there stored
          ∙ ap (λ q. Found (Went (with_frame_made y) q)) (sym c.advance.ensures),
      record {
        held = λ n.
            let a = settles.held n in
            let b = c.in-Ok.ensures.outside n in
            let d = ap (λ q. names q n) c.add_frame.ensures.process in
            let e = more_names m.frames P p.frame.instance c.args.words.items c.requires.bare n in
            let f = ap (λ q. names q n) c.advance.ensures in
            omega (arith, a, b, d, e, f);
        heap = settles.heap;
        outer =
            ap (λ k. record { frames = k; outside = (view_world m2).outside.outside }) (add-one m2.frames)
            ∙ ap (λ (o : Outer). record { frames = suc o.frames; outside = o.outside }) settles.outer;
        tables = settles.tables;
      },
    )

pub returns-in-Err-store_plain-clause-wants : goal.returns-in-Err-store_plain-clause-wants
returns-in-Err-store_plain-clause-wants c =
    let m = c.args.memory.now in
    let x = view_world m in
    let p = c.args.process.now in
    let P = view_process p in
    let s = view_spot c.args.spot in
    let words = view_words c.args.words.items in
    let f = blank_frame m.frames P.frame.instance words in
    let old = view_word c.args.old in
    let address : Word = Address (InFrame m.frames) (pos 0) in
    let found =
    store_found x (with_made P f) s address old (read_more x P c.requires.given words s old c.requires.there)
    (takes_address (cell_of c.args.old) m.frames c.requires.plain) in
    only_memory c.in-Err-store_plain.halt _ found.0
    (sym (same_store m c.hold.new.heap (view_process c.add_frame.new.process) s address c.in-Ok.ensures.same)
    ∙ ap (λ q. rested (places.store x q s address)) c.add_frame.ensures.process
    ∙ found.1)
    c.in-Err-store_plain.ensures.stores

pub returns-in-Err-store_plain-clause-goes : goal.returns-in-Err-store_plain-clause-goes
returns-in-Err-store_plain-clause-goes c = of_memory c.in-Err-store_plain.halt _ (returns-in-Err-store_plain-clause-wants c)

pub returns-in-Err-store_plain-clause-kept : goal.returns-in-Err-store_plain-clause-kept
returns-in-Err-store_plain-clause-kept c =
    let m = c.args.memory.now in
    let n = c.store_plain.new.memory in
    let p = c.args.process.now in
    let P = view_process p in
    let f = blank_frame m.frames P.frame.instance (view_words c.args.words.items) in
    let same = c.in-Err-store_plain.ensures.kept in
    let w = word.Refer (Some p.frame.instance) in
    left_alone m _ p c.take_frame.new.process
    (untouched m n p p c.hold.new.heap c.drop_words.new.self w _ c.stands.ensures c.stands-in-Err-store_plain.ensures
    (ap (λ (n : Memory). n.tables) same.0) (ap (λ (n : Memory). n.frames) same.0) (ap (λ (n : Memory). n.outside) same.0)
    (ap (λ (n : Memory). n.heap) same.0) refl c.in-Ok.ensures.same c.in-Ok.ensures.outside
    c.drop_words.ensures.drops c.drop_words.ensures.made c.drop_words.ensures.outside)
    (record {
      process =
          c.take_frame.ensures.process ∙ ap (λ q. without_last (view_process q)) same.1
          ∙ ap without_last c.add_frame.ensures.process ∙ last_gone P f;
      printing = c.take_frame.ensures.printing ∙ ap (λ (q : Process). q.printing) same.1 ∙ c.add_frame.ensures.printing;
    })
