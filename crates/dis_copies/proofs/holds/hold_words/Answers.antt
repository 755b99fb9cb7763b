use Rattle.std.proofs.Common.{take, refl, sym, ap, ◌∙◌, subst, rules, arith}
use Rattle.ref_heap.specs.Store.{outside}
use Rattle.dis_stores.specs.Storing.{SameShapes}
use Rattle.std.proofs.lemmas.Option.{slice_get_read}
use Rattle.dis_copies.specs.Spans.{all_named}
use Rattle.dis_copies.proofs.Holding.{back_again, reference_live, live_again}
use Rattle.dis_copies.proofs.holds.hold_words.Goals as goal

pub hold-requires : goal.hold-requires
hold-requires c =
    live_again c.args.heap.now c.loop-k.heap c.reference.result c.loop-k.invariant.same
    (reference_live c.args.heap.now c.args.words.now c.loop-k.k _ c.reference.result c.requires (slice_get_read c.args.words.now _ c.loop-k.k _ refl (search rules) (search rules)) c.reference.ensures)

pub returns-in-Err-clause-same : goal.returns-in-Err-clause-same
returns-in-Err-clause-same c =
    let kept = (c.in-Err.ensures {u = tt}).kept in
    back_again c.args.heap.now c.hold.new.heap c.drop_words.new.self (all_named (take c.loop-k.k c.args.words.now)) c.stands.ensures c.stands-in-Err.ensures c.stands-in-Err-2.ensures
    (subst (SameShapes c.args.heap.now) (sym kept) c.loop-k.invariant.same) (λ n. ap (λ h. outside h n) kept ∙ c.loop-k.invariant.outside n)
    c.drop_words.ensures.drops c.drop_words.ensures.made c.drop_words.ensures.outside

pub returns-in-Err-clause-back : goal.returns-in-Err-clause-back
returns-in-Err-clause-back c = λ n.
    let a = c.drop_words.ensures.outside n in let b = ap (λ h. outside h n) (c.in-Err.ensures {u = tt}).kept in let d = c.loop-k.invariant.outside n in
    omega (arith, a, b, d)
