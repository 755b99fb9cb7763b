use Rattle.std.proofs.Common.{◌≡◌, ◌+◌, pos, refl, sym, ap, ◌∙◌, subst, drop, arith}
use Rattle.std.proofs.lemmas.List.{drop-drop, drop_all, length-drop}
use Rattle.limbo_values.specs.Numbers.{kind_of, value_of}
use Rattle.ref_heap.specs.Store.{at as block_at}
use Rattle.dis_meaning.specs.Words.{Found}
use Rattle.dis_counts.specs.Opening.{width}
use Rattle.dis_places.specs.Regions.{block_words}
use Rattle.dis_places.specs.View.{view_world}
use Rattle.dis_opening.specs.Loading.{number_stored, numbers_stored}
use Rattle.dis_places.specs.Words.{number_of}
use Rattle.dis_opening.specs.Starting.{Refuses}
use Rattle.dis_opening.proofs.Refusing.{refuses_same}
use Rattle.dis_opening.proofs.Numbering.{begins_behind, refused_first, stored_dead, stored_first, stored_none}
use Rattle.dis_opening.proofs.puts.put_numbers.Goals as goal

pub returns-in-Err-clause-gives : goal.returns-in-Err-clause-gives
returns-in-Err-clause-gives c = λ t.
    let m = c.args.memory.now in
    stored_dead c.args.kind c.args.base.block.serial (view_world m) t (c.args.base.from + c.args.offset) (number_of c.in-Err.field-0) c.args.content.now
    ((c.in-Err.ensures {u = tt}).words m.tables)

pub returns-in-Err-put_at-clause-gives : goal.returns-in-Err-put_at-clause-gives
returns-in-Err-put_at-clause-gives c =
    let i = c.loop-at.invariant in
    let kind = c.args.kind in
    let n = c.args.base.block.serial in
    let at = c.loop-at.at in
    let from = c.args.base.from + c.args.offset in
    let content = c.args.content.now in
    let x = view_world c.loop-at.memory in
    let z = value_of c.in-Some.number in
    let fault = c.in-Err-put_at.fault in
    let b = begins_behind kind content at c.in-Some.number (c.in-Some.ensures {u = tt}).some in
    let f = c.from.ensures in
    let there : c.args.base.from + (c.from.result + at) ≡ from + at = omega (arith, f) in
    let one : Refuses fault (number_stored kind x n (pos (from + at)) z) =
    subst (λ k. Refuses fault (number_stored k x n (pos (from + at)) z)) b.sort
    (refuses_same fault _ _ (ap (λ k. number_stored (kind_of c.in-Some.number) x n (pos k) z) (sym there)) (c.in-Err-put_at.ensures {u = tt}).gives) in
    refuses_same fault _ _ i.same
    (refused_first kind n x (from + at) z (drop at content) (drop (width kind) (drop at content)) b.first fault one)

pub loop-at-init : goal.loop-at-init
loop-at-init c =
    let m = c.args.memory.now in
    let n = c.args.base.block.serial in
    let from = c.args.base.from + c.args.offset in
    let here : from ≡ from + 0 = omega arith in record {
      within = omega arith;
      same = ap (λ k. numbers_stored c.args.kind (view_world m) n k c.args.content.now) here;
      has = record { words = block_words (block_at m.heap n); there = (c.in-Ok.ensures {u = tt}).words m.tables };
      held = λ n. refl;
      tables = refl;
    }

pub loop-at-preserved : goal.loop-at-preserved
loop-at-preserved c =
    let i = c.loop-at.invariant in
    let kind = c.args.kind in
    let n = c.args.base.block.serial in
    let at = c.loop-at.at in
    let from = c.args.base.from + c.args.offset in
    let content = c.args.content.now in
    let x = view_world c.loop-at.memory in
    let y = view_world c.put_at.new.memory in
    let z = value_of c.in-Some.number in
    let b = begins_behind kind content at c.in-Some.number (c.in-Some.ensures {u = tt}).some in
    let f = c.from.ensures in
    let there : c.args.base.from + (c.from.result + at) ≡ from + at = omega (arith, f) in
    let one : number_stored kind x n (pos (from + at)) z ≡ Found y =
    subst (λ k. number_stored k x n (pos (from + at)) z ≡ Found y) b.sort
    (ap (λ k. number_stored (kind_of c.in-Some.number) x n (pos k) z) (sym there) ∙ (c.in-Ok-put_at.ensures {u = tt}).gives) in
    let put = stored_first kind n x (from + at) z (drop at content) (drop (width kind) (drop at content)) b.first y one in
    let w = c.width-at.ensures in
    let l = length-drop at content in
    let long = b.long in
    let next : from + at + width kind ≡ from + (at + c.width-at.result) = omega (arith, w) in record {
      within = let t = c.loop-at-test.true in omega (arith, w, l, long, t);
      same = i.same ∙ put.same
          ∙ ap (numbers_stored kind y n (from + at + width kind)) (drop-drop (width kind) at content ∙ ap (λ k. drop (at + k) content) (sym w))
          ∙ ap (λ k. numbers_stored kind y n k (drop (at + c.width-at.result) content)) next;
      has = put.has;
      held = λ n. (c.in-Ok-put_at.ensures {u = tt}).held n ∙ i.held n;
      tables = (c.in-Ok-put_at.ensures {u = tt}).tables ∙ i.tables;
    }

pub returns-clause-gives : goal.returns-clause-gives
returns-clause-gives c =
    let i = c.loop-at.invariant in
    let n = c.args.base.block.serial in
    let x = view_world c.loop-at.memory in
    let from = c.args.base.from + c.args.offset + c.loop-at.at in
    i.same ∙ ap (numbers_stored c.args.kind x n from) (drop_all c.loop-at.at c.args.content.now c.loop-at-test.false)
    ∙ stored_none c.args.kind n x from i.has
