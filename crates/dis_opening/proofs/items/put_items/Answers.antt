use Rattle.std.proofs.Common.{suc, ◌∷◌, ap, sym, ◌∙◌, drop, drop-cons}
use Rattle.dis_counts.specs.Opening.{with_item, with_items}
use Rattle.dis_opening.specs.Loading.{view_loading}
use Rattle.dis_opening.proofs.Refusing.{refuses_on, refuses_same}
use Rattle.dis_opening.proofs.items.put_items.Goals as goal

pub returns-in-Err-clause-gives : goal.returns-in-Err-clause-gives
returns-in-Err-clause-gives c =
    let o = c.args.code.now.object in
    let l = view_loading c.loop-item.loading in
    let items = c.args.items.now in
    let k = c.loop-item.item-index in
    let i = c.item-item.result in
    refuses_same c.in-Err.fault _ _
    (c.loop-item.invariant.same
    ∙ ap (with_items o l) (drop-cons items k i c.loop-item-test.true ∙ ap (λ j. j ∷ drop (suc k) items) (sym c.item-item.is)))
    (refuses_on c.in-Err.fault (with_item o l i) (λ m. with_items o m (drop (suc k) items)) (c.in-Err.ensures {u = tt}).gives)
