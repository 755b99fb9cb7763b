use Rattle.std.proofs.Common.{◌≡◌, cond, [], ◌∷◌, ◌++◌, length, None, Some, sym, ap, ◌∙◌}
use Rattle.std.specs.Ordering.{nat_cmp}
use Rattle.std.specs.BTreeMap.{is_at, get}
use Rattle.link_sign.specs.TypeText.{opened_as}
use Rattle.link_sign.proofs.Opening.{still_placed}
use Rattle.link_sign.proofs.opened.Opened.open.Goals as goal

pub invariant_of-self-2 : goal.invariant_of-self-2
invariant_of-self-2 c =
    let order = c.self.inside.order.items in
    let n = c.args.adt in
    let none : opened_as order n ≡ None = ap (λ z. opened_as z n) c.self.view_is ∙ c.requires in
    let count : c.len.result ≡ length order = c.len.ensures ∙ c.reserve.new.self.ok.0 ∙ ap length c.reserve.ensures.items in
    record {
      placed = λ q.
          c.in_ok-insert.ensures.updates.0 q
          ∙ ap (λ l. cond (is_at (nat_cmp n) q) (Some l) (get nat_cmp c.self.inside.places q)) count
          ∙ still_placed (λ m. m) order n q none (get nat_cmp c.self.inside.places q) (c.self.invariant.placed q)
          ∙ ap (λ z. opened_as z q) (sym (c.push_reserved.ensures.items ∙ ap (λ z. z ++ n ∷ []) c.reserve.ensures.items));
    }
