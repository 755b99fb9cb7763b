use Rattle.std.proofs.Common.{◌≡◌, replicate, false, rules}
use Rattle.limbo_order.proofs.Steps.{nothing_found}
use Rattle.limbo_order.proofs.ordering.empty_search.Goals as goal

pub returns : goal.returns
returns c = λ rows l.
    let a : c.in_ok-vec.field-0.items ≡ replicate c.args.count false = search rules in
    let b : c.in_ok-vec-2.field-0.items ≡ replicate c.args.count false = search rules in
    let d : c.in_ok-vec-3.field-0.items ≡ replicate c.args.count 0 = search rules in
    rw (a, b, d, c.in_ok-with_capacity.ensures.items) (nothing_found rows c.args.count l)
