use Rattle.std.proofs.Common.{refl, sym, subst}
use Rattle.std.specs.Option.{IsSome}
use Rattle.limbo_cases.proofs.Orders.{not_above, at_most, not_less}
use Rattle.limbo_cases.proofs.overlapping.last_begun.Goals as goal

pub returns-in-Some : goal.returns-in-Some
returns-in-Some g c =
    let h = c.range.ensures.in_range tt in
    let in_range = h.3 _ _ c.in-Some.ensures.steps in
    record {
      place = c.in-Some.field-0-0.now;
      there = in_range.1;
      begun = at_most (g.T.Ord.cmp c.in-Some.field-0-0.now.now c.args.high.now) in_range.0.1;
      last = λ q m s l. not_less g.met.T.Ord.total c.in-Some.field-0-0.now.now q.now
          (h.4 _ _ c.in-Some.ensures.steps q (tt, not_above (g.T.Ord.cmp q.now c.args.high.now) l) (subst IsSome (sym s) refl));
    }

pub returns-in-None : goal.returns-in-None
returns-in-None g c q l = (c.range.ensures.in_range tt).5 c.in-None.ensures.steps.0 q (tt, not_above (g.T.Ord.cmp q.now c.args.high.now) l)
