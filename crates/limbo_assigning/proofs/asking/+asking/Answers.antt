use Rattle.std.proofs.Common.{◌≡◌, ◌+◌, List, map, None, sym, ap, ◌∙◌, rules, tests}
use Rattle.limbo_types.specs.Types.{Ty}
use Rattle.limbo_types.specs.View.{view_ty}
use Rattle.limbo_typed.specs.View.{view_pattern}
use Rattle.limbo_assigning.specs.Choosing.{asked}
use Rattle.limbo_assigning.proofs.Fronts.{types_front, asked_from, ask_next, ask_stops, ask_short, ask_done, ask_more, map_last}
use Rattle.limbo_assigning.proofs.asking.+asking.Goals as goal

pub ask_each-returns-in_default : goal.ask_each-returns-in_default
ask_each-returns-in_default t c =
    sym (c.loop-pattern.invariant
    ∙ ask_short c.args.patterns.now c.loop-pattern.pattern-index c.pattern-item.result c.loop-pattern.rest.now (map view_ty c.loop-pattern.asked.items)
    c.loop-pattern-test.true c.pattern-item.is c.in_default.ensures.cases)

pub ask_each-returns-in_default-2 : goal.ask_each-returns-in_default-2
ask_each-returns-in_default-2 t c =
    let none : asked (view_pattern c.pattern-item.result) (view_ty c.in-Some.part.now) ≡ None = search rules in
    sym (c.loop-pattern.invariant
    ∙ ask_stops c.args.patterns.now c.loop-pattern.pattern-index c.pattern-item.result c.loop-pattern.rest.now c.in-Some.part.now c.in-Some.more.now
    (map view_ty c.loop-pattern.asked.items) c.loop-pattern-test.true c.pattern-item.is (search rules) none)

pub ask_each-loop-pattern-preserved : goal.ask_each-loop-pattern-preserved
ask_each-loop-pattern-preserved t c =
    c.loop-pattern.invariant
    ∙ ask_next c.args.patterns.now c.loop-pattern.pattern-index c.pattern-item.result c.loop-pattern.rest.now c.in-Some.part.now c.in-Some.more.now
    (map view_ty c.loop-pattern.asked.items) (view_ty c.in-Some-2.t) c.loop-pattern-test.true c.pattern-item.is (search rules) (search rules)
    ∙ ap (λ (z : List Ty). types_front z (asked_from c.args.patterns.now (c.loop-pattern.pattern-index + 1) c.in-Some.more.now))
    (sym (ap (map view_ty) c.in_ok-push.ensures.items ∙ map_last view_ty c.loop-pattern.asked.items c.in-Some-2.t))

pub ask_each-returns-then-is_empty : goal.ask_each-returns-then-is_empty
ask_each-returns-then-is_empty t c =
    sym (c.loop-pattern.invariant
    ∙ ask_done c.args.patterns.now c.loop-pattern.pattern-index c.loop-pattern.rest.now (map view_ty c.loop-pattern.asked.items)
    c.loop-pattern-test.false (search (rules, tests)))

pub ask_each-returns-else-is_empty : goal.ask_each-returns-else-is_empty
ask_each-returns-else-is_empty t c =
    sym (c.loop-pattern.invariant
    ∙ ask_more c.args.patterns.now c.loop-pattern.pattern-index c.loop-pattern.rest.now (map view_ty c.loop-pattern.asked.items)
    c.loop-pattern-test.false (search (rules, tests)))
