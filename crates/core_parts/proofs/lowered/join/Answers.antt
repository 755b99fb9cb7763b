use Rattle.std.proofs.Common.{arith, length, ◌++◌, sym, ap, ◌∙◌}
use Rattle.std.proofs.lemmas.List.{append-nil, nil_from_length}
use Rattle.std.specs.Vec.Iter.{into_iter_items}
use Rattle.core_parts.specs.Lowered.{code_of, codes_of, joined}
use Rattle.core_parts.proofs.Coded.{codes_of_none, codes_of_more, joined_on}
use Rattle.core_parts.proofs.lowered.join.Goals as goal

pub loop-own-preserved : goal.loop-own-preserved
loop-own-preserved c =
    let steps = c.in-Some.ensures.steps in
    let left = into_iter_items c.next.new.self in
    let code = code_of c.loop-own.code.items in
    let long = ap length steps.0 in
    record {
      told = joined_on (codes_of left) (code_of c.in-Some.own.items) code _ (c.in_ok-put_all.ensures {u = tt})
          ∙ ap (λ cs. code ++ joined cs) (sym (ap codes_of steps.0 ∙ codes_of_more c.in-Some.own left))
          ∙ c.loop-own.invariant.told;
      counted = omega (arith, long, steps.1, c.loop-own.invariant.counted);
    }

pub returns : goal.returns
returns c =
    let items = into_iter_items c.loop-own.own-iterator in
    let none = nil_from_length items (sym c.loop-own.invariant.counted ∙ (c.in-None.ensures {u = tt}).steps.0) in
    let code = code_of c.loop-own.code.items in
    let given = c.into_iter-own-iterator.ensures.into_iter_gives in
    sym (append-nil code) ∙ ap (λ cs. code ++ joined cs) (sym (ap codes_of none ∙ codes_of_none)) ∙ c.loop-own.invariant.told
    ∙ ap (λ cs. joined (codes_of cs)) given.0
