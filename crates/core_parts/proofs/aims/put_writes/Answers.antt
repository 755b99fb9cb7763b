use Rattle.std.proofs.Common.{arith, map, length, ◌++◌, sym, ap, ◌∙◌}
use Rattle.std.proofs.lemmas.List.{append-nil, nil_from_length}
use Rattle.std.specs.Vec.Iter.{into_iter_items}
use Rattle.core_code.specs.Terms.{writes}
use Rattle.core_parts.specs.Aims.{view_aim}
use Rattle.core_parts.specs.Lowered.{code_of}
use Rattle.core_parts.proofs.Aimed.{writes_on}
use Rattle.core_parts.proofs.aims.put_writes.Goals as goal

pub loop-aim-preserved : goal.loop-aim-preserved
loop-aim-preserved c =
    let steps = c.in-Some.ensures.steps in
    let left = into_iter_items c.next.new.self in
    let code = code_of c.loop-aim.code.items in
    let long = ap length steps.0 in
    record {
      told = λ defs. writes_on defs (view_aim c.in-Some.aim) (map view_aim left) c.in_ok-operands.operands.items c.loop-aim.rest.now
          c.behind-rest.result.now c.args.from code _ (c.in_ok-operands.ensures {u = tt}) c.behind-rest.ensures
          (c.in_ok-put.ensures {u = tt})
          ∙ ap (λ xs. code ++ writes defs (map view_aim xs) c.loop-aim.rest.now c.args.from) (sym steps.0)
          ∙ c.loop-aim.invariant.told defs;
      counted = omega (arith, long, steps.1, c.loop-aim.invariant.counted);
    }

pub returns : goal.returns
returns c =
    let items = into_iter_items c.loop-aim.aim-iterator in
    let none = nil_from_length items (sym c.loop-aim.invariant.counted ∙ (c.in-None.ensures {u = tt}).steps.0) in
    let code = code_of c.loop-aim.code.items in
    let given = c.into_iter-aim-iterator.ensures.into_iter_gives in
    λ defs. sym (append-nil code) ∙ ap (λ xs. code ++ writes defs (map view_aim xs) c.loop-aim.rest.now c.args.from) (sym none)
    ∙ c.loop-aim.invariant.told defs
    ∙ ap (λ xs. code_of c.args.code.now.items ++ writes defs (map view_aim xs) c.args.slots.now c.args.from) given.0
