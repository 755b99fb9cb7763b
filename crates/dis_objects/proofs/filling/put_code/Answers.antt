use Rattle.std.proofs.Common.{◌≡◌, ◌+◌, ◌++◌, [], map, drop, sym, ap, ◌∙◌, arith}
use Rattle.std.proofs.lemmas.List.{at_drop_all}
use Rattle.slot_code.specs.View.{view_inst, view_function}
use Rattle.dis_objects.specs.Frames.{made_by, most_bytes}
use Rattle.dis_objects.specs.Code.{data_of, insts_data}
use Rattle.dis_objects.specs.Sites.{made_of}
use Rattle.dis_objects.proofs.Filled.{data_next, most_rest, next_small, grows_next, places_next, grows_all}
use Rattle.dis_objects.proofs.filling.put_code.Goals as goal

pub put_inst-requires-clause-old_small : goal.put_inst-requires-clause-old_small
put_inst-requires-clause-old_small c =
    let n = next_small (map view_function c.args.functions.now) (made_of c.loop-inst.making) c.args.code.now c.loop-inst.inst-index
    c.inst-item.result 65536 c.loop-inst-test.true c.inst-item.is c.loop-inst.invariant.small in
    omega (arith, n.0, c.loop-inst.invariant.counted)

pub put_inst-requires-clause-small : goal.put_inst-requires-clause-small
put_inst-requires-clause-small c =
    (next_small (map view_function c.args.functions.now) (made_of c.loop-inst.making) c.args.code.now c.loop-inst.inst-index
    c.inst-item.result 65536 c.loop-inst-test.true c.inst-item.is c.loop-inst.invariant.small).1

pub step-requires-clause-old_small : goal.step-requires-clause-old_small
step-requires-clause-old_small c =
    let n = next_small (map view_function c.args.functions.now) (made_of c.loop-inst.making) c.args.code.now c.loop-inst.inst-index
    c.inst-item.result 65536 c.loop-inst-test.true c.inst-item.is c.loop-inst.invariant.small in
    omega (arith, n.0, c.loop-inst.invariant.counted)

pub step-requires-clause-small : goal.step-requires-clause-small
step-requires-clause-small c =
    (next_small (map view_function c.args.functions.now) (made_of c.loop-inst.making) c.args.code.now c.loop-inst.inst-index
    c.inst-item.result 65536 c.loop-inst-test.true c.inst-item.is c.loop-inst.invariant.small).1

pub loop-inst-preserved : goal.loop-inst-preserved
loop-inst-preserved c =
    let fs = map view_function c.args.functions.now in
    let is = c.args.code.now in
    let k = c.loop-inst.inst-index in
    let i = c.inst-item.result in
    let cs = made_of c.loop-inst.making in
    let rest = map view_inst (drop (k + 1) is) in
    let made : made_of c.step.new.self ≡ made_by cs (view_inst i) = (c.in_ok-step.ensures {u = tt}).made in
    let ds = data_of fs c.args.answer cs (view_inst i) in
    let e : insts_data fs c.args.answer cs (map view_inst (drop k is)) ≡ ds ++ insts_data fs c.args.answer (made_of c.step.new.self) rest =
    data_next fs c.args.answer cs is k i c.loop-inst-test.true c.inst-item.is
    ∙ ap (λ cs. ds ++ insts_data fs c.args.answer cs rest) (sym made) in
    let g = c.in_ok-put_inst.ensures {u = tt} in
    let m = ap (λ cs. most_bytes fs cs rest) made in
    let r = most_rest fs cs is k i c.loop-inst-test.true c.inst-item.is in
    record {
      counted = (c.in_ok-step.ensures {u = tt}).counted;
      small = omega (arith, m, r, c.loop-inst.invariant.small);
      places = places_next c.loop-inst.store.place c.put_inst.new.store.place _ _ ds
          (insts_data fs c.args.answer (made_of c.step.new.self) rest) e g.place_is c.loop-inst.invariant.places;
      grows = grows_next c.args.store.now c.loop-inst.store c.put_inst.new.store (insts_data fs c.args.answer [] (map view_inst is)) _ ds
          (insts_data fs c.args.answer (made_of c.step.new.self) rest) e g c.loop-inst.invariant.grows;
    }

pub returns : goal.returns
returns c =
    let fs = map view_function c.args.functions.now in
    let is = c.args.code.now in
    grows_all c.args.store.now c.loop-inst.store (insts_data fs c.args.answer [] (map view_inst is)) _
    (at_drop_all (λ xs. insts_data fs c.args.answer (made_of c.loop-inst.making) (map view_inst xs)) is c.loop-inst.inst-index
    c.loop-inst-test.false)
    c.loop-inst.invariant.grows
