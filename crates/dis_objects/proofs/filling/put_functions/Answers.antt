use Rattle.std.proofs.Common.{◌+◌, [], map, drop, ap, subst, arith}
use Rattle.std.proofs.lemmas.List.{at_drop_all}
use Rattle.slot_code.specs.View.{view_inst, view_function}
use Rattle.dis_objects.specs.Frames.{most_bytes}
use Rattle.dis_objects.specs.Code.{insts_data, data_bytes}
use Rattle.dis_objects.specs.Objects.{functions_data}
use Rattle.dis_objects.specs.Growing.{GrowsBy}
use Rattle.dis_objects.proofs.Seen.{seen}
use Rattle.dis_objects.proofs.Growing.{bytes_append}
use Rattle.dis_objects.proofs.Walks.{most_small}
use Rattle.dis_objects.proofs.Filled.{functions_next, grows_next, places_next, grows_all}
use Rattle.dis_objects.proofs.filling.put_functions.Goals as goal

pub put_code-requires-clause-small : goal.put_code-requires-clause-small
put_code-requires-clause-small c =
    let fs = c.args.functions.now in
    let k = c.loop-function.function-index in
    let f = c.function-item.result in
    let s = most_small (map view_function fs) (view_function f) (c.requires.small k (view_function f)
    (seen fs k f c.loop-function-test.true c.function-item.is)) in
    let same = ap (λ xs. most_bytes (map view_function fs) [] (map view_inst xs)) c.deref.ensures.value in
    omega (arith, s, same)

pub put_code-requires-clause-place : goal.put_code-requires-clause-place
put_code-requires-clause-place c =
    let fs = c.args.functions.now in
    let k = c.loop-function.function-index in
    let f = c.function-item.result in
    let e = ap data_bytes (functions_next (map view_function fs) fs k f c.loop-function-test.true c.function-item.is) in
    let a = bytes_append (insts_data (map view_function fs) f.answer [] (map view_inst f.code.items))
    (functions_data (map view_function fs) (map view_function (drop (k + 1) fs))) in
    let same = ap (λ xs. data_bytes (insts_data (map view_function fs) f.answer [] (map view_inst xs))) c.deref.ensures.value in
    omega (arith, e, a, same, c.loop-function.invariant.places, c.requires.place)

pub loop-function-preserved : goal.loop-function-preserved
loop-function-preserved c =
    let fs = c.args.functions.now in
    let k = c.loop-function.function-index in
    let f = c.function-item.result in
    let e = functions_next (map view_function fs) fs k f c.loop-function-test.true c.function-item.is in
    let own = insts_data (map view_function fs) f.answer [] (map view_inst f.code.items) in
    let g = subst (λ xs. GrowsBy c.loop-function.store c.put_code.new.store
    (insts_data (map view_function fs) f.answer [] (map view_inst xs))) c.deref.ensures.value (c.in_ok-put_code.ensures {u = tt}) in
    record {
      places = places_next c.loop-function.store.place c.put_code.new.store.place _ _ own
          (functions_data (map view_function fs) (map view_function (drop (k + 1) fs))) e g.place_is c.loop-function.invariant.places;
      grows = grows_next c.args.store.now c.loop-function.store c.put_code.new.store
          (functions_data (map view_function fs) (map view_function fs)) _ own
          (functions_data (map view_function fs) (map view_function (drop (k + 1) fs))) e g c.loop-function.invariant.grows;
    }

pub returns : goal.returns
returns c =
    let fs = c.args.functions.now in
    grows_all c.args.store.now c.loop-function.store (functions_data (map view_function fs) (map view_function fs)) _
    (at_drop_all (λ xs. functions_data (map view_function fs) (map view_function xs)) fs c.loop-function.function-index
    c.loop-function-test.false)
    c.loop-function.invariant.grows
