use Rattle.std.proofs.Common.{◌+◌, ◌<◌, ◌++◌, length, get_or, map, refl, sym, ap, ◌∙◌, subst, arith}
use Rattle.std.proofs.lemmas.List.{length-map}
use Rattle.slot_code.specs.View.{view_inst, view_function, view_module}
use Rattle.dis_objects.specs.Frames.{room_of}
use Rattle.dis_objects.specs.Code.{sizes, data_bytes}
use Rattle.dis_objects.specs.Objects.{functions_code, function_data, functions_data}
use Rattle.dis_objects.specs.Words.{SmallFrame}
use Rattle.dis_objects.specs.Sites.{view_room, places_from}
use Rattle.dis_objects.proofs.Seen.{seen}
use Rattle.dis_generation.proofs.Ready.{ready_stands, ready_length, ready_entry, ready_end, ready_near}
use Rattle.dis_generation.proofs.Steps.{functions_more, functions_data_more}
use Rattle.dis_generation.proofs.functions.emit_functions.Goals as goal

pub bounds-entries-number : goal.bounds-entries-number
bounds-entries-number c =
    let long = ap length c.deref-function-items.ensures.value in
    let n = length-map c.args.whole.now.functions.items view_function in
    let l = ready_length _ _ _ c.requires.ready in
    omega (arith, long, n, l, c.loop-number-test.true)

pub places_of-requires : goal.places_of-requires
places_of-requires c =
    let fs = c.args.whole.now.functions.items in
    let k = c.loop-number.number in
    let f = c.function-item.result in
    let same = c.deref-function-items.ensures.value in
    let long = ap length same in
    let lt : k < length fs = omega (arith, long, c.loop-number-test.true) in
    let at = c.function-item.is ∙ ap (λ xs. get_or xs k f) same in
    let n = length-map fs view_function in
    let e = ready_entry _ _ _ c.requires.ready k 0 (omega (arith, n, lt)) in
    let b = ready_end _ _ _ c.requires.ready k (view_function f) (seen fs k f lt at) in
    let s = ap (λ xs. sizes (map view_inst xs)) c.deref.ensures.value in
    omega (arith, e, b, s)

pub room_of-requires : goal.room_of-requires
room_of-requires c =
    let fs = c.args.whole.now.functions.items in
    let k = c.loop-number.number in
    let f = c.function-item.result in
    let same = c.deref-function-items.ensures.value in
    let long = ap length same in
    let lt : k < length fs = omega (arith, long, c.loop-number-test.true) in
    let at = c.function-item.is ∙ ap (λ xs. get_or xs k f) same in
    subst (λ xs. SmallFrame (map view_function xs) (view_function f)) (sym c.deref-in-loop-number.ensures.value)
    (c.requires.ready.small.frames k (view_function f) (seen fs k f lt at))

pub emit_function-requires-clause-stands : goal.emit_function-requires-clause-stands
emit_function-requires-clause-stands c =
    let fs = c.args.whole.now.functions.items in
    let k = c.loop-number.number in
    let f = c.function-item.result in
    let same = c.deref-function-items.ensures.value in
    let long = ap length same in
    let lt : k < length fs = omega (arith, long, c.loop-number-test.true) in
    let at = c.function-item.is ∙ ap (λ xs. get_or xs k f) same in
    let n = length-map fs view_function in
    let e = ready_entry _ _ _ c.requires.ready k 0 (omega (arith, n, lt)) in
    ready_stands _ _ _ c.requires.ready k (view_function f) (view_room c.in_ok-room_of.field-0) c.deref-in-loop-number-2.result.now
    (seen fs k f lt at)
    (c.in_ok-room_of.ensures {u = tt} ∙ ap (λ xs. room_of (map view_function xs) (view_function f)) c.deref-in-loop-number.ensures.value)
    (c.deref-in-loop-number-2.ensures.value
    ∙ c.in_ok-places.ensures {u = tt}
    ∙ ap (λ xs. places_from (get_or c.args.entries.now k 0) (map view_inst xs)) c.deref.ensures.value
    ∙ ap (λ b. places_from b (view_function f).code) e)

pub emit_function-requires-clause-near : goal.emit_function-requires-clause-near
emit_function-requires-clause-near c =
    let fs = c.args.whole.now.functions.items in
    let k = c.loop-number.number in
    let f = c.function-item.result in
    let same = c.deref-function-items.ensures.value in
    let long = ap length same in
    let lt : k < length fs = omega (arith, long, c.loop-number-test.true) in
    let at = c.function-item.is ∙ ap (λ xs. get_or xs k f) same in
    let all = map view_function fs in
    let step = functions_data_more all fs k c.loop-number.next (c.loop-number.next + data_bytes (function_data all (view_function f)))
    (c.args.at + data_bytes (functions_data all all)) f lt at refl c.loop-number.invariant.counted in
    let near = ready_near _ _ _ c.requires.ready in
    let zeros = c.requires.ready.zeros_are in
    omega (arith, step.0, near, zeros, c.requires.at)

pub loop-number-preserved : goal.loop-number-preserved
loop-number-preserved c =
    let fs = c.args.whole.now.functions.items in
    let k = c.loop-number.number in
    let f = c.function-item.result in
    let m = view_module c.args.whole.now in
    let same = c.deref-function-items.ensures.value in
    let long = ap length same in
    let lt : k < length fs = omega (arith, long, c.loop-number-test.true) in
    let at = c.function-item.is ∙ ap (λ xs. get_or xs k f) same in
    let step = (c.in_ok-next.ensures {u = tt}).next in
    record {
      made = functions_more m fs k c.loop-number.next c.in_ok-next.next f c.loop-number.insts.items c.emit_function.new.insts.items
          (c.args.insts.now.items ++ functions_code m 0 c.args.at m.functions) lt at step (c.in_ok-next.ensures {u = tt}).added
          c.loop-number.invariant.made;
      counted = (functions_data_more m.functions fs k c.loop-number.next c.in_ok-next.next
          (c.args.at + data_bytes (functions_data m.functions m.functions)) f lt at step c.loop-number.invariant.counted).1;
    }
