use Rattle.std.proofs.Common.{length, map, ap, arith}
use Rattle.std.proofs.lemmas.List.{length-map}
use Rattle.slot_code.specs.View.{view_function, view_global}
use Rattle.dis_objects.specs.Code.{globals_bytes, data_bytes}
use Rattle.dis_objects.specs.Objects.{functions_data, zeros_bytes, most_of_all}
use Rattle.dis_objects.proofs.Walks.{zeros_small, printed_small}
use Rattle.dis_generation.proofs.Ready.{ready_few, ready_near}
use Rattle.dis_generation.proofs.object.make_object.Goals as goal

pub data_of-requires-clause-place : goal.data_of-requires-clause-place
data_of-requires-clause-place c =
    let n = ready_near _ _ _ c.requires.ready in
    let g = ap (λ xs. globals_bytes (map view_global xs)) c.as_slice.ensures.value in
    let d = ap (λ xs. data_bytes (functions_data (map view_function xs) (map view_function xs))) c.as_slice-functions.ensures.value in
    omega (arith, n, g, d)

pub zeros_bytes-requires : goal.zeros_bytes-requires
zeros_bytes-requires c =
    let z = zeros_small _ _ c.requires.ready.small.frames in
    let e = ap (λ xs. zeros_bytes (map view_function xs) (map view_function xs)) c.as_slice-functions.ensures.value in
    omega (arith, z, e)

pub overflow_add-size : goal.overflow_add-size
overflow_add-size c =
    let n = ready_near _ _ _ c.requires.ready in
    let g = ap (λ xs. globals_bytes (map view_global xs)) c.as_slice.ensures.value in
    let d = ap (λ xs. data_bytes (functions_data (map view_function xs) (map view_function xs))) c.as_slice-functions.ensures.value in
    let z = zeros_small _ _ c.requires.ready.small.frames in
    let e = ap (λ xs. zeros_bytes (map view_function xs) (map view_function xs)) c.as_slice-functions.ensures.value in
    omega (arith, n, g, d, z, e, (c.in_ok-store.ensures {u = tt}).place, c.zeros_bytes.ensures)

pub types_of-requires-clause-most : goal.types_of-requires-clause-most
types_of-requires-clause-most c =
    let z = printed_small _ _ c.requires.ready.small.frames in
    let e = ap (λ xs. most_of_all (map view_function xs)) c.as_slice-functions.ensures.value in
    omega (arith, z, e)

pub entry_type_of-requires-clause-few : goal.entry_type_of-requires-clause-few
entry_type_of-requires-clause-few c =
    let f = ready_few _ _ _ c.requires.ready in
    let l = length-map c.args.whole.now.functions.items view_function in
    let e = ap length c.as_slice-functions.ensures.value in
    omega (arith, f, l, e)

pub links_of-requires : goal.links_of-requires
links_of-requires c = λ x e.
    let f = ready_few _ _ _ c.requires.ready in
    let w = c.requires.within x e in
    omega (arith, f, w)
