use Rattle.std.proofs.Common.{map, arith}
use Rattle.slot_code.specs.View.{view_function, view_global}
use Rattle.dis_objects.specs.Objects.{functions_data}
use Rattle.dis_objects.proofs.Filled.{filled_items, filled_words, filled_place}
use Rattle.dis_objects.proofs.filling.data_of.Goals as goal

pub put_globals-requires : goal.put_globals-requires
put_globals-requires c = omega (arith, c.requires.place, (c.in_ok-store.ensures {u = tt}).place)

pub put_functions-requires-clause-place : goal.put_functions-requires-clause-place
put_functions-requires-clause-place c =
    let g = (c.in_ok-put_globals.ensures {u = tt}).place_is in
    omega (arith, c.requires.place, (c.in_ok-store.ensures {u = tt}).place, g)

pub returns-clause-items : goal.returns-clause-items
returns-clause-items c =
    let fs = map view_function c.args.functions.now in
    let first = c.in_ok-store.ensures {u = tt} in
    filled_items (map view_global c.args.globals.now) (functions_data fs fs) c.in_ok-store.store c.put_globals.new.store
    c.put_functions.new.store
    first.items first.words first.place (c.in_ok-put_globals.ensures {u = tt}) (c.in_ok-put_functions.ensures {u = tt})

pub returns-clause-words : goal.returns-clause-words
returns-clause-words c =
    let fs = map view_function c.args.functions.now in
    let first = c.in_ok-store.ensures {u = tt} in
    filled_words (map view_global c.args.globals.now) (functions_data fs fs) c.in_ok-store.store c.put_globals.new.store
    c.put_functions.new.store
    first.items first.words first.place (c.in_ok-put_globals.ensures {u = tt}) (c.in_ok-put_functions.ensures {u = tt})

pub returns-clause-place : goal.returns-clause-place
returns-clause-place c =
    let fs = map view_function c.args.functions.now in
    let first = c.in_ok-store.ensures {u = tt} in
    filled_place (map view_global c.args.globals.now) (functions_data fs fs) c.in_ok-store.store c.put_globals.new.store
    c.put_functions.new.store
    first.items first.words first.place (c.in_ok-put_globals.ensures {u = tt}) (c.in_ok-put_functions.ensures {u = tt})
