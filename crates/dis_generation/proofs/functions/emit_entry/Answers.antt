use Rattle.std.proofs.Common.{◌++◌, get_or, map, ap, arith}
use Rattle.slot_code.specs.View.{view_function}
use Rattle.dis_generation.proofs.Ready.{ready_few, ready_length, ready_entry, ready_small, entry_some}
use Rattle.dis_generation.proofs.functions.emit_entry.Goals as goal

pub offset_bounds-entries-number : goal.offset_bounds-entries-number
offset_bounds-entries-number c =
    let w = c.requires.within c.in-Some.number c.in-Some.is in
    let f = ready_few _ _ _ c.requires.ready in
    omega (arith, w, f)

pub bounds-entries-number : goal.bounds-entries-number
bounds-entries-number c =
    let w = c.requires.within c.in-Some.number c.in-Some.is in
    let l = ready_length _ _ _ c.requires.ready in
    omega (arith, w, l)

pub emit_begin-requires : goal.emit_begin-requires
emit_begin-requires c =
    let w = c.requires.within c.in-Some.number c.in-Some.is in
    let e = ready_entry _ _ _ c.requires.ready c.in-Some.number 0 w in
    let s = ready_small _ _ _ c.requires.ready c.in-Some.number in
    record { begin = omega (arith, e, s) }

pub returns-in-Some : goal.returns-in-Some
returns-in-Some c =
    let w = c.requires.within c.in-Some.number c.in-Some.is in
    let e = ready_entry _ _ _ c.requires.ready c.in-Some.number 0 w in
    let same = ap (λ xs. c.args.insts.now.items ++ xs) (entry_some (map view_function c.args.whole.now.functions.items) c.args.init
    c.in-Some.number (get_or c.args.entries.now c.in-Some.number 0) c.in-Some.is e) in
    rw (← same) c.emit_begin.ensures
