use Rattle.std.proofs.Common.{◌+◌, map, drop, get_or, ap, arith}
use Rattle.std.proofs.lemmas.List.{at_drop_all}
use Rattle.slot_code.specs.View.{view_global}
use Rattle.dis_objects.specs.Code.{globals_bytes}
use Rattle.dis_objects.proofs.Filled.{nothing, globals_next, adds_next, adds_all}
use Rattle.dis_objects.proofs.filling.put_globals.Goals as goal

pub put_global-requires : goal.put_global-requires
put_global-requires c = omega (arith, c.loop-global.invariant.places, c.requires)

pub loop-global-preserved : goal.loop-global-preserved
loop-global-preserved c =
    let e = globals_next c.args.globals.now c.loop-global.global-index c.loop-global-test.true in
    let g = c.in_ok-put_global.ensures {u = tt} in
    let n = ap globals_bytes e in
    record {
      places = omega (arith, n, g.place_is, c.loop-global.invariant.places);
      grows = adds_next c.args.store.now c.loop-global.store c.put_global.new.store (map view_global c.args.globals.now) _
          (map view_global (drop (c.loop-global.global-index + 1) c.args.globals.now))
          (view_global (get_or c.args.globals.now c.loop-global.global-index nothing)) e g c.loop-global.invariant.grows;
    }

pub returns : goal.returns
returns c =
    adds_all c.args.store.now c.loop-global.store (map view_global c.args.globals.now) _
    (at_drop_all (λ xs. map view_global xs) c.args.globals.now c.loop-global.global-index c.loop-global-test.false)
    c.loop-global.invariant.grows
