use Rattle.std.proofs.Common.{◌+◌, ◌<◌, map, drop, get_or, take, ap, ◌∙◌, arith}
use Rattle.slot_code.specs.View.{view_global}
use Rattle.dis_objects.specs.Code.{globals_bytes}
use Rattle.dis_objects.proofs.Layouts.{taken_more}
use Rattle.dis_objects.proofs.Filled.{nothing, globals_next}
use Rattle.dis_objects.proofs.places.bytes_before.Goals as goal

pub loop-global-preserved : goal.loop-global-preserved
loop-global-preserved c =
    let vs = c.args.globals.now in
    let k = c.loop-global.global-index in
    let v = get_or vs k nothing in
    let e = globals_next vs k c.loop-global-test.true in
    let more : 0 < c.loop-global.left = omega (arith, c.if-left-eq0.false) in
    let w = ap globals_bytes e in
    let s = ap (λ xs. globals_bytes (take c.loop-global.left xs)) e
    ∙ taken_more c.loop-global.left (view_global v) (map view_global (drop (k + 1) vs)) more in
    record {
      within = omega (arith, w, c.global_bytes-bytes.ensures.value, c.loop-global.invariant.within);
      stands = omega (arith, s, c.global_bytes-bytes.ensures.value, c.loop-global.invariant.stands);
    }
