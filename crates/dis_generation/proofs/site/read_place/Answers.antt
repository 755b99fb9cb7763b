use Rattle.std.proofs.Common.{map, ap, arith}
use Rattle.slot_code.specs.View.{view_global}
use Rattle.dis_objects.specs.Code.{globals_bytes}
use Rattle.dis_objects.proofs.Layouts.{place_before, taken_few}
use Rattle.dis_generation.proofs.Ready.{variables_small, within_few}
use Rattle.dis_generation.proofs.site.read_place.Goals as goal

pub own-requires : goal.own-requires
own-requires c =
    let p = place_before 32 c.args.site.now.function.now.variables.items c.in-Variable.number in
    let s = variables_small _ _ _ _ _ _ _ c.requires.stands in
    omega (arith, p, s, c.variable_place.ensures)

pub offset-requires : goal.offset-requires
offset-requires c =
    let t = taken_few c.in-Global.number (map view_global c.deref.result.now) in
    let e = ap (λ xs. globals_bytes (map view_global xs)) c.deref.ensures.value in
    let g = c.requires.stands.globals in
    let k = within_few c.in-Global.kind in
    omega (arith, t, e, g, k, c.global_place.ensures)
