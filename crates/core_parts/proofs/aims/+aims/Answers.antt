use Rattle.std.proofs.Common.{map, ap, ◌∙◌}
use Rattle.limbo_types.specs.View.{view_ty}
use Rattle.limbo_typed.specs.declared.expr.Place as code_place
use Rattle.limbo_typed.specs.View.{view_place_node}
use Rattle.limbo_meaning.specs.Program.{way_of}
use Rattle.core_parts.specs.Aims.{view_aim}
use Rattle.core_parts.proofs.Aimed.{aims_place, aims_nothing}
use Rattle.core_parts.proofs.aims.+aims.Goals as goal

pub add_aims-returns-in_ok-push-in-Place : goal.add_aims-returns-in_ok-push-in-Place
add_aims-returns-in_ok-push-in-Place t c =
    let part = c.in_ok-part-in-Place.part in
    let ty = c.in_ok-ty-in-Place.ty in
    let way = c.in_ok-way-in-Place.way in
    let same = ap (λ (p : code_place.Place). view_ty p.ty) c.deref.ensures in
    let there = ap (λ (p : code_place.Place). way_of (view_place_node p.at)) c.deref-in-Place.ensures in
    aims_place c.args.aims.now.items c.push.new.self.items (record { part = part; ty = ty; way = way }) c.args.part.now
    c.args.pattern.now c.in-Place.place c.in-Place.is (c.in_ok-push-in-Place.ensures {u = tt}).items
    (c.in_ok-part-in-Place.ensures {u = tt}).items ((c.in_ok-ty-in-Place.ensures {u = tt}) ∙ same)
    ((c.in_ok-way-in-Place.ensures {u = tt}) ∙ there)

pub add_aims-returns-in-Nothing : goal.add_aims-returns-in-Nothing
add_aims-returns-in-Nothing t c = aims_nothing (map view_aim c.args.aims.now.items) c.args.part.now c.args.pattern.now c.in-Nothing.is
