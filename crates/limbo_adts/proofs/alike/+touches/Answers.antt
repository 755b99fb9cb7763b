use Rattle.std.proofs.Common.{◌≡◌, false, sym, ◌∙◌}
use Rattle.limbo_types.specs.View.{view_ty}
use Rattle.limbo_adts.specs.Reading.{alike}
use Rattle.limbo_adts.proofs.Likeness.{no_part}
use Rattle.limbo_adts.proofs.alike.+touches.Goals as goal

pub touches-returns-in_default : goal.touches-returns-in_default
touches-returns-in_default t c =
    let e : false ≡ alike (view_ty c.args.t.now) (view_ty c.args.u.now) = cc in
    e ∙ sym (no_part c.args.t.now (view_ty c.args.u.now) c.in_default.not-Array c.in_default.not-List c.in_default.not-Chan c.in_default.not-Tuple)
