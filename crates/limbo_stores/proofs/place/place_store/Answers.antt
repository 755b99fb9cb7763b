use Rattle.std.proofs.Common.{refl}
use Rattle.limbo_adts.specs.Table.{defs_of}
use Rattle.limbo_typed.specs.View.{view_place}
use Rattle.limbo_stores.proofs.Told.{place_opaque, place_cyclic, place_allowed, not_true}
use Rattle.limbo_stores.proofs.place.place_store.Goals as goal

pub returns-then-lies_in_fd : goal.returns-then-lies_in_fd
returns-then-lies_in_fd c = place_opaque (defs_of c.args.adts.now) c.args.fd (view_place c.args.place.now) c.if-lies_in_fd.ensures

pub returns-then-can_close : goal.returns-then-can_close
returns-then-can_close c =
    place_cyclic (defs_of c.args.adts.now) c.args.fd (view_place c.args.place.now) c.if-lies_in_fd.ensures (c.if-can_close.ensures.0 refl)

pub returns-else-can_close : goal.returns-else-can_close
returns-else-can_close c =
    place_allowed (defs_of c.args.adts.now) c.args.fd (view_place c.args.place.now) c.if-lies_in_fd.ensures
    (not_true c.if-can_close.ensures)
