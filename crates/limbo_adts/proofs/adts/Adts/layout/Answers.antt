use Rattle.std.proofs.Common.{◌≡◌, length, ap, arith}
use Rattle.limbo_types.specs.View.{view_ty}
use Rattle.limbo_layout.specs.View.{view_defs}
use Rattle.limbo_adts.specs.Table.{Table, defs_of}
use Rattle.limbo_adts.proofs.Numbers.{held_there}
use Rattle.limbo_adts.proofs.adts.Adts.layout.Goals as goal

pub layout_of-requires : goal.layout_of-requires
layout_of-requires c = λ n h.
    let l = held_there _ _ (view_ty c.args.t.now) n c.requires h in
    let e : length (view_defs c.self.inside.defs.items) ≡ length (defs_of c.args.self.now) = ap (λ (t : Table). length (defs_of t)) c.self.view_is in
    let f : length c.deref.result.now ≡ length c.self.inside.rooms.items = ap (λ xs. length xs) c.deref.ensures.value in
    let s = c.self.invariant.laid.same_length in
    omega arith
